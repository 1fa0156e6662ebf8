-- The outline of a part of a view, out of what is kept or read.
use Rattle.std.proofs.Common.{◌≡◌, refl, sym, ap, ◌∙◌, subst, ℕ, ◌≤◌, false, List, length, Result, Some, None, Ok, Err, arith}
use Rattle.std.specs.Prelude.{insert, option_map, position}
use Rattle.archive_port.specs.declared.state.ArchiveState.{Ghosts}
use Rattle.archive_model.specs.Records.{Archive}
use Rattle.archive_model.specs.Questions.{messages_in}
use Rattle.archive_port.specs.Told.{LeavesArchive, memory_refusal_count, StoreHasCleanDisk, HoldsTables, IsOpen, StaysOpenUnlessDiskFails, archive_in}
use Rattle.archive_port.proofs.Joins.{goes_in_as, stays_there_in}
use Rattle.archive_port.proofs.LastLemmas.{left_calls}
use Rattle.archive_results.specs.Access.{Ask, ReaderFacts}
use Rattle.archive_desk.specs.Asking.{DeterminesVerdicts}
use Rattle.archive_desk.specs.Causes.{IsQuestionUnreadable}
use Rattle.archive_desk.specs.Ending.{EndsDeskCall, EndsDeskQuestion}
use Rattle.archive_desk.specs.Faults.{IsAskFault, RefusalReason, ask_reason, refusal_reason}
use Rattle.archive_desk.specs.Holding.{AnswersFromStoreTables, RelatesTableArchives}
use Rattle.archive_desk.specs.declared.faults.DeskError.{DeskError}
use Rattle.archive_desk.proofs.CallLemmas.{calls_after, calls_last}
use Rattle.archive_desk.proofs.EndLemmas.{ask_after}
use Rattle.archive_cache.specs.ListIndexes.{ListIndex, index_for_ask, index_restricted_to}
use Rattle.archive_cache.specs.Parts.{ViewPart, whole, month, author, same_part}
use Rattle.archive_cache.specs.Views.{CachedView, CacheState, WithheldMessage, DropsOldest, IsCacheBounded, is_view_of, cached_index_at, insertion_place}
use Rattle.archive_cache.specs.Coherence.{IsCacheCoherent, AreWithheldCoherent, AreCoherent, FindsListIndex, KeepsCacheCoherent}
use Rattle.archive_cache.proofs.ViewLemmas.{Found, found_view, outline_put, put_within, some_is}
use Rattle.archive_cache.proofs.KeepLemmas.{of_asked, of_at, of_dropped, of_more}

-- what is kept of it answers the question
outline_found : (a : Archive) (ask : Ask) (reader : ReaderFacts) (part : ViewPart) (kept : CacheState) (place : ℕ) → Found ask.list reader part kept.views place → DeterminesVerdicts a ask reader
    → IsCacheCoherent a ask.rules ask.day kept → cached_index_at kept place ≡ Some (index_for_ask a ask part)
outline_found a ask reader part kept place found enough are =
    ap (option_map (λ (v : CachedView). v.outline)) found.there
    ∙ ap (λ (o : ListIndex). Some o) (of_at a ask.rules ask.day kept.views place found.view are.0 found.there ask refl refl (sym found.list_matches)
    (subst (λ r. DeterminesVerdicts a ask r) (sym found.reader_is) enough) ∙ ap (index_for_ask a ask) found.part_is)

-- a month or an author out of the whole
part_of_whole : (a : Archive) (ask : Ask) (part : ViewPart) → same_part part whole ≡ false → index_restricted_to part (index_for_ask a ask whole) ≡ index_for_ask a ask part
part_of_whole a ask whole other = absurd (cc)
part_of_whole a ask (month m) other = refl
part_of_whole a ask (author key) other = refl

module _ {S W : Type 0} (g : Ghosts S W) (ask : Ask) (reader : ReaderFacts) where
  -- behind a call that leaves the archive
  pub index_left : (part : ViewPart) (old mid new : S) (kept later : CacheState) (result : Result ℕ DeskError) → LeavesArchive g mid new → FindsListIndex g old mid ask reader part kept later result
      → FindsListIndex g old new ask reader part kept later result
  index_left part old mid new kept later result leaves it = record {
    calls_store = left_calls g old mid new leaves refusal_reason
        (λ a b place. (b ≡ a) × (DeterminesVerdicts a ask reader → IsCacheCoherent a ask.rules ask.day kept → cached_index_at later place ≡ Some (index_for_ask a ask part)))
        (λ a b why. (b ≡ a) × (ask_reason a ask ≡ Some why)) (λ a b _. b ≡ a) result it.calls_store;
    finds_index = λ clean. it.finds_index (leaves.remains_open.disk_was_clean clean);
    capacity_is_same = it.capacity_is_same;
    cache_stays_bounded = it.cache_stays_bounded;
  }

  -- where the marks are enough to know, and what was kept is of the archive
  abbrev pub Given : CacheState → Archive → Type 0 → Type 0
  Given kept a Then = DeterminesVerdicts a ask reader → IsCacheCoherent a ask.rules ask.day kept → Then

  -- the outline at a place is that of the part of the view
  abbrev pub Stands : ViewPart → (old new : CacheState) (place : ℕ) → Archive → Archive → Type 0
  Stands part old new place a b = (b ≡ a) × Given old a (cached_index_at new place ≡ Some (index_for_ask a ask part))

  -- an outline is
  abbrev pub IsMade : ViewPart → CacheState → ListIndex → Archive → Archive → Type 0
  IsMade part kept outline a b = (b ≡ a) × Given kept a (outline ≡ index_for_ask a ask part)

  -- what is kept stays of the archive
  abbrev pub Stays : (old new : S) (kept later : CacheState) → Type 0
  Stays old new kept later = StoreHasCleanDisk g new → HoldsTables g old → Given kept (archive_in g old) (IsCacheCoherent (archive_in g old) ask.rules ask.day later)

  module _ (part : ViewPart) where
    -- it is kept
    pub finds_kept : (store : S) (kept : CacheState) (place : ℕ) → Some place ≡ position (is_view_of ask.list reader part) kept.views
        → FindsListIndex g store store ask reader part kept kept (Ok place)
    finds_kept store kept place is = record {
      calls_store = goes_in_as g (HoldsTables g) store store (λ a b. b ≡ a) (Stands part kept kept place)
          (λ a b same. (same, (λ enough are. outline_found a ask reader part kept place (found_view ask.list reader part kept.views place is) enough are))) (stays_there_in g (HoldsTables g) store);
      finds_index = λ returned held enough are. are;
      capacity_is_same = refl;
      cache_stays_bounded = λ within. within;
    }

    -- it cannot be read
    pub finds_none : (old new : S) (kept : CacheState) (fault : DeskError) (Says : Archive → ListIndex → Type 0)
        → AnswersFromStoreTables g old new {A = ListIndex} refusal_reason (Err fault) (λ a. ask_reason a ask) Says → FindsListIndex g old new ask reader part kept kept (Err fault)
    finds_none old new kept fault Says asks = record { calls_store = asks; finds_index = λ returned held enough are. are; capacity_is_same = refl; cache_stays_bounded = λ within. within }

    -- it is put, or it is not, where so much was kept before
    module _ (old new : S) (kept mid later : CacheState) (outline : ListIndex) (made : RelatesTableArchives g old new (IsMade part kept outline)) (so_far : Stays old new kept mid)
        (same_most : later.most ≡ kept.most) (same_marks : later.withheld ≡ mid.withheld) (within : IsCacheBounded later) (rest : List CachedView) (dropped : DropsOldest mid.views rest) where
      abbrev view : CachedView
      view = record { list = ask.list; reader = reader; part = part; outline = outline }

      module _ (place : ℕ) (at : place ≡ insertion_place part rest) (put : later.views ≡ insert rest place view) where
        upto : place ≤ length rest
        upto = let fits = put_within part rest in omega (arith, at, fits)

        stays : Stays old new kept later
        stays returned held enough are =
            let a = archive_in g old in
            let is = (made.1 returned held).1.1 enough are in
            let was = so_far returned held enough are in (
              subst (λ (vs : List CachedView). AreCoherent a ask.rules ask.day vs) (sym put)
                  (of_more a ask.rules ask.day rest place view (of_dropped a ask.rules ask.day mid.views rest dropped was.0) (of_asked a ask reader part outline enough is)),
              subst (λ (ws : List WithheldMessage). AreWithheldCoherent a ws) (sym same_marks) was.1,
            )

        pub finds_put : FindsListIndex g old new ask reader part kept later (Ok place)
        finds_put = record {
          calls_store = goes_in_as g (HoldsTables g) old new (IsMade part kept outline) (Stands part kept later place)
              (λ a b h. (h.0, (λ enough are. outline_put later rest view place upto put ∙ ap (λ (o : ListIndex). Some o) (h.1 enough are)))) made;
          finds_index = stays;
          capacity_is_same = same_most;
          cache_stays_bounded = λ was. within;
        }

      pub finds_no_room : (fault : DeskError) → refusal_reason fault ≡ None → later.views ≡ rest → FindsListIndex g old new ask reader part kept later (Err fault)
      finds_no_room fault none left = record {
        calls_store = rw none (made.0, (λ returned held up. let it = made.1 returned held in (it.0, it.1.0)));
        finds_index = λ returned held enough are.
            let a = archive_in g old in
            let was = so_far returned held enough are in (
              subst (λ (vs : List CachedView). AreCoherent a ask.rules ask.day vs) (sym left) (of_dropped a ask.rules ask.day mid.views rest dropped was.0),
              subst (λ (ws : List WithheldMessage). AreWithheldCoherent a ws) (sym same_marks) was.1,
            );
        capacity_is_same = same_most;
        cache_stays_bounded = λ was. within;
      }

    -- it is made of the whole, which was found
    module _ (old new : S) (kept mid : CacheState) (place : ℕ) (finds : FindsListIndex g old new ask reader whole kept mid (Ok place)) where
      pub made_of_whole : same_part part whole ≡ false → (outline : ListIndex) → cached_index_at mid place ≡ Some outline
          → RelatesTableArchives g old new (IsMade part kept (index_restricted_to part outline))
      made_of_whole other outline there = goes_in_as g (HoldsTables g) old new (Stands whole kept mid place) (IsMade part kept (index_restricted_to part outline))
          (λ a b h. (
            h.0,
            (λ enough are.
                ap (index_restricted_to part) (some_is outline (index_for_ask a ask whole) (sym there ∙ h.1 enough are)) ∙ part_of_whole a ask part other),
          )) finds.calls_store

  -- the whole cannot be found
  pub finds_no_whole : (old new : S) (kept later : CacheState) (fault : DeskError) (one other : ViewPart) → FindsListIndex g old new ask reader one kept later (Err fault)
      → FindsListIndex g old new ask reader other kept later (Err fault)
  finds_no_whole old new kept later fault one other finds = record {
    calls_store = finds.calls_store;
    finds_index = finds.finds_index;
    capacity_is_same = finds.capacity_is_same;
    cache_stays_bounded = finds.cache_stays_bounded;
  }

  -- ---- once the reader is known

  abbrev pub Knows : Archive → Archive → Type 0
  Knows a b = (b ≡ a) × (ask_reason a ask ≡ None) × DeterminesVerdicts a ask reader

  module _ (part : ViewPart) (old mid new : S) (known : RelatesTableArchives g old mid Knows) (kept later : CacheState) (result : Result ℕ DeskError)
      (finds : FindsListIndex g mid new ask reader part kept later result) where
    abbrev Refuses : Archive → Archive → RefusalReason → Type 0
    Refuses a b why = (b ≡ a) × (ask_reason a ask ≡ Some why)

    lasts : StaysOpenUnlessDiskFails g mid new
    lasts = calls_last g (HoldsTables g) mid new refusal_reason (λ a b place. Stands part kept later place a b) Refuses (λ a b _. b ≡ a) result finds.calls_store

    pub found_then : AnswersFromStoreTables g old new refusal_reason result (λ a. ask_reason a ask)
        (λ a place. IsCacheCoherent a ask.rules ask.day kept → cached_index_at later place ≡ Some (index_for_ask a ask part))
    found_then = calls_after g (HoldsTables g) old mid new refusal_reason Knows (λ a b place. Stands part kept later place a b)
        (λ a b place. (b ≡ a) × (ask_reason a ask ≡ None) × (IsCacheCoherent a ask.rules ask.day kept → cached_index_at later place ≡ Some (index_for_ask a ask part)))
        Refuses Refuses (λ a b _. b ≡ a) (λ a b _. b ≡ a)
        (λ a b c place first it. (it.0 ∙ first.0, first.1, subst (λ x. Given kept x (cached_index_at later place ≡ Some (index_for_ask x ask part))) first.0 it.1 first.2))
        (λ a b c why first it. (it.0 ∙ first.0, subst (λ x. ask_reason x ask ≡ Some why) first.0 it.1))
        (λ a b c fault first it. it ∙ first.0) result known finds.calls_store

    pub keeps_then : (StoreHasCleanDisk g mid → IsOpen g old) → KeepsCacheCoherent g old new ask.rules ask.day kept later
    keeps_then up = record {
      keeps_coherent = λ returned held are.
          let it = known.1 (lasts.disk_was_clean returned) held in
          let enough = subst (λ a. DeterminesVerdicts a ask reader) (sym it.1.0) it.1.2 in
          subst (λ a. IsCacheCoherent a ask.rules ask.day later) it.1.0 (finds.finds_index returned it.0 enough (subst (λ a. IsCacheCoherent a ask.rules ask.day kept) (sym it.1.0) are));
      when_store_closed = λ returned shut. absurd (shut (up (lasts.disk_was_clean returned)));
      capacity_is_same = finds.capacity_is_same;
      cache_stays_bounded = finds.cache_stays_bounded;
    }

    abbrev Unread : Archive → Type 0
    Unread a = IsQuestionUnreadable a ask (messages_in a ask.list)

    pub ends_then : memory_refusal_count g old ≤ memory_refusal_count g mid → (StoreHasCleanDisk g mid → IsOpen g old) → EndsDeskCall g mid new IsAskFault result Unread
        → EndsDeskQuestion g old new IsAskFault result Unread
    ends_then grows up it = ask_after g old mid new (known.0, (λ returned held. let there = known.1 returned held in (there.0, there.1.0))) lasts grows IsAskFault
        result Unread Unread (λ a bad. bad) it up
