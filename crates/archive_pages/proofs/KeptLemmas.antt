-- What is found in a store and in what is kept of it, and then written.
use Rattle.std.proofs.Common.{◌≡◌, inl, inr, ℕ, ℤ, List, Result, Ok, Err, refl, sym, subst}
use Rattle.std.specs.Prelude.{◌⊎◌, ⊤, MatchResult}
use Rattle.archive_port.specs.declared.state.ArchiveState.{Ghosts}
use Rattle.archive_model.specs.Records.{Archive}
use Rattle.policy_core.specs.Rules.{Rule}
use Rattle.archive_cache.specs.Coherence.{KeepsCacheCoherent}
use Rattle.archive_cache.specs.Views.{CacheState}
use Rattle.archive_port.specs.Told.{StoreHasCleanDisk, HoldsTables, StaysOpenUnlessDiskFails, archive_in, LeavesArchive}
use Rattle.archive_port.proofs.LastLemmas.{left_relates, left_relates_if_open}
use Rattle.archive_desk.specs.Holding.{RelatesTableArchives}
use Rattle.archive_port.proofs.Joins.{goes_in_as}
use Rattle.archive_pages.specs.Replies.{Reply, SendsReply, BreaksOffMbox, IsReplyOr503, unavailable}
use Rattle.archive_pages.specs.Serving.{IsTrueOfEveryArchive, SendsFromArchive, ServesFromArchive, StoreKeepsArchive}
use Rattle.archive_pages.specs.KeptServing.{IsTrueOfRememberedArchive, FindsInArchiveIf, ServesFromArchiveIf}
use Rattle.archive_pages.specs.Calls.{ChangesOnlyPagesCache}
use Rattle.archive_pages.specs.declared.faults.ServeFault.{ServeFault}
use Rattle.archive_pages.specs.declared.pages.Pages.{Pages}
use Rattle.archive_pages.proofs.ServingLemmas.{sends_as, broken_as, breaks_as, found_sent, of_shut_when, sent_after, serves_lasts, serves_none, stays_served}

-- pages that nothing was done to
pub keeps_still : {S W T : Type 0} (g : Ghosts S W) (old new : S) (pages : Pages T) → ChangesOnlyPagesCache g old new pages pages
keeps_still g old new pages = record {
  only_cache_differs = refl;
  cache_stays_coherent = record
      { keeps_coherent = λ returned held of. of; when_store_closed = λ returned shut. refl; capacity_is_same = refl; cache_stays_bounded = λ within. within };
}

module _ {S W : Type 0} (g : Ghosts S W) (before after : List ℕ) (result : Result ℕ ServeFault) where
  module _ (old new : S) where
    -- a reply of which more is known, where its tables were an archive's
    sent_as : (Says Says' : Archive → Reply → Type 0)
        → (StoreHasCleanDisk g new → HoldsTables g old → (r : Reply) → Says (archive_in g old) r → Says' (archive_in g old) r)
        → SendsFromArchive g old new Says before after result → SendsFromArchive g old new Says' before after result
    sent_as Says Says' weaker (inl goes) = inl (
      goes.0,
      (λ returned held.
          let it = goes.1 returned held in
          (it.0, (it.1.0, sends_as (Says (archive_in g old)) (Says' (archive_in g old)) before after result (weaker returned held) it.1.1))),
    )
    sent_as Says Says' weaker (inr (inl none)) = inr (inl none)
    sent_as Says Says' weaker (inr (inr (goes, broken))) = inr (inr (
      goes,
      broken_as result (λ n. StoreHasCleanDisk g new → HoldsTables g old → BreaksOffMbox (Says (archive_in g old)) before after n)
          (λ n. StoreHasCleanDisk g new → HoldsTables g old → BreaksOffMbox (Says' (archive_in g old)) before after n)
          (λ n breaks returned held. breaks_as (Says (archive_in g old)) (Says' (archive_in g old)) before after n (weaker returned held) (breaks returned held)) broken,
    ))

    module _ (If : Archive → Type 0) (Says : Archive → Reply → Type 0) where
      -- one of which it holds whatever is kept
      pub serves_whatever : ServesFromArchive g old new Says before after result → ServesFromArchiveIf g old new If Says before after result
      serves_whatever serves = record {
        sends_from_archive = sent_as Says (λ a r. If a → Says a r)
            (λ returned held r it is. it) serves.sends_from_archive;
        when_store_closed = serves.when_store_closed;
      }

      -- and one of which nothing is said
      pub serves_some : ServesFromArchiveIf g old new If Says before after result → ServesFromArchive g old new (λ a r. ⊤) before after result
      serves_some serves = record {
        sends_from_archive = sent_as (λ a r. If a → Says a r) (λ a r. ⊤) (λ returned held r it. tt) serves.sends_from_archive;
        when_store_closed = λ returned shut. sends_as (λ r. (r ≡ unavailable) ⊎ ((a : Archive) → Says a r)) (λ r. (r ≡ unavailable) ⊎ ((a : Archive) → ⊤)) before after result
            (λ r it. inr (λ a. tt)) (serves.when_store_closed returned shut);
      }

      pub stays_kept : ServesFromArchiveIf g old new If Says before after result → StoreKeepsArchive g old new result
      stays_kept serves = stays_served g before after old new (λ a r. ⊤) result (serves_some serves)

      pub lasts_kept : ServesFromArchiveIf g old new If Says before after result → StaysOpenUnlessDiskFails g old new
      lasts_kept serves = serves_lasts g before after result old new (λ a r. ⊤) (serves_some serves)

      -- where what is kept is of the archive that the store remembers, it is served out of that archive
      pub serves_of_remembered : IsTrueOfRememberedArchive g old new If → ServesFromArchiveIf g old new If Says before after result → ServesFromArchive g old new Says before after result
      serves_of_remembered of serves = record {
        sends_from_archive = sent_as (λ a r. If a → Says a r) Says (λ returned held r says. says (of returned held)) serves.sends_from_archive;
        when_store_closed = serves.when_store_closed;
      }

    -- ---- what was found, or 503

    pub finds_serves : {A F : Type 0} (search_result : Result A F) (made : A → Reply) (If : Archive → Type 0) (Holds : Archive → A → Type 0)
        (Says : Archive → Reply → Type 0) → FindsInArchiveIf g old new If search_result Holds → ((a : Archive) (x : A) → Holds a x → Says a (made x))
        → MatchResult search_result (λ x. SendsReply (IsReplyOr503 (made x)) before after result) (λ _. SendsReply (λ r. r ≡ unavailable) before after result)
        → ServesFromArchiveIf g old new If Says before after result
    finds_serves (Ok x) made If Holds Says finds says sent = record {
      sends_from_archive = found_sent g before after result old new (made x) (λ a r. If a → Says a r)
          (goes_in_as g (HoldsTables g) old new (λ a b. (b ≡ a) × (If a → Holds a x)) (λ a b. (b ≡ a) × (If a → Says a (made x))) (λ a b h. (h.0, (λ is. says a x (h.1 is)))) finds.0) sent;
      when_store_closed = λ returned shut. sends_as (IsReplyOr503 (made x)) (λ r. (r ≡ unavailable) ⊎ ((a : Archive) → Says a r)) before after result
          (λ r it. elim it [ inl is ↦ inr (λ a. subst (Says a) (sym is) (says a x (finds.1 returned shut a))) | inr none ↦ inl none ]) sent;
    }
    finds_serves (Err e) made If Holds Says finds says sent = serves_whatever If Says (serves_none g before after result old new Says finds sent)

  -- ---- a question before

  module _ (old mid new : S) (P : Archive → Type 0) (If : Archive → Type 0) (Says Says' : Archive → Reply → Type 0)
      (first : RelatesTableArchives g old mid (λ a b. (b ≡ a) × P a)) (says : (a : Archive) (r : Reply) → P a → Says a r → Says' a r) where
    pub serves_if_after : IsTrueOfEveryArchive g old mid P → ServesFromArchiveIf g mid new If Says before after result → ServesFromArchiveIf g old new If Says' before after result
    serves_if_after every second = record {
      sends_from_archive = sent_after g before after result old mid new P (λ a r. If a → Says a r) (λ a r. If a → Says' a r) first (λ a r p it is. says a r p (it is)) second.sends_from_archive;
      when_store_closed = λ returned shut.
          let was = (lasts_kept mid new If Says second).disk_was_clean returned in
          of_shut_when g before after result Says Says' P says (every was shut) (second.when_store_closed returned (λ up. shut (first.0.closed_stays_closed was up)));
    }

-- ---- behind a call that leaves the archive

module _ {S W : Type 0} (g : Ghosts S W) where
  pub finds_left : {A F : Type 0} (old mid new : S) → LeavesArchive g mid new → (search_result : Result A F) (If : Archive → Type 0) (Holds : Archive → A → Type 0)
      → FindsInArchiveIf g old mid If search_result Holds → FindsInArchiveIf g old new If search_result Holds
  finds_left old mid new leaves (Ok x) If Holds finds =
      (left_relates g old mid new leaves (λ a b. (b ≡ a) × (If a → Holds a x)) finds.0, (λ clean shut. finds.1 (leaves.remains_open.disk_was_clean clean) shut))
  finds_left old mid new leaves (Err e) If Holds finds = left_relates_if_open g old mid new leaves (λ a b. b ≡ a) finds

  pub coherent_left : (old mid new : S) {rules : List Rule} {day : ℤ} {kept later : CacheState} → StaysOpenUnlessDiskFails g mid new → KeepsCacheCoherent g old mid rules day kept later
      → KeepsCacheCoherent g old new rules day kept later
  coherent_left old mid new lasts it = record {
    keeps_coherent = λ clean. it.keeps_coherent (lasts.disk_was_clean clean);
    when_store_closed = λ clean. it.when_store_closed (lasts.disk_was_clean clean);
    capacity_is_same = it.capacity_is_same;
    cache_stays_bounded = it.cache_stays_bounded;
  }
