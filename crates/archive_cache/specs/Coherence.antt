-- What is kept is of an archive, for one policy and one day.
use Rattle.std.specs.Prelude.{◌≡◌, ⊤, ℕ, ℤ, List, [], ◌∷◌, None, Some, Result}
use Rattle.archive_port.specs.declared.state.ArchiveState.{Ghosts}
use Rattle.policy_core.specs.Rules.{Rule}
use Rattle.archive_model.specs.Records.{Archive, Message}
use Rattle.archive_model.specs.Questions.{message_of}
use Rattle.archive_port.specs.Told.{StoreHasCleanDisk, HoldsTables, IsStoreClosed, archive_in}
use Rattle.archive_results.specs.Access.{Ask, ReaderFacts, message_facts}
use Rattle.archive_desk.specs.Asking.{DeterminesVerdicts}
use Rattle.archive_desk.specs.Faults.{ask_reason, missing_list_reason, refusal_reason}
use Rattle.archive_desk.specs.Holding.{CallsStoreWithTables}
use Rattle.archive_desk.specs.declared.faults.DeskError.{DeskError}
use Rattle.archive_cache.specs.ListIndexes.{index_for_ask}
use Rattle.archive_cache.specs.Parts.{ViewPart}
use Rattle.archive_cache.specs.Views.{IsCacheBounded, CachedView, CacheState, WithheldMessage, cached_index_at}

-- It is of this archive, by these rules, on this day: whoever asks of its list, of whom its marks are enough to know, is shown this.
abbrev pub IsCoherent : Archive → List Rule → ℤ → CachedView → Type 0
IsCoherent archive rules day view =
    (ask : Ask) → ask.rules ≡ rules → ask.day ≡ day → ask.list ≡ view.list → DeterminesVerdicts archive ask view.reader → view.outline ≡ index_for_ask archive ask view.part

abbrev pub AreCoherent : Archive → List Rule → ℤ → List CachedView → Type 0
AreCoherent archive rules day [] = ⊤
AreCoherent archive rules day (view ∷ views) = IsCoherent archive rules day view × AreCoherent archive rules day views

-- what a call does to what is kept that changes only the marks of withheld messages: it weighs no more than it may
pub record ChangesOnlyWithheld (old new : CacheState) : Type 0 where
  pub only_withheld_differs : new ≡ record old { withheld = new.withheld }
  pub stays_bounded : IsCacheBounded old → IsCacheBounded new

-- its list holds the message, and these are its marks
abbrev pub IsWithheldCoherent : Archive → WithheldMessage → Type 0
IsWithheldCoherent archive it = (m : Message) × (message_of archive it.list it.key ≡ Some m) × (it.marks ≡ message_facts None m)

abbrev pub AreWithheldCoherent : Archive → List WithheldMessage → Type 0
AreWithheldCoherent archive [] = ⊤
AreWithheldCoherent archive (it ∷ rest) = IsWithheldCoherent archive it × AreWithheldCoherent archive rest

-- all that is kept
abbrev pub IsCacheCoherent : Archive → List Rule → ℤ → CacheState → Type 0
IsCacheCoherent archive rules day kept = AreCoherent archive rules day kept.views × AreWithheldCoherent archive kept.withheld

-- What a call does to what is kept: it stays of the archive that a store remembers; a store that is shut adds nothing; and whatever the
-- store is, it weighs no more than it may.
pub record KeepsCacheCoherent {S W : Type 0} (g : Ghosts S W) (old new : S) (rules : List Rule) (day : ℤ) (kept_old kept_new : CacheState) : Type 0 where
  pub keeps_coherent : StoreHasCleanDisk g new → HoldsTables g old → IsCacheCoherent (archive_in g old) rules day kept_old → IsCacheCoherent (archive_in g old) rules day kept_new
  pub when_store_closed : StoreHasCleanDisk g new → IsStoreClosed g old → kept_new ≡ kept_old
  pub capacity_is_same : kept_new.most ≡ kept_old.most
  pub cache_stays_bounded : IsCacheBounded kept_old → IsCacheBounded kept_new

-- A question of a list that the caller found there. It leaves the archive, is refused only if there is no such list, and is else answered by a
-- value of which this holds.
abbrev pub AnswersOfFoundList : {S W : Type 0} (g : Ghosts S W) (old new : S) (ask : Ask) → {A : Type 0} → Result A DeskError → (Archive → A → Type 0) → Type 0
AnswersOfFoundList g old new ask result Says = CallsStoreWithTables g old new refusal_reason result
    (λ a b answer. (b ≡ a) × Says a answer) (λ a b why. (b ≡ a) × (missing_list_reason a ask ≡ Some why)) (λ a b _. b ≡ a)

-- A call that is handed the marks of a reader, and answers a place. The store changes nothing, and says which list or person there is
-- not. Where the marks are enough to know and what was kept is of the archive, the outline at the place is that of the part of the view,
-- and what is kept then is of the archive too, whatever was answered.
pub record FindsListIndex {S W : Type 0} (g : Ghosts S W) (old new : S) (ask : Ask) (reader : ReaderFacts) (part : ViewPart) (kept_old kept_new : CacheState)
    (result : Result ℕ DeskError) : Type 0 where
  pub calls_store : CallsStoreWithTables g old new refusal_reason result
      (λ a b place. (b ≡ a) × (DeterminesVerdicts a ask reader → IsCacheCoherent a ask.rules ask.day kept_old → cached_index_at kept_new place ≡ Some (index_for_ask a ask part)))
      (λ a b why. (b ≡ a) × (ask_reason a ask ≡ Some why)) (λ a b _. b ≡ a)
  pub finds_index : StoreHasCleanDisk g new → HoldsTables g old → DeterminesVerdicts (archive_in g old) ask reader
      → IsCacheCoherent (archive_in g old) ask.rules ask.day kept_old → IsCacheCoherent (archive_in g old) ask.rules ask.day kept_new
  pub capacity_is_same : kept_new.most ≡ kept_old.most
  pub cache_stays_bounded : IsCacheBounded kept_old → IsCacheBounded kept_new
