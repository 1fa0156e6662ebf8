-- Replies that are made of what a store remembers, and of what is kept of it.
use Rattle.std.specs.Prelude.{◌≡◌, ◌⊎◌, ℕ, List, Result, MatchResult}
use Rattle.archive_port.specs.declared.state.ArchiveState.{Ghosts}
use Rattle.archive_model.specs.Records.{Archive}
use Rattle.archive_port.specs.Told.{StoreHasCleanDisk, HoldsTables, IsStoreClosed, archive_in}
use Rattle.archive_desk.specs.Holding.{RelatesTableArchives, RelatesTableArchivesIfOpen}
use Rattle.archive_pages.specs.Replies.{Reply, SendsReply, unavailable}
use Rattle.archive_pages.specs.Serving.{IsTrueOfEveryArchive, SendsFromArchive}
use Rattle.archive_pages.specs.declared.faults.ServeFault.{ServeFault}

-- `If` is so of an archive of which what is kept is.
module _ {S W : Type 0} (g : Ghosts S W) (old new : S) (If : Archive → Type 0) where
  -- where the tables of the store were an archive's, it is so of the archive that it remembered
  abbrev pub IsTrueOfRememberedArchive : Type 0
  IsTrueOfRememberedArchive = StoreHasCleanDisk g new → HoldsTables g old → If (archive_in g old)

  -- What `FindsInArchive` says, where it is so of the archive that the store remembers. In a store that is shut nothing is found but what
  -- holds of every archive, whatever is kept.
  abbrev pub FindsInArchiveIf : {A F : Type 0} → Result A F → (Archive → A → Type 0) → Type 0
  FindsInArchiveIf result Says = MatchResult result
      (λ found. RelatesTableArchives g old new (λ a b. (b ≡ a) × (If a → Says a found)) × IsTrueOfEveryArchive g old new (λ a. Says a found))
      (λ _. RelatesTableArchivesIfOpen g old new (λ a b. b ≡ a))

  -- The same of what `ServesFromArchive` says.
  pub record ServesFromArchiveIf (Says : Archive → Reply → Type 0) (before after : List ℕ) (result : Result ℕ ServeFault) : Type 0 where
    pub sends_from_archive : SendsFromArchive g old new (λ a reply. If a → Says a reply) before after result
    pub when_store_closed : StoreHasCleanDisk g new → IsStoreClosed g old → SendsReply (λ reply. (reply ≡ unavailable) ⊎ ((a : Archive) → Says a reply)) before after result
