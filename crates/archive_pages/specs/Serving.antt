-- Replies that are made of what a store remembers.
use Rattle.std.specs.Prelude.{◌≡◌, ◌≢◌, ◌⊎◌, ℕ, List, Result, MatchResult, IfOk}
use Rattle.archive_port.specs.declared.state.ArchiveState.{Ghosts}
use Rattle.archive_model.specs.Records.{Archive}
use Rattle.archive_port.specs.Told.{StoreHasCleanDisk, HoldsTables, IsStoreClosed, archive_in}
use Rattle.archive_desk.specs.Holding.{RelatesTableArchives, RelatesTableArchivesIfOpen}
use Rattle.archive_pages.specs.Replies.{Reply, SendsReply, BreaksOffMbox, IsReplyBrokenOff, unavailable}
use Rattle.archive_pages.specs.declared.faults.ServeFault.{ServeFault}

module _ {S W : Type 0} (g : Ghosts S W) (old new : S) where
  -- where the store was shut, this is so of every archive, and not of one
  abbrev pub IsTrueOfEveryArchive : (Archive → Type 0) → Type 0
  IsTrueOfEveryArchive Says = StoreHasCleanDisk g new → IsStoreClosed g old → (a : Archive) → Says a

  -- The store is left as it was, and this holds of what it remembers and of what was found; or memory or the database was at
  -- fault, and it is left as it was if its connection is still open. In a store that is shut nothing is found but what is so
  -- of every archive.
  abbrev pub FindsInArchive : {A F : Type 0} → Result A F → (Archive → A → Type 0) → Type 0
  FindsInArchive result Says = MatchResult result
      (λ found. RelatesTableArchives g old new (λ a b. (b ≡ a) × Says a found) × IsTrueOfEveryArchive (λ a. Says a found))
      (λ _. RelatesTableArchivesIfOpen g old new (λ a b. b ≡ a))

  -- The same of a reply that went out. Where memory or the database was at fault it is 503; or it is an mbox of what the store
  -- remembered, which broke off (S3): exactly its first bytes went out, as many as the fault counts, and at least one.
  abbrev pub SendsFromArchive : (Archive → Reply → Type 0) → (told_before told_after : List ℕ) → Result ℕ ServeFault → Type 0
  SendsFromArchive Says before after result =
      RelatesTableArchives g old new (λ a b. (b ≡ a) × SendsReply (Says a) before after result)
      ⊎ ((RelatesTableArchivesIfOpen g old new (λ a b. b ≡ a) × SendsReply (λ reply. reply ≡ unavailable) before after result)
      ⊎ (RelatesTableArchivesIfOpen g old new (λ a b. b ≡ a)
      × IsReplyBrokenOff result (λ written. StoreHasCleanDisk g new → HoldsTables g old → BreaksOffMbox (Says (archive_in g old)) before after written)))

  pub record ServesFromArchive (Says : Archive → Reply → Type 0) (before after : List ℕ) (result : Result ℕ ServeFault) : Type 0 where
    pub sends_from_archive : SendsFromArchive Says before after result
    -- out of a store that is shut 503, or a reply that is the same for every archive
    pub when_store_closed : StoreHasCleanDisk g new → IsStoreClosed g old → SendsReply (λ reply. (reply ≡ unavailable) ⊎ ((a : Archive) → Says a reply)) before after result

module _ {S W : Type 0} (g : Ghosts S W) (old new : S) where
  -- What an answer leaves of a store, whatever the request and the reply, and whatever the fault: the same archive, if the
  -- connection is still open; and where a reply other than 503 went out, it is open, and ready for the next request.
  pub record StoreKeepsArchive (result : Result ℕ ServeFault) : Type 0 where
    pub archive_is_same : RelatesTableArchivesIfOpen g old new (λ a b. b ≡ a)
    pub ready_unless_503 : IfOk result (λ status. status ≢ 503 → RelatesTableArchives g old new (λ a b. b ≡ a))
