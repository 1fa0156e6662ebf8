-- Reading and writing the messages of a walk, one after the other.
use Rattle.std.specs.Prelude.{◌≡◌, ◌⊎◌, ◌+◌, ◌<◌, ◌≤◌, ◌^◌, ◌-◌, ◌++◌, ℕ, Bool, true, List, [], length, filter, min, None, Result, IfErr, IfOk, MatchResult, MatchOption, Vec}
use Rattle.std.specs.declared.alloc.Global.{Global}
use Rattle.archive_port.specs.declared.state.ArchiveState.{Ghosts}
use Rattle.mbox_core.specs.Written.{AppendsPrefixOfText}
use Rattle.archive_model.specs.Records.{Archive, Message as Remembered}
use Rattle.archive_port.specs.Replies.{refusal_of_fault}
use Rattle.archive_port.specs.Told.{DiskHasFailed, HasNoStepLimit, StoreHasCleanDisk, HoldsTables, IsOpen, archive_in}
use Rattle.archive_port.specs.Walking.{Walk, WalksOver, remaining_count}
use Rattle.archive_port.specs.declared.faults.StoreFault.{StoreFault}
use Rattle.archive_port.specs.declared.faults.StoreFault.TheVariants as faults
use Rattle.archive_results.specs.Access.{Ask, ReaderFacts, is_shown}
use Rattle.archive_desk.specs.Causes.{HasUnreadableMessage}
use Rattle.archive_desk.specs.Exporting.{HasWrittenBytes, shown_mbox_text}
use Rattle.archive_desk.specs.Faults.{refusal_reason}
use Rattle.archive_desk.specs.declared.exporting.ExportStop.{ExportStop}
use Rattle.archive_desk.specs.declared.exporting.Unshown.{Unshown}
use Rattle.archive_desk.specs.declared.exporting.Unshown.TheVariants.{Write as Unwritten, Refused}
use Rattle.archive_desk.specs.declared.faults.DeskError.{DeskError}
use Rattle.archive_desk.specs.declared.faults.DeskError.TheVariants.{Store as Stored, Memory, Write}

-- so many bytes more were written, as far as 64 bits go
abbrev pub AddsToByteCount : (before after : List ℕ) → (counted counts : ℕ) → Type 0
AddsToByteCount before after counted counts =
    (part : List ℕ) × (after ≡ before ++ part) × (counts ≡ min (counted + length part) (2 ^ 64 - 1))

-- a message was not written: the writer failed; or memory was wanting, and nothing was written
abbrev pub IsMessageWriteStop : List ℕ → List ℕ → ℕ → ℕ → Unshown → Type 0
IsMessageWriteStop before after failed fails (Unwritten count) = failed < fails
IsMessageWriteStop before after failed fails (Refused why) = (after ≡ before) × (fails ≡ failed)

-- how many bytes of a message were written that was not written whole
abbrev pub partial_message_bytes : Unshown → ℕ
partial_message_bytes (Unwritten count) = count
partial_message_bytes (Refused why) = 0

-- the writer failed; or the store did or memory was wanting, and so many bytes more were written
abbrev pub IsRowsStop : List ℕ → List ℕ → ℕ → ℕ → ℕ → ℕ → DeskError → Type 0
IsRowsStop before after failed fails counted counts Write = failed < fails
IsRowsStop before after failed fails counted counts (Stored fault) =
    (refusal_of_fault fault ≡ None) × (fails ≡ failed) × AddsToByteCount before after counted counts
IsRowsStop before after failed fails counted counts Memory = (fails ≡ failed) × AddsToByteCount before after counted counts
IsRowsStop before after failed fails counted counts other = ⊥

abbrev pub IsWalkStop : List ℕ → List ℕ → ℕ → ℕ → ℕ → DeskError → Type 0
IsWalkStop before after failed fails count Write = failed < fails
IsWalkStop before after failed fails count (Stored fault) = (refusal_of_fault fault ≡ None) × (fails ≡ failed) × HasWrittenBytes before after count
IsWalkStop before after failed fails count Memory = (fails ≡ failed) × HasWrittenBytes before after count
IsWalkStop before after failed fails count other = ⊥

-- memory was wanting, or the database was at fault
abbrev pub IsMemoryOrDatabaseFault : DeskError → Type 0
IsMemoryOrDatabaseFault (Stored fault) = refusal_of_fault fault ≡ None
IsMemoryOrDatabaseFault Memory = Unit {0}
IsMemoryOrDatabaseFault other = ⊥

module _ {S W : Type 0} (g : Ghosts S W) where
  -- its store holds an archive's tables, and remembers this archive
  abbrev pub WalkHoldsArchive : Archive → Walk S W → Type 0
  WalkHoldsArchive a walk = HoldsTables g walk.store × (archive_in g walk.store ≡ a)

  -- after a fault that has a reason so; after one of memory or of the database if the connection is still open
  abbrev pub WalkHoldsArchiveIfOpen : Archive → Walk S W → DeskError → Type 0
  WalkHoldsArchiveIfOpen a walk fault = MatchOption (refusal_reason fault) (IsOpen g walk.store → WalkHoldsArchive a walk) (λ _. WalkHoldsArchive a walk)

  -- The cause of a walk that the database broke, over messages of the list, that gave none yet: where no limit is set on the steps of
  -- a query, the disk failed, or one of the messages cannot be read.
  abbrev pub HasWalkCause : Walk S W → Walk S W → Ask → Type 0
  HasWalkCause old new ask = StoreHasCleanDisk g new.store → HasNoStepLimit g old.store → (all : List Remembered) (a : Archive)
      → WalksOver g ask.list all a [] old → DiskHasFailed g old.store new.store ⊎ HasUnreadableMessage all

  -- the disk failed, or one of the messages cannot be read
  abbrev pub E15MeansDiskFailedOrMessageUnreadable : {A : Type 0} → Walk S W → Walk S W → Ask → Result A StoreFault → Type 0
  E15MeansDiskFailedOrMessageUnreadable old new ask result = StoreHasCleanDisk g new.store → (all : List Remembered) (a : Archive) (given : List Remembered)
      → WalksOver g ask.list all a given old → HasNoStepLimit g old.store
      → IfErr result (λ fault. fault ≡ faults.Store → DiskHasFailed g old.store new.store ⊎ HasUnreadableMessage all)

  module _ (old new : Walk S W) (ask : Ask) (reader : ReaderFacts) where
    -- messages were passed by, as if they were given, that the policy does not show
    abbrev pub HasSkippedWithheld : List Remembered → Archive → List Remembered → Type 0
    HasSkippedWithheld all a given = (past : List Remembered) × WalksOver g ask.list all a (given ++ past) new × (filter (is_shown ask reader) past ≡ [])

    -- A walk over messages of the list passed some by, and left the archive. After a fault so, if the connection is still open.
    pub record SkipsWithheldMessages {A : Type 0} (result : Result A StoreFault) : Type 0 where
      pub skips_withheld : StoreHasCleanDisk g new.store → (all : List Remembered) (a : Archive) (given : List Remembered) → WalksOver g ask.list all a given old
          → MatchResult result (λ _. HasSkippedWithheld all a given) (λ _. IsOpen g new.store → HasSkippedWithheld all a given)
      pub remaining_never_grows : remaining_count g new.walk ≤ remaining_count g old.walk
      pub fault_is_no_refusal : IfErr result (λ fault. refusal_of_fault fault ≡ None)

    -- One message at most was passed by: whether one was, and then fewer are left.
    pub record SkipsAtMostOne (result : Result Bool StoreFault) : Type 0 where
      pub skips_withheld : SkipsWithheldMessages result
      pub fewer_if_passed : IfOk result (λ passed. passed ≡ true → remaining_count g new.walk < remaining_count g old.walk)

    -- A walk over messages of the list that gave none yet: this was made of them, as far as the policy shows them.
    abbrev pub ListsRows : {X : Type 0} → (made : List Remembered → List X) → Result (Vec X Global) DeskError → Type 0
    ListsRows made result = StoreHasCleanDisk g new.store → (all : List Remembered) (a : Archive) → WalksOver g ask.list all a [] old → MatchResult result
        (λ found. WalkHoldsArchive a new × (found.items ≡ made (filter (is_shown ask reader) all)))
        (λ fault. WalkHoldsArchiveIfOpen a new fault)

    -- A walk over messages of the list that gave none yet: the text of them was written, as far as the policy shows them, and
    -- counted; or exactly the first bytes of it.
    abbrev pub WritesRows : (before after : List ℕ) → (counted counts : ℕ) → Result (Unit {0}) DeskError → Type 0
    WritesRows before after counted counts result = StoreHasCleanDisk g new.store → (all : List Remembered) (a : Archive) → WalksOver g ask.list all a [] old →
        let text = shown_mbox_text ask reader all in
        MatchResult result
        (λ _. WalkHoldsArchive a new × (after ≡ before ++ text) × (counts ≡ min (counted + length text) (2 ^ 64 - 1)))
        (λ fault. WalkHoldsArchiveIfOpen a new fault × (length after < 2 ^ 64
        → (more : ℕ) × AppendsPrefixOfText before after text more × (counts ≡ min (counted + more) (2 ^ 64 - 1))))

    -- the same behind a head
    abbrev pub WritesWalk : (head before after : List ℕ) → Result ℕ ExportStop → Type 0
    WritesWalk head before after result = StoreHasCleanDisk g new.store → (all : List Remembered) (a : Archive) → WalksOver g ask.list all a [] old →
        let text = head ++ shown_mbox_text ask reader all in
        MatchResult result
        (λ count. WalkHoldsArchive a new × (after ≡ before ++ text) × (count ≡ min (length text) (2 ^ 64 - 1)))
        (λ stop. WalkHoldsArchiveIfOpen a new stop.fault × (length after < 2 ^ 64 → AppendsPrefixOfText before after text stop.written))
