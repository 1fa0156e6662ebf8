-- Why the database does not answer a question: what G4 means that carries E15. Want of memory, E14 and G5, needs no cause, since the
-- system may refuse memory at any time; it is counted.
use Rattle.std.specs.Prelude.{◌≡◌, ◌≢◌, ◌⊎◌, ℕ, true, List, Result, IfErr, IsUtf8}
use Rattle.std.specs.List.{All}
use Rattle.std.specs.Option.{IsSomeAnd}
use Rattle.archive_port.specs.declared.state.ArchiveState.{Ghosts}
use Rattle.policy_core.specs.declared.access.Standing.{Standing}
use Rattle.policy_core.specs.Rules.{has_own_condition}
use Rattle.archive_model.specs.Records.{Archive, Message}
use Rattle.archive_model.specs.Questions.{address_of, message_of, standing_of}
use Rattle.archive_port.specs.Messages.{IsReadable}
use Rattle.archive_port.specs.Told.{DiskHasFailed, HasNoStepLimit, StoreHasCleanDisk, HoldsTables, archive_in}
use Rattle.archive_port.specs.Words.{standing_rank}
use Rattle.archive_port.specs.declared.faults.StoreFault.TheVariants as faults
use Rattle.archive_results.specs.Access.{Ask}
use Rattle.archive_desk.specs.declared.faults.DeskError.{DeskError}
use Rattle.archive_desk.specs.declared.faults.DeskError.TheVariants.{Store as Stored, Memory}

-- G4 that carries E15
abbrev pub IsDeskDatabaseFault : DeskError → Type 0
IsDeskDatabaseFault fault = fault ≡ Stored faults.Store

-- ---- want of memory, which is counted

-- G5
abbrev pub IsDeskOwnMemoryRefusal : DeskError → Type 0
IsDeskOwnMemoryRefusal fault = fault ≡ Memory

-- G4 that carries E14
abbrev pub IsStoreMemoryRefusal : DeskError → Type 0
IsStoreMemoryRefusal fault = fault ≡ Stored faults.Memory

-- memory was refused: G5, or G4 that carries E14
abbrev pub IsDeskMemoryRefusal : DeskError → Type 0
IsDeskMemoryRefusal fault = IsDeskOwnMemoryRefusal fault ⊎ IsStoreMemoryRefusal fault

-- ---- rows that cannot be read, which no command writes (a law: `commands_write_readable_archives`)

-- among these messages is one that cannot be read
abbrev pub HasUnreadableMessage : List Message → Type 0
HasUnreadableMessage messages = ¬ All IsReadable messages

-- the message of a key cannot be read
abbrev pub IsMessageUnreadable : Archive → Ask → (key : List ℕ) → Type 0
IsMessageUnreadable archive ask key = IsSomeAnd (message_of archive ask.list key) (λ m. ¬ IsReadable m)

-- what a person's grants give is no standing
abbrev pub IsRankUnknown : Archive → Ask → (person : List ℕ) → Type 0
IsRankUnknown archive ask person = (standing : Standing) → standing_rank standing ≢ standing_of archive person ask.list ask.day

-- the address of a person is no UTF-8
abbrev pub IsAddressUnreadable : Archive → (person : List ℕ) → Type 0
IsAddressUnreadable archive person = IsSomeAnd (address_of archive person) (λ address. ¬ IsUtf8 address)

-- what is asked of a person: the standing, and the address where a rule asks whether a message is the reader's own
abbrev pub IsPersonUnreadable : Archive → Ask → (person : List ℕ) → Type 0
IsPersonUnreadable archive ask person = IsRankUnknown archive ask person ⊎ ((has_own_condition ask.rules ≡ true) × IsAddressUnreadable archive person)

-- what is asked of a reader who is a person cannot be read
abbrev pub IsReaderUnreadable : Archive → Ask → Type 0
IsReaderUnreadable archive ask = IsSomeAnd ask.reader (IsPersonUnreadable archive ask)

-- one of the messages that a question is about, or who asks
abbrev pub IsQuestionUnreadable : Archive → Ask → List Message → Type 0
IsQuestionUnreadable archive ask messages = HasUnreadableMessage messages ⊎ IsReaderUnreadable archive ask

-- ---- a call

module _ {S W : Type 0} (g : Ghosts S W) (old new : S) where
  -- The cause of a call that the database broke, of the desk or of a layer above it: where the disk has returned what was written
  -- to it, the tables are an archive's and no limit is set on the steps of a query, the disk failed in that call, or this is so of
  -- the archive, which holds what no command writes.
  abbrev pub HasCause : (Archive → Type 0) → Type 0
  HasCause Unread = StoreHasCleanDisk g new → HoldsTables g old → HasNoStepLimit g old → DiskHasFailed g old new ⊎ Unread (archive_in g old)

  -- The same of a call that carries out as much as it can, under a premise on the store (`HoldsTables`, `IsReady`): the disk failed, or
  -- this is so of the archive before the call and of the state behind it.
  abbrev pub HasPartialCallCause : (S → Type 0) → (Archive → S → Type 0) → Type 0
  HasPartialCallCause Premise Stops = StoreHasCleanDisk g new → Premise old → HasNoStepLimit g old
      → DiskHasFailed g old new ⊎ Stops (archive_in g old) new

  -- the same, where every archive can be read: the disk failed
  abbrev pub HasDiskCause : Type 0
  HasDiskCause = StoreHasCleanDisk g new → HoldsTables g old → HasNoStepLimit g old → DiskHasFailed g old new

  -- what G4 of a question means that carries E15: the disk failed, or this is so of the archive
  abbrev pub DeskFaultMeansDiskFailedOr : {A : Type 0} → Result A DeskError → (Archive → Type 0) → Type 0
  DeskFaultMeansDiskFailedOr result Unread = IfErr result (λ fault. IsDeskDatabaseFault fault → HasCause Unread)

  -- the disk failed
  abbrev pub DeskFaultMeansDiskFailed : {A : Type 0} → Result A DeskError → Type 0
  DeskFaultMeansDiskFailed result = IfErr result (λ fault. IsDeskDatabaseFault fault → HasDiskCause)
