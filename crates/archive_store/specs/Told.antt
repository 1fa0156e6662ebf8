-- What a store is and what its calls do, in words of its own: they name a connection, and the tables that it is over.
use Rattle.std.specs.Prelude.{◌≡◌, ◌⊎◌, ◌<◌, ℕ, ⊤, IsTrue, List, Option, None, Some, Result, IfErr, OnOk, MatchResult, MatchOption}
use Rattle.sqlite_disk.specs.Disk.{MoreFaults}
use Rattle.sqlite.specs.Effect.{Database}
use Rattle.sqlite.specs.Tree.{Trees}
use Rattle.sqlite.specs.Store.{Ghosts}
use Rattle.sqlite.specs.Held.{Held, state}
use Rattle.sqlite.specs.State.{HasCleanDisk}
use Rattle.archive_model.specs.Records.{Archive}
use Rattle.archive_model.specs.Commands.{Refusal}
use Rattle.archive_model.specs.Sound.{IsIndexedCorrectly}
use Rattle.archive_tables.specs.Tables.{IsArchiveAtRest, archive_of}
use Rattle.archive_tables.specs.Calls.{KeepsConnectionUnlessDiskFails as LastsOpen, FaultKeepsRows}
use Rattle.archive_store.specs.Held.{store_connection, memory_refusal_count}
use Rattle.archive_port.specs.Replies.{refusal_of_fault, IsRefusedOnlyFor}
use Rattle.archive_port.specs.Wanting.{IsMemoryRefusal, RaisesRefusalCount}
use Rattle.archive_store.specs.declared.store.Store.{Store}
use Rattle.archive_port.specs.declared.faults.StoreFault.{StoreFault}
use Rattle.archive_port.specs.declared.faults.StoreFault.TheVariants as faults

-- in a call memory was refused once more
abbrev pub MemoryWasRefused : {S : Type 0} → Store S → Store S → Type 0
MemoryWasRefused old new = memory_refusal_count old < memory_refusal_count new

-- What a call does to the count of refused memory, whatever it answers: it does not fall, and after a fault that is a want of
-- memory it rose.
abbrev pub CountsRefusals : {S A F : Type 0} → (F → Type 0) → Store S → Store S → Result A F → Type 0
CountsRefusals IsMemoryRefusal old new result = RaisesRefusalCount IsMemoryRefusal (memory_refusal_count old) (memory_refusal_count new) result

module _ {S : Type 0} (g : Ghosts S) where
  -- a connection is open outside a transaction, and its tables are an archive's and hold this one, in which what is filed of each
  -- message is what its text says
  abbrev pub HoldsArchive : Held S → Archive → Type 0
  HoldsArchive connection archive = IsArchiveAtRest (state g connection) × (archive_of (state g connection) ≡ archive) × IsIndexedCorrectly archive

  -- what adopting does to a connection: but for the limit on the steps of a query, it lasts
  abbrev pub LastsExceptStepLimit : Held S → Held S → Type 0
  LastsExceptStepLimit old new = LastsOpen (state g old) (record (state g new) { step_limit = (state g old).step_limit })

  -- It is open, outside a transaction, and its tables are an archive's, whatever is filed of a message.
  abbrev pub HoldsTables : Store S → Type 0
  HoldsTables store = IsArchiveAtRest (state g (store_connection store))

  -- the archive that a store remembers
  abbrev pub archive_in : Store S → Archive
  archive_in store = archive_of (state g (store_connection store))

  -- The premise on a store: its tables are as the calls of a store leave them, so what is filed of each message is what its text
  -- says.
  pub record IsReadyOn (connection : Held S) : Type 0 where
    pub is_archive_at_rest : IsArchiveAtRest (state g connection)
    pub is_indexed_correctly : IsIndexedCorrectly (archive_of (state g connection))

  -- the premise on a store
  abbrev pub IsReady : Store S → Type 0
  IsReady store = IsReadyOn (store_connection store)

  -- its connection is open
  abbrev pub IsOpen : Store S → Type 0
  IsOpen store = IsTrue (state g (store_connection store)).is_open

  abbrev pub IsStoreClosed : Store S → Type 0
  IsStoreClosed store = ¬ IsOpen store

  -- its disk has returned what was written to it
  abbrev pub StoreHasCleanDisk : Store S → Type 0
  StoreHasCleanDisk store = HasCleanDisk (state g (store_connection store))

  -- how often its disk failed or refused
  abbrev pub faults_of : Store S → ℕ
  faults_of store = (state g (store_connection store)).faults

  -- no limit is set on the steps of a query: `adopt` takes it off, and nothing sets one
  abbrev pub HasNoStepLimit : Store S → Type 0
  HasNoStepLimit store = (state g (store_connection store)).step_limit ≡ None

  -- what the next opening may find after a crash at this moment, if the disk has returned what was written to it
  abbrev pub CrashMayLeave : Store S → Trees → Type 0
  CrashMayLeave store db = StoreHasCleanDisk store × (state g (store_connection store)).may_leave db

  module _ (old new : Store S) where
    -- A question, whatever it answers: a crash after it leaves what a crash before it might have left, and nothing else.
    abbrev pub WritesNothing : Type 0
    WritesNothing = (db : Trees) → CrashMayLeave new db → CrashMayLeave old db

    -- a disk that has returned what was written so far had done so before
    abbrev pub HadCleanDisk : Type 0
    HadCleanDisk = StoreHasCleanDisk new → StoreHasCleanDisk old

    -- What a call does to a store, whatever its tables hold and whatever it answers: only a fault of the disk shuts its connection,
    -- and one that is shut stays shut.
    abbrev pub StaysOpenUnlessDiskFails : Type 0
    StaysOpenUnlessDiskFails = LastsOpen (state g (store_connection old)) (state g (store_connection new))

    -- who was answered, or refused for a reason, asked a store whose connection was open
    abbrev pub WasOpen : {A F R : Type 0} → (F → Option R) → Result A F → Type 0
    WasOpen reason result = StoreHasCleanDisk new → MatchResult result (λ _. IsOpen old) (λ fault. MatchOption (reason fault) ⊤ (λ _. IsOpen old))

    -- in a call its disk failed or refused once more
    abbrev pub DiskHasFailed : Type 0
    DiskHasFailed = MoreFaults (faults_of old) (faults_of new)

    -- Who is answered sees what was seen before. After a fault the rows of an archive are as they were, unless the fault shut the connection.
    abbrev pub SeesSameDatabase : {A F : Type 0} → Result A F → Type 0
    SeesSameDatabase result = StoreHasCleanDisk new → MatchResult result (λ _. (state g (store_connection new)).now ≡ (state g (store_connection old)).now)
        (λ _. HoldsTables old → FaultKeepsRows (state g (store_connection old)) (state g (store_connection new)))

    -- What E15 means, where the tables are an archive's and no limit is set.
    abbrev pub E15MeansCause : Type 0 → {A : Type 0} → Result A StoreFault → Type 0
    E15MeansCause Cause result = StoreHasCleanDisk new → HoldsTables old → HasNoStepLimit old → IfErr result (λ fault. fault ≡ faults.Store → Cause)

    -- of a question: the disk failed in that call
    abbrev pub E15MeansDiskFailed : {A : Type 0} → Result A StoreFault → Type 0
    E15MeansDiskFailed result = E15MeansCause DiskHasFailed result

    -- the same, or this is so of the archive, which holds what no command writes
    abbrev pub E15MeansDiskFailedOr : {A : Type 0} → Result A StoreFault → (Archive → Type 0) → Type 0
    E15MeansDiskFailedOr result Unread = E15MeansCause (DiskHasFailed ⊎ Unread (archive_in old)) result

    -- ---- how a call ends, whatever the tables hold and whatever it answers

    -- A command or a question: what it does to the store, that who was answered asked one whose connection was open, for which reasons
    -- it may be refused, that want of memory is counted, and what its E15 means, where the tables are an archive's and no limit is set.
    pub record EndsWithCause (Cause : Type 0) {A : Type 0} (result : Result A StoreFault) (reasons : List Refusal) : Type 0 where
      pub remains_open : StaysOpenUnlessDiskFails
      pub was_open : StoreHasCleanDisk new → OnOk result (IsOpen old)
      pub refusal_is_possible : IsRefusedOnlyFor result reasons
      pub refusals_counted : CountsRefusals IsMemoryRefusal old new result
      pub fault_has_cause : E15MeansCause Cause result

    -- a question whose E15 means that the disk failed in that call
    abbrev pub EndsQuestion : {A : Type 0} → Result A StoreFault → List Refusal → Type 0
    EndsQuestion result reasons = EndsWithCause DiskHasFailed result reasons

    -- the same, or this is so of the archive, which holds what no command writes
    abbrev pub EndsQuestionOrUnreadable : {A : Type 0} → Result A StoreFault → List Refusal → (Archive → Type 0) → Type 0
    EndsQuestionOrUnreadable result reasons Unread = EndsWithCause (DiskHasFailed ⊎ Unread (archive_in old)) result reasons

    -- A command whose E15 means that the disk failed in that call, or that the rows which the store held refuse what it writes: a fact
    -- about these rows alone.
    abbrev pub EndsWrite : {A : Type 0} → Result A StoreFault → List Refusal → (Database → Type 0) → Type 0
    EndsWrite result reasons Refused = EndsWithCause (DiskHasFailed ⊎ Refused (state g (store_connection old)).now) result reasons

    -- A call that carries out as much as it can. Its E15 means that the disk failed in that call, or that the rows which the store holds
    -- then refuse what it writes next.
    abbrev pub EndsPartialWrite : {A : Type 0} → Result A StoreFault → List Refusal → (Database → Type 0) → Type 0
    EndsPartialWrite result reasons Refused = EndsWithCause (DiskHasFailed ⊎ Refused (state g (store_connection new)).now) result reasons

    -- A call that no reason of the archive's refuses, and that may answer without asking the database: memory or the database is at
    -- fault where it fails.
    pub record EndsUnrefused {A : Type 0} (result : Result A StoreFault) : Type 0 where
      pub remains_open : StaysOpenUnlessDiskFails
      pub fault_is_no_refusal : IfErr result (λ fault. refusal_of_fault fault ≡ None)
      pub refusals_counted : CountsRefusals IsMemoryRefusal old new result

    -- the same, and what its E15 means, where the tables are an archive's and no limit is set
    pub record EndsUnrefusedBy (Cause : Type 0) {A : Type 0} (result : Result A StoreFault) : Type 0 where
      pub remains_open : StaysOpenUnlessDiskFails
      pub fault_is_no_refusal : IfErr result (λ fault. refusal_of_fault fault ≡ None)
      pub refusals_counted : CountsRefusals IsMemoryRefusal old new result
      pub fault_has_cause : E15MeansCause Cause result

    -- A part of a call: what it does to the store, that want of memory is counted, and what its E15 means.
    pub record EndsPart (Meaning : Type 0) {A : Type 0} (result : Result A StoreFault) : Type 0 where
      pub remains_open : StaysOpenUnlessDiskFails
      pub refusals_counted : CountsRefusals IsMemoryRefusal old new result
      pub fault_has_cause : Meaning

  -- ---- under a premise: `HoldsTables` or `IsReady`

  module _ (Premise : Store S → Type 0) (old new : Store S) where
    -- the store lasts, and where the premise held of it it holds, and this of what it remembered and of what it remembers
    abbrev pub RelatesArchivesUnder : (Archive → Archive → Type 0) → Type 0
    RelatesArchivesUnder R = StaysOpenUnlessDiskFails old new × (StoreHasCleanDisk new → Premise old → Premise new × R (archive_in old) (archive_in new))

    -- the same, if the connection is still open
    abbrev pub RelatesArchivesUnderIfOpen : (Archive → Archive → Type 0) → Type 0
    RelatesArchivesUnderIfOpen R = StaysOpenUnlessDiskFails old new × (StoreHasCleanDisk new → Premise old → IsOpen new → Premise new × R (archive_in old) (archive_in new))

    -- A call, of the store or of a layer above it, whose faults have a reason, or none where memory or the database was at
    -- fault. `Says` holds of the archives before and after and of an answer, `Refuses` of a reason, and `Stops` of a fault
    -- that has none, if the connection is still open.
    abbrev pub CallsStoreUnder : {A F R : Type 0} → (F → Option R) → Result A F → (Archive → Archive → A → Type 0) → (Archive → Archive → R → Type 0)
        → (Archive → Archive → F → Type 0) → Type 0
    CallsStoreUnder reason result Says Refuses Stops = MatchResult result
        (λ answer. RelatesArchivesUnder (λ a b. Says a b answer))
        (λ fault. MatchOption (reason fault) (RelatesArchivesUnderIfOpen (λ a b. Stops a b fault)) (λ why. RelatesArchivesUnder (λ a b. Refuses a b why)))

    -- a question: it changes nothing, is refused where `refuses` says so, and is else answered by a value of which this holds
    abbrev pub AnswersFromStoreUnder : {A F R : Type 0} → (F → Option R) → Result A F → (Archive → Option R) → (Archive → A → Type 0) → Type 0
    AnswersFromStoreUnder reason result refuses Says = CallsStoreUnder reason result
        (λ a b answer. (b ≡ a) × (refuses a ≡ None) × Says a answer) (λ a b why. (b ≡ a) × (refuses a ≡ Some why)) (λ a b _. b ≡ a)

  -- ---- of a store that is ready

  module _ (old new : Store S) where
    -- The store lasts, and where it was ready it is ready, and this holds of the archives that it remembered and remembers.
    abbrev pub RelatesReadyArchives : (Archive → Archive → Type 0) → Type 0
    RelatesReadyArchives R = RelatesArchivesUnder IsReady old new R

    -- the same, if the connection is still open
    abbrev pub RelatesReadyArchivesIfOpen : (Archive → Archive → Type 0) → Type 0
    RelatesReadyArchivesIfOpen R = RelatesArchivesUnderIfOpen IsReady old new R

    -- a call to a store that is ready: what its answers, its refusals and its faults say of the two archives
    abbrev pub CallsReadyStore : {A F R : Type 0} → (F → Option R) → Result A F → (Archive → Archive → A → Type 0) → (Archive → Archive → R → Type 0)
        → (Archive → Archive → F → Type 0) → Type 0
    CallsReadyStore reason result Says Refuses Stops = CallsStoreUnder IsReady old new reason result Says Refuses Stops

    -- a question to a store that is ready, which leaves the archive
    abbrev pub AnswersFromReadyStore : {A F R : Type 0} → (F → Option R) → Result A F → (Archive → Option R) → (Archive → A → Type 0) → Type 0
    AnswersFromReadyStore reason result refuses Says = AnswersFromStoreUnder IsReady old new reason result refuses Says
