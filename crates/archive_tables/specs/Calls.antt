-- What a call does to a database whose tables are as this crate leaves them, where the disk has returned what was written to it.
use Rattle.std.specs.Prelude.{◌≡◌, ◌⊎◌, ◌≤◌, IsTrue, Option, Some, None, Result, IfErr, OnOk, MatchResult}
use Rattle.sqlite_disk.specs.Disk.{MoreFaults}
use Rattle.sqlite.specs.declared.error.Error.{Error}
use Rattle.sqlite.specs.declared.error.Error.TheVariants.{SqliteFailure}
use Rattle.sqlite.specs.declared.error.ErrorCode.TheVariants.{OutOfMemory}
use Rattle.sqlite.specs.Effect.{Database}
use Rattle.sqlite.specs.Tree.{Trees}
use Rattle.sqlite.specs.Store.{Ghosts}
use Rattle.sqlite.specs.Held.{Held, state}
use Rattle.sqlite.specs.State.{State, HasCleanDisk}
use Rattle.archive_model.specs.Records.{Archive}
use Rattle.archive_tables.specs.Tables.{IsOpenArchive, IsArchiveAtRest, archive_of}
use Rattle.archive_tables.specs.Statements.{Statement, IsStatementRefused, StatementExecutesTo}
use Rattle.archive_tables.specs.Crashes.{CrashAddsNothing, CrashLeavesOldOrChanged}

-- the tables are held, and hold what this makes of what they held
abbrev pub ChangesArchive : Option Database → State → State → (Archive → Archive) → Type 0
ChangesArchive behind old new change = IsOpenArchive behind new × (archive_of new ≡ change (archive_of old))

-- A write outside a transaction: its change of the archive is committed when the call returns.
abbrev pub CommitsChange : State → State → (Archive → Archive) → Type 0
CommitsChange = ChangesArchive None

-- the same rows, over the same
abbrev pub LeavesRowsUnchanged : Option Database → State → State → Type 0
LeavesRowsUnchanged behind old new = IsOpenArchive behind new × (new.now ≡ old.now)

-- outside a transaction again, with the rows that were behind it
abbrev pub IsRolledBackTo : Database → State → Type 0
IsRolledBackTo db s = IsArchiveAtRest s × (s.now ≡ db)

-- within the transaction still, or back already, where the connection is open
abbrev pub IsOpenArchiveOrRolledBack : Database → State → Type 0
IsOpenArchiveOrRolledBack db s = IsTrue s.is_open → IsOpenArchive (Some db) s ⊎ IsRolledBackTo db s

-- A fault: the same rows, where the connection is still open; within a transaction these, or what was behind it.
abbrev pub FaultKeepsRowsOrRollsBack : Option Database → State → State → Type 0
FaultKeepsRowsOrRollsBack None old new = IsTrue new.is_open → LeavesRowsUnchanged None old new
FaultKeepsRowsOrRollsBack (Some db) old new = IsTrue new.is_open → LeavesRowsUnchanged (Some db) old new ⊎ IsRolledBackTo db new

-- After a fault outside a transaction the rows are as they were, unless the fault shut the connection.
abbrev pub FaultKeepsRows : State → State → Type 0
FaultKeepsRows = FaultKeepsRowsOrRollsBack None

-- What shuts a connection: nothing but a fault of the disk, and none is forgotten.
pub record ClosesOnlyByFault (old new : State) : Type 0 where
  pub faults_never_fall : old.faults ≤ new.faults
  pub stays_open : HasCleanDisk new → IsTrue old.is_open → IsTrue new.is_open ⊎ MoreFaults old.faults new.faults

-- What a call does to a connection, whatever the tables are and whatever it answers: only a fault shuts it, one that is shut stays
-- shut, a disk that has returned what was written so far had done so before, and the limit on the steps of a query stays.
pub record KeepsConnectionUnlessDiskFails (old new : State) : Type 0 where
  pub disk_was_clean : HasCleanDisk new → HasCleanDisk old
  pub closes_only_by_fault : ClosesOnlyByFault old new
  pub closed_stays_closed : HasCleanDisk new → IsTrue new.is_open → IsTrue old.is_open
  pub step_limit_is_same : new.step_limit ≡ old.step_limit

-- A fault has a cause: memory was wanted, or the disk failed or refused once more than before.
abbrev pub IsMemoryOrDiskError : State → State → Error → Type 0
IsMemoryOrDiskError old new e = (e ≡ SqliteFailure OutOfMemory) ⊎ MoreFaults old.faults new.faults

module _ {S : Type 0} (g : Ghosts S) (old new : Held S) where
  -- A write, outside a transaction or within one: what it makes of an archive that is as it needs it, and that a failed one rests.
  abbrev pub WriteChangesArchive : {A : Type 0} → Result A Error → (Archive → Type 0) → (Archive → Archive) → Type 0
  WriteChangesArchive result Needs change =
      HasCleanDisk (state g new) → (behind : Option Database) → IsOpenArchive behind (state g old)
      → MatchResult result (λ _. Needs (archive_of (state g old)) → ChangesArchive behind (state g old) (state g new) change)
      (λ _. FaultKeepsRowsOrRollsBack behind (state g old) (state g new))

  -- a question, outside a transaction or within one
  abbrev pub AnswerHoldsOfArchive : {A : Type 0} → Result A Error → (Archive → A → Type 0) → Type 0
  AnswerHoldsOfArchive result Says =
      HasCleanDisk (state g new) → (behind : Option Database) → IsOpenArchive behind (state g old)
      → MatchResult result (λ a. Says (archive_of (state g old)) a × LeavesRowsUnchanged behind (state g old) (state g new))
      (λ _. FaultKeepsRowsOrRollsBack behind (state g old) (state g new))

  -- A question on the rows themselves, which it leaves: what it says of them holds until the next write.
  abbrev pub AnswerHoldsOfRows : {A : Type 0} → Result A Error → (Trees → A → Type 0) → Type 0
  AnswerHoldsOfRows result Says =
      HasCleanDisk (state g new) → (behind : Option Database) → IsOpenArchive behind (state g old)
      → MatchResult result (λ a. Says (state g old).now.trees a × LeavesRowsUnchanged behind (state g old) (state g new))
      (λ _. FaultKeepsRowsOrRollsBack behind (state g old) (state g new))

  -- a connection that is shut answers nothing
  abbrev pub AnswersOnlyIfOpen : {A E : Type 0} → Result A E → Type 0
  AnswersOnlyIfOpen result = HasCleanDisk (state g new) → OnOk result (IsTrue (state g old).is_open)

  -- Where the connection has no limit on the steps of a query, a question fails for want of memory or by a fault of the disk, or
  -- there is a row that cannot be read, and for nothing else.
  abbrev pub FailsByFaultOr : {A : Type 0} → Result A Error → Type 0 → Type 0
  FailsByFaultOr result Unread =
      HasCleanDisk (state g new) → IsArchiveAtRest (state g old) → (state g old).step_limit ≡ None → IfErr result (λ e. IsMemoryOrDiskError (state g old) (state g new) e ⊎ Unread)

  -- The same of a question that reads each row, outside a transaction or within one.
  abbrev pub FailsOnlyByMemoryOrDisk : {A : Type 0} → Result A Error → Type 0
  FailsOnlyByMemoryOrDisk result =
      HasCleanDisk (state g new) → (behind : Option Database) → IsOpenArchive behind (state g old) → (state g old).step_limit ≡ None
      → IfErr result (λ e. IsMemoryOrDiskError (state g old) (state g new) e)

  -- Where the connection has no limit on the steps of a query, a write on such tables fails for want of memory, or by a fault of the
  -- disk, or since its rows are refused, and for nothing else.
  abbrev pub FailsByFaultOrRefusal : {A : Type 0} → Result A Error → Statement → Type 0
  FailsByFaultOrRefusal result statement =
      HasCleanDisk (state g new) → (behind : Option Database) → IsOpenArchive behind (state g old) → (state g old).step_limit ≡ None
      → IfErr result (λ e. IsMemoryOrDiskError (state g old) (state g new) e ⊎ IsStatementRefused statement (state g old).now)

  -- and where it succeeds, the connection sees what the statement makes
  abbrev pub ExecutesStatement : {A : Type 0} → Result A Error → Statement → Type 0
  ExecutesStatement result statement =
      HasCleanDisk (state g new) → (behind : Option Database) → IsOpenArchive behind (state g old) → (state g old).step_limit ≡ None
      → OnOk result (StatementExecutesTo statement (state g old).now (state g new).now)

  -- who is answered sees what was seen before, whatever the tables are
  abbrev pub AnswerSeesSameDatabase : {A : Type 0} → Result A Error → Type 0
  AnswerSeesSameDatabase result = HasCleanDisk (state g new) → OnOk result ((state g new).now ≡ (state g old).now)

  -- ---- clauses of a whole call

  -- How a call ends, whatever the tables are and whatever it answers: what it does to the connection, and that one that is shut
  -- answers nothing.
  pub record EndsConnectionCall {A E : Type 0} (result : Result A E) : Type 0 where
    pub remains_open : KeepsConnectionUnlessDiskFails (state g old) (state g new)
    pub was_open : AnswersOnlyIfOpen result

  -- A question on the tables, outside a transaction or within one: what it says of them and leaves, why it fails, that it changes
  -- neither what is seen nor what a stop of the machine leaves, and how it ends.
  pub record AnswersFromDatabase {A : Type 0} (result : Result A Error) (Says : Archive → A → Type 0) (Unread : Type 0) : Type 0 where
    pub answer_holds : AnswerHoldsOfArchive result Says
    pub fault_has_cause : FailsByFaultOr result Unread
    pub same_database : AnswerSeesSameDatabase result
    pub crash_adds_nothing : CrashAddsNothing g old new
    pub ends_call : EndsConnectionCall result

  -- The same of a question whose faults have a cause within a transaction, too.
  pub record AnswersOrFailsByFault {A : Type 0} (result : Result A Error) (Says : Archive → A → Type 0) : Type 0 where
    pub answer_holds : AnswerHoldsOfArchive result Says
    pub fault_has_cause : FailsOnlyByMemoryOrDisk result
    pub same_database : AnswerSeesSameDatabase result
    pub crash_adds_nothing : CrashAddsNothing g old new
    pub ends_call : EndsConnectionCall result

  -- A question on the rows themselves.
  pub record AnswersFromRows {A : Type 0} (result : Result A Error) (Says : Trees → A → Type 0) (Unread : Type 0) : Type 0 where
    pub answer_holds : AnswerHoldsOfRows result Says
    pub fault_has_cause : FailsByFaultOr result Unread
    pub same_database : AnswerSeesSameDatabase result
    pub crash_adds_nothing : CrashAddsNothing g old new
    pub ends_call : EndsConnectionCall result

  -- A write by a statement on tables that are as it needs them, outside a transaction or within one: what it makes of them, why it
  -- fails, what a stop of the machine may leave, and how it ends.
  pub record WritesByStatement {A : Type 0} (result : Result A Error) (Needs : Archive → Type 0) (change : Archive → Archive) (statement : Statement) : Type 0 where
    pub answer_holds : WriteChangesArchive result Needs change
    pub fault_has_cause : FailsByFaultOrRefusal result statement
    pub executes_statement : ExecutesStatement result statement
    pub crash : CrashLeavesOldOrChanged g old new Needs change
    pub ends_call : EndsConnectionCall result
