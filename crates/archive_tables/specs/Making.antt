-- How the tables are made: all within one transaction, so that all of them are there or none.
use Rattle.std.specs.Prelude.{◌≡◌, ◌⊎◌, ℕ, ℤ, Bool, true, false, List, [], IsTrue, None, Result, OnOk, OnErr, IfErr}
use Rattle.std.specs.List.{AllByRecursion}
use Rattle.sqlite.specs.declared.error.Error.{Error}
use Rattle.sqlite.specs.Effect.{Database}
use Rattle.sqlite.specs.Held.{Held, state}
use Rattle.sqlite.specs.Schema.{Schema}
use Rattle.sqlite.specs.State.{State, HasCleanDisk, IsUnchanged, IsRolledBack}
use Rattle.sqlite.specs.Store.{Ghosts}
use Rattle.sqlite.specs.Table.{Table}
use Rattle.archive_model.specs.Records.{Archive}
use Rattle.archive_tables.specs.Schema.{archive_schema}
use Rattle.archive_tables.specs.Calls.{KeepsConnectionUnlessDiskFails, AnswersOnlyIfOpen, IsMemoryOrDiskError, AnswerSeesSameDatabase}
use Rattle.archive_tables.specs.Crashes.{CrashAddsNothing, CrashAddsOnlyCommit}
use Rattle.archive_tables.specs.Statements.{Statement, IsStatementRefused, StatementExecutesTo, IsAnyStatementRefused, StatementsExecuteTo}
use Rattle.archive_tables.specs.Tables.{AreTablesWithVersionRow, newest_version, archive_of_version}
use Rattle.archive_tables.specs.declared.texts.schema.TheConstants.{VERSION}

-- what new tables remember: no list, no person, no message
abbrev pub empty_archive : Archive
empty_archive = record { lists = []; persons = []; grants = []; messages = []; index_columns = []; options = []; addresses = [] }

-- the tables of this schema are there, without rows, in a transaction that goes back to this database
pub record IsCreatingTables (s : State) (schema : Schema) (before : Database) : Type 0 where
  pub is_open : IsTrue s.is_open
  pub is_in_transaction : s.in_transaction ≡ true
  pub committed_is_before : s.committed ≡ before
  pub schema_is : s.now.schema ≡ schema
  pub tables_are_empty : AllByRecursion (λ (t : Table). s.now.trees t.tree ≡ []) schema.tables

-- an open transaction that goes back to this database, over this schema, whatever the rows are
pub record IsInTransactionWithSchema (s : State) (before : Database) (schema : Schema) : Type 0 where
  pub is_open : IsTrue s.is_open
  pub is_in_transaction : s.in_transaction ≡ true
  pub committed_is_before : s.committed ≡ before
  pub schema_is : s.now.schema ≡ schema

-- In a transaction that goes back to this database: tables of a version under this schema, which remember this archive, while
-- `version` says this number.
pub record IsMigratingTables (s : State) (before : Database) (schema : Schema) (said : ℤ) (number : ℕ) (archive : Archive) : Type 0 where
  pub is_open : IsTrue s.is_open
  pub is_in_transaction : s.in_transaction ≡ true
  pub committed_is_before : s.committed ≡ before
  pub schema_is : s.now.schema ≡ schema
  pub are_tables_of_version : AreTablesWithVersionRow said number s.now.trees
  pub archive_is : archive_of_version number s.now.trees ≡ archive

-- all is there but the commit
abbrev pub IsReadyToCommit : State → Database → Archive → Type 0
IsReadyToCommit s before archive = IsMigratingTables s before archive_schema VERSION newest_version archive

-- a statement that fails changes nothing, or goes back to the last commit
abbrev pub FailureKeepsOrRollsBack : {S A : Type 0} → Ghosts S → Held S → Held S → Result A Error → Type 0
FailureKeepsOrRollsBack g old new result = HasCleanDisk (state g new) → OnErr result (IsUnchanged (state g old) (state g new) ⊎ IsRolledBack (state g old) (state g new))

-- Over this schema, whatever the rows are, on a connection that is open and has no limit on the steps of a query: a statement fails for
-- want of memory, by a fault of the disk, or since SQL refuses it on this database, and for nothing else.
abbrev pub FailsUnderSchema : {S A : Type 0} → Ghosts S → Held S → Held S → Result A Error → Schema → Statement → Type 0
FailsUnderSchema g old new result schema statement =
    HasCleanDisk (state g new) → IsTrue (state g old).is_open → (state g old).now.schema ≡ schema → (state g old).step_limit ≡ None
    → IfErr result (λ e. IsMemoryOrDiskError (state g old) (state g new) e ⊎ IsStatementRefused statement (state g old).now)

-- and where it succeeds, the connection sees what the statement makes
abbrev pub ExecutesUnderSchema : {S A : Type 0} → Ghosts S → Held S → Held S → Result A Error → Schema → Statement → Type 0
ExecutesUnderSchema g old new result schema statement =
    HasCleanDisk (state g new) → IsTrue (state g old).is_open → (state g old).now.schema ≡ schema → (state g old).step_limit ≡ None
    → OnOk result (StatementExecutesTo statement (state g old).now (state g new).now)

-- How a step of the making or the moving of tables ends: as each call does; where it fails as is said above, and why, over this schema;
-- and what its statement makes.
pub record EndsStep {S A : Type 0} (g : Ghosts S) (old new : Held S) (result : Result A Error) (schema : Schema) (statement : Statement) : Type 0 where
  pub remains_open : KeepsConnectionUnlessDiskFails (state g old) (state g new)
  pub was_open : AnswersOnlyIfOpen g old new result
  pub failure_keeps_or_rolls_back : FailureKeepsOrRollsBack g old new result
  pub fault_has_cause : FailsUnderSchema g old new result schema statement
  pub executes : ExecutesUnderSchema g old new result schema statement

-- How some steps end, one after the other, in a transaction of which this holds: as each call does; they fail for want of memory, by a
-- fault of the disk, or since SQL refuses one of their statements in its turn; and what all of them make.
pub record EndsSteps {S A : Type 0} (g : Ghosts S) (old new : Held S) (result : Result A Error) (Holds : State → Database → Type 0) (statements : List Statement) : Type 0 where
  pub remains_open : KeepsConnectionUnlessDiskFails (state g old) (state g new)
  pub fault_has_cause : HasCleanDisk (state g new) → (before : Database) → Holds (state g old) before → (state g old).step_limit ≡ None
      → IfErr result (λ e. IsMemoryOrDiskError (state g old) (state g new) e ⊎ IsAnyStatementRefused statements (state g old).now)
  pub executes : HasCleanDisk (state g new) → (before : Database) → Holds (state g old) before → (state g old).step_limit ≡ None
      → OnOk result (StatementsExecuteTo statements (state g old).now (state g new).now)

-- within a transaction over this schema, whatever the rows are, a stop of the machine leaves nothing that it did not leave before
abbrev pub CrashAddsNothingInTransaction : {S : Type 0} → Ghosts S → Held S → Held S → Schema → Type 0
CrashAddsNothingInTransaction g old new schema = (before : Database) → IsInTransactionWithSchema (state g old) before schema → CrashAddsNothing g old new

-- Outside a transaction or within one, as BEGIN, COMMIT and ROLLBACK need it, on a connection that is open: it fails for want of memory
-- or by a fault of the disk, and for nothing else.
abbrev pub TransactionCallFailsByFault : {S A : Type 0} → Ghosts S → Held S → Held S → Result A Error → (within : Bool) → Type 0
TransactionCallFailsByFault g old new result within =
    HasCleanDisk (state g new) → IsTrue (state g old).is_open → (state g old).in_transaction ≡ within → IfErr result (IsMemoryOrDiskError (state g old) (state g new))

-- How BEGIN ends: as a step; why it fails outside a transaction; and that what is seen stays, and what a stop of the machine leaves.
pub record EndsBegin {S A : Type 0} (g : Ghosts S) (old new : Held S) (result : Result A Error) : Type 0 where
  pub remains_open : KeepsConnectionUnlessDiskFails (state g old) (state g new)
  pub was_open : AnswersOnlyIfOpen g old new result
  pub failure_keeps_or_rolls_back : FailureKeepsOrRollsBack g old new result
  pub fault_has_cause : TransactionCallFailsByFault g old new result false
  pub same_database : AnswerSeesSameDatabase g old new result
  pub crash_adds_nothing : CrashAddsNothing g old new

-- How COMMIT ends: as a step; why it fails within a transaction; and that a stop of the machine may leave what was seen.
pub record EndsCommit {S A : Type 0} (g : Ghosts S) (old new : Held S) (result : Result A Error) : Type 0 where
  pub remains_open : KeepsConnectionUnlessDiskFails (state g old) (state g new)
  pub was_open : AnswersOnlyIfOpen g old new result
  pub failure_keeps_or_rolls_back : FailureKeepsOrRollsBack g old new result
  pub fault_has_cause : TransactionCallFailsByFault g old new result true
  pub same_database : AnswerSeesSameDatabase g old new result
  pub crash : CrashAddsOnlyCommit g old new

-- How ROLLBACK ends: where it fails as a step does; why, within a transaction; and a stop of the machine leaves nothing new.
pub record EndsRollback {S A : Type 0} (g : Ghosts S) (old new : Held S) (result : Result A Error) : Type 0 where
  pub failure_keeps_or_rolls_back : FailureKeepsOrRollsBack g old new result
  pub fault_has_cause : TransactionCallFailsByFault g old new result true
  pub crash_adds_nothing : CrashAddsNothing g old new

-- what is committed is what was there before, if the connection is still open
abbrev pub IsCommittedUnchanged : State → Database → Type 0
IsCommittedUnchanged s before = IsTrue s.is_open → s.committed ≡ before

-- the connection is open, and outside a transaction
pub record IsIdle (s : State) : Type 0 where
  pub is_open : IsTrue s.is_open
  pub autocommit : s.in_transaction ≡ false
  pub committed_is_now : s.committed ≡ s.now

-- in a transaction over the tables of one schema, without rows, it makes those of the other
abbrev pub CreatesTables : {S A : Type 0} → Ghosts S → Held S → Held S → Result A Error → (from to : Schema) → Type 0
CreatesTables g old new result from to = HasCleanDisk (state g new) → (before : Database) → IsCreatingTables (state g old) from before → OnOk result (IsCreatingTables (state g new) to before)

-- a transaction over one schema, whatever the rows are, becomes one over the other
abbrev pub MigratesSchema : {S A : Type 0} → Ghosts S → Held S → Held S → Result A Error → (from to : Schema) → Type 0
MigratesSchema g old new result from to =
    HasCleanDisk (state g new) → (before : Database) → IsInTransactionWithSchema (state g old) before from → OnOk result (IsInTransactionWithSchema (state g new) before to)

-- outside a transaction, this is there now and is committed, if the connection is still open
abbrev pub IsRolledBackIfOpen : State → Database → Type 0
IsRolledBackIfOpen s before = IsTrue s.is_open → (s.now ≡ before) × (s.committed ≡ before) × (s.in_transaction ≡ false)

-- a transaction that goes back to this, or is over and has, if the connection is still open
abbrev pub IsRollbackPendingOrDone : State → Database → Type 0
IsRollbackPendingOrDone s before = IsTrue s.is_open → (s.committed ≡ before) × ((s.in_transaction ≡ true) ⊎ ((s.now ≡ before) × (s.in_transaction ≡ false)))

-- where the making of tables over this schema fails, the transaction goes on, or it is over and goes back
abbrev pub CreationFailureCanRollBack : {S A : Type 0} → Ghosts S → Held S → Held S → Result A Error → Schema → Type 0
CreationFailureCanRollBack g old new result from =
    HasCleanDisk (state g new) → (before : Database) → IsCreatingTables (state g old) from before → OnErr result (IsRollbackPendingOrDone (state g new) before)
