-- Why a database was not made, read or written.
use Rattle.std.specs.Prelude.{◌≡◌, ◌⊎◌, None, Result, IfErr}
use Rattle.sqlite_disk.specs.Disk.{MoreFaults}
use Rattle.sqlite.specs.Effect.{Database as Tables}
use Rattle.sqlite.specs.Store.{Ghosts}
use Rattle.sqlite.specs.Held.{Held, state}
use Rattle.sqlite.specs.State.{State, HasCleanDisk}
use Rattle.sqlite.specs.declared.error.Error.{Error}
use Rattle.sqlite.specs.declared.error.Error.TheVariants.{SqliteFailure}
use Rattle.sqlite.specs.declared.error.ErrorCode.TheVariants.{OutOfMemory}
use Rattle.archive_tables.specs.Calls.{KeepsConnectionUnlessDiskFails, AnswersOnlyIfOpen}
use Rattle.archive_database.specs.declared.faults.DatabaseError.{DatabaseError}
use Rattle.archive_database.specs.declared.faults.DatabaseError.TheVariants.{Memory, Database}
use Rattle.archive_port.specs.declared.faults.StoreFault.{StoreFault}
use Rattle.archive_port.specs.declared.faults.StoreFault.TheVariants as faults

-- want of memory in the database, or any other failure of it
abbrev pub database_error_of : Error → DatabaseError
database_error_of (SqliteFailure OutOfMemory) = Memory
database_error_of _ = Database

-- E14 where no memory was left, E15 where anything else went wrong
abbrev pub as_store_fault : DatabaseError → StoreFault
as_store_fault Memory = faults.Memory
as_store_fault Database = faults.Store

-- Where it is not memory that was wanted, the disk failed or refused once more than before, or the rows refused the change.
abbrev pub FailsByDiskOr : {A : Type 0} → State → State → Result A DatabaseError → Type 0 → Type 0
FailsByDiskOr old new result Refused = IfErr result (λ fault. fault ≡ Database → MoreFaults old.faults new.faults ⊎ Refused)

-- How a call ends, whatever it answers: as each call does; and where this held before and no limit is set on the steps of a query,
-- what is not want of memory means that the disk failed or refused once more, or this of the database as it was.
pub record EndsDatabaseCall {S A : Type 0} (g : Ghosts S) (old new : Held S) (result : Result A DatabaseError) (Premise : State → Type 0) (Refused : Tables → Type 0) : Type 0 where
  pub remains_open : KeepsConnectionUnlessDiskFails (state g old) (state g new)
  pub was_open : AnswersOnlyIfOpen g old new result
  pub fault_has_cause : HasCleanDisk (state g new) → Premise (state g old) → (state g old).step_limit ≡ None → FailsByDiskOr (state g old) (state g new) result (Refused (state g old).now)
