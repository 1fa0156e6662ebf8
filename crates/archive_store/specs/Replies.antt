-- How the answers of a store stand for those of the machine.
use Rattle.std.specs.Prelude.{◌≡◌, IsTrue, MatchResult, MatchOption, Option, Some, None, Result}
use Rattle.sqlite.specs.Store.{Ghosts}
use Rattle.sqlite.specs.declared.error.Error.{Error}
use Rattle.sqlite.specs.Held.{Held, state}
use Rattle.sqlite.specs.State.{State, HasCleanDisk}
use Rattle.archive_model.specs.Records.{Archive}
use Rattle.archive_model.specs.Commands.{Refusal, CommandReply}
use Rattle.archive_model.specs.Machine.{StepOutcome}
use Rattle.archive_tables.specs.Tables.{IsArchiveAtRest, archive_of}
use Rattle.archive_tables.specs.Calls.{FaultKeepsRows}
use Rattle.archive_port.specs.declared.faults.StoreFault.{StoreFault}
use Rattle.archive_port.specs.Replies.{refusal_of_fault}
use Rattle.archive_database.specs.Faults.{database_error_of as told_of, as_store_fault}

-- E14 where the database wanted memory, E15 where anything else went wrong
abbrev pub store_fault_of_error : Error → StoreFault
store_fault_of_error error = as_store_fault (told_of error)

-- Where there is an answer, the tables are kept, and they and the answer are what the machine says. Where memory or the
-- database was at fault, their rows are as they were, if the connection is still open.
abbrev pub MatchesModelStep : State → State → (Archive → StepOutcome) → Option CommandReply → Type 0
MatchesModelStep old new step None = FaultKeepsRows old new
MatchesModelStep old new step (Some reply) = IsArchiveAtRest new × ((archive_of new, reply) ≡ step (archive_of old))

module _ {S : Type 0} (g : Ghosts S) (old new : Held S) where
  -- one step of the machine, where the disk has returned what was written to it
  abbrev pub PerformsModelStep : (Archive → StepOutcome) → Option CommandReply → Type 0
  PerformsModelStep step reply = HasCleanDisk (state g new) → IsArchiveAtRest (state g old) → MatchesModelStep (state g old) (state g new) step reply

  -- the tables are kept, and hold what they held
  abbrev pub ArchiveIsUnchanged : Type 0
  ArchiveIsUnchanged = IsArchiveAtRest (state g new) × (archive_of (state g new) ≡ archive_of (state g old))

  -- A question that is refused where this says so, and is else answered by a value of which this holds. It leaves the
  -- archive as it was; where memory or the database was at fault, if the connection is still open.
  abbrev pub AnswersStoreQuestion : {A : Type 0} → Result A StoreFault → (Archive → Option Refusal) → (Archive → A → Type 0) → Type 0
  AnswersStoreQuestion result refuses Says = HasCleanDisk (state g new) → IsArchiveAtRest (state g old) →
      MatchResult result
      (λ a. ArchiveIsUnchanged × (refuses (archive_of (state g old)) ≡ None) × Says (archive_of (state g old)) a)
      (λ fault. MatchOption (refusal_of_fault fault) (IsTrue (state g new).is_open → ArchiveIsUnchanged) (λ r. ArchiveIsUnchanged × (refuses (archive_of (state g old)) ≡ Some r)))
