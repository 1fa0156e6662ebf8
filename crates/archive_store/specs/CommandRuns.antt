-- How the commands and outcomes of the code stand for those of the machine.
use Rattle.std.specs.Prelude.{◌≡◌, ◌⊎◌, IsTrue, true, is_some, List, map, take, Option, Some, None, Result, Ok, Err, option_map, MatchResult, Vec}
use Rattle.std.specs.declared.alloc.Global.{Global}
use Rattle.sqlite.specs.Store.{Ghosts}
use Rattle.sqlite.specs.Held.{Held, state}
use Rattle.sqlite.specs.State.{State, HasCleanDisk}
use Rattle.archive_model.specs.Commands.{Command as Told, CommandReply, done, was_there, refused}
use Rattle.archive_model.specs.Runs.{RunOutcome, run}
use Rattle.archive_tables.specs.Tables.{IsArchiveAtRest, archive_of}
use Rattle.archive_port.specs.Words.{added_reply}
use Rattle.archive_port.specs.Replies.{refusal_of_fault}
use Rattle.archive_store.specs.Refusals.{IsCommandRefused}
use Rattle.archive_store.specs.Told.{E15MeansCause, EndsPart, DiskHasFailed}
use Rattle.archive_store.specs.Held.{store_connection}
use Rattle.archive_store.specs.declared.store.Store.{Store}
use Rattle.archive_port.specs.declared.faults.StoreFault.{StoreFault}
use Rattle.archive_store.specs.declared.running.Outcome.{Outcome}
use Rattle.archive_store.specs.declared.running.Outcome.TheVariants.{Done, WasThere, Added, Refused}
use Rattle.archive_store.specs.declared.running.CommandRunError.{CommandRunError}

-- the machine's answer that an outcome stands for
abbrev pub outcome_reply : Outcome → Option CommandReply
outcome_reply Done = Some done
outcome_reply (WasThere was) = Some (was_there was)
outcome_reply (Added added) = Some (added_reply added)
outcome_reply (Refused fault) = option_map refused (refusal_of_fault fault)

abbrev pub result_reply : Result Outcome StoreFault → Option CommandReply
result_reply (Ok outcome) = outcome_reply outcome
result_reply (Err fault) = None

-- The tables hold what the machine makes of some commands, one after the other, and so do the outcomes. After a stop the
-- tables hold what it makes of the first of them, if the connection is still open.
abbrev pub HasRunAllCommands : State → RunOutcome → State → List Outcome → Type 0
HasRunAllCommands old ran new outcomes = IsArchiveAtRest new × (archive_of new ≡ ran.archive) × (map outcome_reply outcomes ≡ map Some ran.replies)

module _ {S : Type 0} (g : Ghosts S) (old new : Held S) where
  -- Commands one after the other: the archive and the answers are those of the machine's `run`; after a stop the archive is that
  -- of the first `done`.
  abbrev pub RunsCommands : List Told → Result (Vec Outcome Global) CommandRunError → Type 0
  RunsCommands commands result = HasCleanDisk (state g new) → IsArchiveAtRest (state g old) → MatchResult result
      (λ outcomes. HasRunAllCommands (state g old) (run (archive_of (state g old)) commands) (state g new) outcomes.items)
      (λ stop. IsTrue (state g new).is_open → IsArchiveAtRest (state g new)
      × (archive_of (state g new) ≡ (run (archive_of (state g old)) (take stop.done commands)).archive))

-- How a command ends that is carried out among others: what it does to the store, that want of memory is counted, and why it is E15.
abbrev pub EndsCommand : {S A : Type 0} → Ghosts S → Store S → Store S → Told → Result A StoreFault → Type 0
EndsCommand g old new command result =
    EndsPart g old new (E15MeansCause g old new (DiskHasFailed g old new ⊎ IsCommandRefused command (state g (store_connection old)).now) result) result

-- what a command answers: an outcome that the machine gives, or that memory or the database was at fault
abbrev pub IsModelOutcomeOrFault : Result Outcome StoreFault → Type 0
IsModelOutcomeOrFault result = MatchResult result (λ outcome. is_some (outcome_reply outcome) ≡ true) (λ fault. refusal_of_fault fault ≡ None)
