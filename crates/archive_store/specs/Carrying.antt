-- How a command is carried out: what is looked up, what is written, and what both make.
use Rattle.std.specs.Prelude.{◌≡◌, ◌⊎◌, ℕ, pos, Bool, true, not, List, [], ◌∷◌, is_some, if◌then◌else◌, Option, Some, None, option_map, Result, Ok, Err, IfErr, OnOk, MatchResult}
use Rattle.std.specs.Ordering.{int_eq}
use Rattle.sqlite.specs.Effect.{Database}
use Rattle.sqlite.specs.Store.{Ghosts}
use Rattle.sqlite.specs.Held.{state}
use Rattle.archive_model.specs.Records.{Archive}
use Rattle.archive_model.specs.Commands.{Command as Told, CommandReply, done, refused, already_known}
use Rattle.archive_model.specs.Machine.{GuardedReply, no_command_facts, command_facts_within_limit, guarded_replies_of, archive_changed_by, message_limit, step_within_limit}
use Rattle.archive_model.specs.declared.found.CommandFacts.{CommandFacts}
use Rattle.archive_tables.specs.Calls.{CommitsChange, FaultKeepsRows, LeavesRowsUnchanged}
use Rattle.archive_tables.specs.Crashes.{IsArchiveStored, CrashAddsNothing, CrashAddsOnly}
use Rattle.archive_tables.specs.declared.rows.DatedMarksRow.{DatedMarksRow}
use Rattle.archive_store.specs.Held.{store_connection}
use Rattle.archive_port.specs.Wanting.{IsMemoryRefusal}
use Rattle.archive_port.specs.Replies.{refusal_of_fault, reply_of_result}
use Rattle.archive_store.specs.Replies.{PerformsModelStep}
use Rattle.archive_store.specs.Crashes.{CrashSteps}
use Rattle.archive_store.specs.Refusals.{IsWriteRefused, IsCommandRefusedWithin}
use Rattle.archive_store.specs.Told.{StoreHasCleanDisk, HoldsTables, HasNoStepLimit, DiskHasFailed, IsOpen, StaysOpenUnlessDiskFails, CountsRefusals, E15MeansDiskFailed, EndsWrite, archive_in}
use Rattle.archive_store.specs.declared.store.Store.{Store}
use Rattle.archive_port.specs.declared.faults.StoreFault.{StoreFault}
use Rattle.archive_port.specs.declared.faults.StoreFault.TheVariants as faults
use Rattle.archive_store.specs.declared.deciding.Settled.{Settled}
use Rattle.archive_store.specs.declared.deciding.Settled.TheVariants.{Refused, Known}
use Rattle.archive_port.specs.declared.commands.Command.{Command}
use Rattle.archive_port.specs.Commands.{spec_command, possible_refusals_of, reply_unless_refused}

-- ---- what answers it at once

-- the answer of the first test that is so
abbrev pub first_passing_reply : List GuardedReply → Option CommandReply
first_passing_reply [] = None
first_passing_reply (test ∷ tests) = if test.0 then Some test.1 else first_passing_reply tests

abbrev pub reply_without_write : Settled → Option CommandReply
reply_without_write (Refused fault) = option_map refused (refusal_of_fault fault)
reply_without_write Known = Some already_known

-- ---- what it answers

-- it has nothing to say but that it is done
abbrev pub SaysDone : Told → Type 0
SaysDone command = (found : CommandFacts) → done ≡ reply_unless_refused command found

-- An archive in which this was found of a command, under some limit of messages that a list holds, and in which no test answers it.
abbrev pub PassesCommandTests : Told → CommandFacts → Archive → Type 0
PassesCommandTests command found a = (limit : ℕ) × (found ≡ command_facts_within_limit limit a command) × (first_passing_reply (guarded_replies_of command found) ≡ None)

-- what a call says that is told this
abbrev pub map_store_result : {A B : Type 0} → (A → B) → Result A StoreFault → Result B StoreFault
map_store_result f (Ok a) = Ok (f a)
map_store_result f (Err fault) = Err fault

-- a message, by its marks
abbrev pub facts_from_marks_row : Bool → Option DatedMarksRow → CommandFacts
facts_from_marks_row list None = record no_command_facts { list = list }
facts_from_marks_row list (Some marks) =
    record no_command_facts { list = list; message = true; withdrawn = not (int_eq marks.withdrawn (pos 0)); embargo = is_some marks.embargo }

module _ {S : Type 0} (g : Ghosts S) (old new : Store S) where
  -- Questions: this is so of the archive and of what is answered, the rows and what a stop leaves are as before, and no reason of the
  -- archive's refuses them; E15 is the disk.
  pub record ReadsArchive {A : Type 0} (result : Result A StoreFault) (Says : Archive → A → Type 0) : Type 0 where
    pub remains_open : StaysOpenUnlessDiskFails g old new
    pub was_open : StoreHasCleanDisk g new → OnOk result (IsOpen g old)
    pub crash_adds_nothing : CrashAddsNothing g (store_connection old) (store_connection new)
    pub fault_is_no_refusal : IfErr result (λ fault. refusal_of_fault fault ≡ None)
    pub refusals_counted : CountsRefusals IsMemoryRefusal old new result
    pub answer_holds : StoreHasCleanDisk g new → HoldsTables g old → MatchResult result
        (λ a. Says (archive_in g old) a × LeavesRowsUnchanged None (state g (store_connection old)) (state g (store_connection new)))
        (λ _. FaultKeepsRows (state g (store_connection old)) (state g (store_connection new)))
    pub fault_has_cause : E15MeansDiskFailed g old new result

  -- A write of an archive that is as it needs it: what it makes of the archive, at once or not at all; E15 is the disk, or the rows
  -- refuse it.
  pub record WritesToArchive {A : Type 0} (result : Result A StoreFault) (Needs : Archive → Type 0) (change : Archive → Archive) (Refused : Database → Type 0) : Type 0 where
    pub remains_open : StaysOpenUnlessDiskFails g old new
    pub was_open : StoreHasCleanDisk g new → OnOk result (IsOpen g old)
    pub fault_is_no_refusal : IfErr result (λ fault. refusal_of_fault fault ≡ None)
    pub refusals_counted : CountsRefusals IsMemoryRefusal old new result
    pub answer_holds : StoreHasCleanDisk g new → HoldsTables g old → Needs (archive_in g old) → MatchResult result
        (λ _. CommitsChange (state g (store_connection old)) (state g (store_connection new)) change) (λ _. FaultKeepsRows (state g (store_connection old)) (state g (store_connection new)))
    pub crash : HoldsTables g old → Needs (archive_in g old) → CrashAddsOnly g (store_connection old) (store_connection new) (IsArchiveStored (change (archive_in g old)))
    pub fault_has_cause : StoreHasCleanDisk g new → HoldsTables g old → HasNoStepLimit g old → Needs (archive_in g old)
        → IfErr result (λ fault. fault ≡ faults.Store → DiskHasFailed g old new ⊎ Refused (state g (store_connection old)).now)

  -- a command of which this was found, under some limit, and which no test answers, written down
  abbrev pub WritesFoundRows : {A : Type 0} → Told → CommandFacts → Result A StoreFault → Type 0
  WritesFoundRows command found result = WritesToArchive result (PassesCommandTests command found) (archive_changed_by command) (IsWriteRefused command)

  -- the same, whatever was found
  abbrev pub WritesRows : {A : Type 0} → Told → Result A StoreFault → Type 0
  WritesRows command result = (found : CommandFacts) → WritesFoundRows command found result

  abbrev pub WritesCommandRows : {A : Type 0} → Command → CommandFacts → Result A StoreFault → Type 0
  WritesCommandRows command = WritesFoundRows (spec_command command)

  -- A command under this limit of messages that a list holds: one step of the machine, a stop leaves the archive before it or after it,
  -- and how it ends.
  pub record ExecutesCommand {A : Type 0} (limit : ℕ) (command : Told) (says : Result A StoreFault → Option CommandReply) (result : Result A StoreFault) : Type 0 where
    pub performs_step : PerformsModelStep g (store_connection old) (store_connection new) (λ a. step_within_limit limit a command) (says result)
    pub crash : CrashSteps g (store_connection old) (store_connection new) (λ a. step_within_limit limit a command)
    pub ends_write : EndsWrite g old new result (possible_refusals_of command) (IsCommandRefusedWithin limit command)

  -- which hands on what was found
  abbrev pub ExecutesWithinListLimit : ℕ → Told → Result CommandFacts StoreFault → Type 0
  ExecutesWithinListLimit limit command result = ExecutesCommand limit command (reply_of_result (reply_unless_refused command)) result

  -- under the limit of the archive
  abbrev pub ExecutesAndReturnsFacts : Told → Result CommandFacts StoreFault → Type 0
  ExecutesAndReturnsFacts = ExecutesWithinListLimit message_limit
