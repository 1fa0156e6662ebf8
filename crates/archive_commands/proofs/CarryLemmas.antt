-- The commands of the words, from those of the store.
use Rattle.std.proofs.Common.{◌≡◌, refl, sym, ap, ◌∙◌, subst, Bool, true, false, List, [], ◌∷◌, cond, Option, Some, None, Result, Ok, Err}
use Rattle.std.specs.Prelude.{⊤, option_map, if◌then◌else◌}
use Rattle.archive_port.specs.declared.state.ArchiveState.{Ghosts}
use Rattle.archive_model.specs.Records.{Archive}
use Rattle.archive_model.specs.Commands as machine
use Rattle.archive_model.specs.Commands.{CommandReply, refused, no_message}
use Rattle.archive_model.specs.Machine.{StepOutcome, GuardedReply, command_facts_of, guarded_replies_of, archive_changed_by, reply_if_carried_out, outcome_unless_guarded, step, refuse}
use Rattle.archive_model.specs.declared.found.CommandFacts.{CommandFacts}
use Rattle.archive_port.specs.Commands.{reply_unless_refused}
use Rattle.archive_port.specs.Commands.{ExecutesCommand}
use Rattle.archive_model.specs.Sound.{IsIndexedCorrectly}
use Rattle.archive_port.specs.Crashes.{CrashSteps}
use Rattle.archive_port.specs.Told.{StaysOpenUnlessDiskFails, PerformsModelStep}
use Rattle.archive_port.specs.Replies.{refusal_of_fault}
use Rattle.archive_port.specs.declared.faults.StoreFault.{StoreFault}
use Rattle.archive_port.proofs.Joins.{stepped as store_stepped, step_failed, goes_as, calls_refused, calls_failed}
use Rattle.archive_port.proofs.RightLemmas.{step_right}
use Rattle.archive_args.specs.Values.{StoreCommand}
use Rattle.archive_commands.specs.Commands.{answer_to, has_valid_key, command_outcome, model_command}
use Rattle.archive_commands.specs.Working.{CarriesOutCommand}
use Rattle.archive_commands.specs.declared.commands.Answer.{Answer}

-- ---- a refusal leaves the archive

abbrev IsNoRefusal : CommandReply → Type 0
IsNoRefusal (refused why) = ⊥
IsNoRefusal _ = ⊤

-- a command that no test answers is carried out
is_carried : (command : machine.Command) (found : CommandFacts) → IsNoRefusal (reply_if_carried_out command found)
is_carried (machine.revoke person list rank) found = tt
is_carried command found = tt

abbrev Stays : Archive → StepOutcome → Type 0
Stays a outcome = (why : machine.Refusal) → outcome.1 ≡ refused why → outcome.0 ≡ a

unless_stays : (a : Archive) (tests : List GuardedReply) (made : StepOutcome) → IsNoRefusal made.1 → Stays a (outcome_unless_guarded a tests made)
unless_stays a [] made carried why e = absurd (subst IsNoRefusal e carried)
unless_stays a (test ∷ tests) made carried why e = by_test test.0 (unless_stays a tests made carried) why e
  where
    by_test : (t : Bool) → Stays a (outcome_unless_guarded a tests made) → Stays a (if t then (a, test.1) else outcome_unless_guarded a tests made)
    by_test true rest why e = refl
    by_test false rest why e = rest why e

stays_told : (a : Archive) (command : machine.Command) → Stays a (step a command)
stays_told a command =
    unless_stays a (guarded_replies_of command (command_facts_of a command)) (archive_changed_by command a, reply_if_carried_out command (command_facts_of a command))
    (is_carried command (command_facts_of a command))

refusal_stays : (a : Archive) (command : StoreCommand) → Stays a (command_outcome a command)
refusal_stays a command = by_test (has_valid_key command)
  where
    by_test : (t : Bool) → Stays a (if t then step a (model_command command) else refuse a no_message)
    by_test true why e = stays_told a (model_command command) why e
    by_test false why e = refl

-- ---- what is filed stays right

stepped_right : (command : StoreCommand) (a : Archive) → IsIndexedCorrectly a → IsIndexedCorrectly (command_outcome a command).0
stepped_right command a right = by_test (has_valid_key command)
  where
    by_test : (t : Bool) → IsIndexedCorrectly (cond t (step a (model_command command)) (refuse a no_message)).0
    by_test true = step_right (model_command command) a right
    by_test false = right

-- ---- a step of the store

module _ {S W : Type 0} (g : Ghosts S W) (old new : S) (command : StoreCommand) (is : has_valid_key command ≡ true) (lasts : StaysOpenUnlessDiskFails g old new) where
  abbrev DoesReply : Option CommandReply → Type 0
  DoesReply reply = PerformsModelStep g old new (λ a. command_outcome a command) reply

  -- the store carried it out
  abbrev Done : Result CommandFacts StoreFault → Type 0
  Done result = ExecutesCommand g old new (model_command command) result

  -- the step is the machine's
  abbrev DoesTold : Option CommandReply → Type 0
  DoesTold reply = PerformsModelStep g old new (λ a. step a (model_command command)) reply

  does_told : (reply : Option CommandReply) → DoesTold reply → DoesReply reply
  does_told None does = does
  does_told (Some reply) does =
      λ returned kept.
      let it = does returned kept in
      let a = g.archive old in
      (it.0, it.1 ∙ ap (λ t. cond t (step a (model_command command)) (refuse a no_message)) (sym is))

  -- it is refused, or memory or the database was at fault
  carries_not : (fault : StoreFault) (r : Option machine.Refusal) → refusal_of_fault fault ≡ r → DoesReply (option_map refused r) → CarriesOutCommand g old new command (Err fault)
  carries_not fault None is does =
      calls_failed g old new refusal_of_fault fault (λ a b answer. (b ≡ (command_outcome a command).0) × (answer_to command (command_outcome a command).1 ≡ Some answer))
      (λ a b why. (b ≡ a) × ((command_outcome a command).1 ≡ refused why)) (λ a b _. b ≡ a) is (step_failed g old new lasts (λ a. command_outcome a command) None refl does)
  carries_not fault (Some why) is does =
      calls_refused g old new refusal_of_fault fault (λ a b answer. (b ≡ (command_outcome a command).0) × (answer_to command (command_outcome a command).1 ≡ Some answer))
      (λ a b r. (b ≡ a) × ((command_outcome a command).1 ≡ refused r)) (λ a b _. b ≡ a) why is
      (goes_as g old new (λ a b. (b, refused why) ≡ command_outcome a command) (λ a b. (b ≡ a) × ((command_outcome a command).1 ≡ refused why))
      (λ a b h.
      let says = sym (ap (λ (o : StepOutcome). o.1) h) in
      (ap (λ (o : StepOutcome). o.0) h ∙ refusal_stays a command why says, says))
      (store_stepped g old new lasts (λ a. command_outcome a command) (Some (refused why)) (refused why) (stepped_right command) refl does))

  carries_answer : (answer : Answer) (reply : CommandReply) → answer_to command reply ≡ Some answer → DoesReply (Some reply) → CarriesOutCommand g old new command (Ok answer)
  carries_answer answer reply named does =
      goes_as g old new (λ a b. (b, reply) ≡ command_outcome a command) (λ a b. (b ≡ (command_outcome a command).0) × (answer_to command (command_outcome a command).1 ≡ Some answer))
      (λ a b h. (ap (λ (o : StepOutcome). o.0) h, ap (answer_to command) (sym (ap (λ (o : StepOutcome). o.1) h)) ∙ named))
      (store_stepped g old new lasts (λ a. command_outcome a command) (Some reply) reply (stepped_right command) refl does)

  pub carries_fault : (fault : StoreFault) → Done (Err fault) → CarriesOutCommand g old new command (Err fault)
  carries_fault fault did = carries_not fault (refusal_of_fault fault) refl (does_told (option_map refused (refusal_of_fault fault)) did.performs_step)

  pub carries_found : (found : CommandFacts) (answer : Answer) → answer_to command (reply_unless_refused (model_command command) found) ≡ Some answer → Done (Ok found)
      → CarriesOutCommand g old new command (Ok answer)
  carries_found found answer named did = carries_answer answer (reply_unless_refused (model_command command) found) named
      (does_told (Some (reply_unless_refused (model_command command) found)) did.performs_step)

  -- what a crash leaves of it
  pub crash_carries : CrashSteps g old new (λ a. step a (model_command command))
      → CrashSteps g old new (λ a. command_outcome a command)
  crash_carries crash =
      subst (λ t. CrashSteps g old new (λ a. cond t (step a (model_command command)) (refuse a no_message))) (sym is) crash
