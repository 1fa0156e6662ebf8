-- What answers a command, and what it makes of a sound archive.
use Rattle.std.proofs.Common.{◌≡◌, inl, inr, Bool, true, false, List, [], ◌∷◌, Option, Some, None, refl, ap, sym, subst, if◌then◌else◌}
use Rattle.std.specs.Prelude.{⊤, option_map}
use Rattle.std.specs.List.{All}
use Rattle.std.proofs.lemmas.Bool.{cases_Bool}
use Rattle.mbox_items.specs.Division.{whole}
use Rattle.mbox_items.proofs.ItemLemmas.{is_whole-whole, whole_none}
use Rattle.archive_model.specs.Commands.{Command, CommandReply, Refusal, list_add, refused}
use Rattle.archive_model.specs.Machine.{GuardedReply, StepOutcome, guarded_replies_of, outcome_unless_guarded, step}
use Rattle.archive_model.specs.Records.{Archive}
use Rattle.archive_model.specs.declared.found.CommandFacts.{CommandFacts}
use Rattle.archive_model.specs.Runs.{run}
use Rattle.archive_model.specs.Sound.{AddsWritableItem, HasSoundMessages, HasUniqueNames, IsIndexedCorrectly}
use Rattle.archive_model.proofs.FilingLemmas.{files_right}
use Rattle.archive_model.proofs.NameLemmas.{names}
use Rattle.archive_model.proofs.RunLemmas.{kept_by_runs, kept_by_steps}
use Rattle.archive_model.proofs.SoundLemmas.{WholeLaws, soundness}
use Rattle.archive_port.specs.Commands.{possible_refusals_of, prepend_if_refusal, refusals_among}
use Rattle.archive_port.specs.Replies.{IsOneOf, refusal_of_fault}
use Rattle.archive_port.specs.declared.faults.StoreFault.{StoreFault}
use Rattle.archive_memory.specs.Deciding.{first_passing_reply}
use Rattle.archive_memory.specs.State.{IsSoundArchive}

-- ---- what answers it at once

some_is : {A : Type 0} {x y : A} → Some x ≡ Some y → x ≡ y
some_is e = cc

-- the answer of a test that is so, and the archive as it was
pub answered : (a : Archive) (tests : List GuardedReply) (made : StepOutcome) (reply : CommandReply) → first_passing_reply tests ≡ Some reply → outcome_unless_guarded a tests made ≡ (a, reply)
answered a [] made reply is = absurd cc
answered a (test ∷ tests) made reply is = elim (cases_Bool test.0) [
  | inl so ↦ let same = rw so at is in rw so (ap (λ r. (a, r)) (some_is same))
  | inr not_so ↦ let later = rw not_so at is in rw not_so (answered a tests made reply later)
]

-- no test is so
pub unanswered : (a : Archive) (tests : List GuardedReply) (made : StepOutcome) → first_passing_reply tests ≡ None → outcome_unless_guarded a tests made ≡ made
unanswered a [] made is = refl
unanswered a (test ∷ tests) made is = elim (cases_Bool test.0) [
  | inl so ↦ absurd (let bad = rw so at is in cc)
  | inr not_so ↦ let later = rw not_so at is in rw not_so (unanswered a tests made later)
]

among : (why : Refusal) (reply : CommandReply) (reasons : List Refusal) → IsOneOf why reasons → IsOneOf why (prepend_if_refusal reply reasons)
among why (refused other) reasons it = inr it
among why _ reasons it = it

one_behind : (b : Bool) (reply : CommandReply) (why : Refusal) (other : Option CommandReply) (reasons : List Refusal) → (if b then Some reply else other) ≡ Some (refused why)
    → (other ≡ Some (refused why) → IsOneOf why reasons) → IsOneOf why (prepend_if_refusal reply reasons)
one_behind true reply why other reasons is later =
    let same : reply ≡ refused why = cc in subst (λ r. IsOneOf why (prepend_if_refusal r reasons)) (sym same) (inl refl)
one_behind false reply why other reasons is later = among why reply reasons (later is)

first_is_one : (tests : List GuardedReply) (why : Refusal) → first_passing_reply tests ≡ Some (refused why) → IsOneOf why (refusals_among tests)
first_is_one [] why is = absurd cc
first_is_one (test ∷ tests) why is = one_behind test.0 test.1 why (first_passing_reply tests) (refusals_among tests) is (first_is_one tests why)

same_reasons : (command : Command) (found : CommandFacts) → refusals_among (guarded_replies_of command found) ≡ possible_refusals_of command
same_reasons (list_add name) found = refl
same_reasons command found = refl

-- one of the reasons of the command
pub is_reason : (command : Command) (found : CommandFacts) (why : Refusal) → first_passing_reply (guarded_replies_of command found) ≡ Some (refused why) → IsOneOf why (possible_refusals_of command)
is_reason command found why is = subst (IsOneOf why) (same_reasons command found) (first_is_one (guarded_replies_of command found) why is)

-- the reason that a fault tells
pub reason_told : (fault : StoreFault) (o : Option CommandReply) → Some (option_map refused (refusal_of_fault fault)) ≡ option_map Some o → (why : Refusal) × (refusal_of_fault fault ≡ Some why)
    × (o ≡ Some (refused why))
reason_told fault o is = go (refusal_of_fault fault) o refl is
  where
    go : (r : Option Refusal) (o : Option CommandReply) → refusal_of_fault fault ≡ r → Some (option_map refused r) ≡ option_map Some o → (why : Refusal) × (refusal_of_fault fault ≡ Some why)
        × (o ≡ Some (refused why))
    go None None e is = absurd cc
    go None (Some reply) e is = absurd cc
    go (Some why) None e is = absurd cc
    go (Some why) (Some reply) e is = (let same : reply ≡ refused why = cc in (why, e, ap Some same))

-- ---- what it makes

whole_laws : WholeLaws
whole_laws = record { whole = is_whole-whole; items = λ item is. record { is_envelope = is.is_envelope; no_line_separates = whole_none (whole item.text) is.no_line_separates } }

-- each command keeps an archive sound
pub step_sound : (a : Archive) (command : Command) → AddsWritableItem command → IsSoundArchive a → IsSoundArchive (step a command).0
step_sound a command writable sound = record {
  names = kept_by_steps HasUniqueNames (λ _. ⊤) names a command tt sound.names;
  messages = kept_by_steps HasSoundMessages AddsWritableItem (soundness whole_laws) a command writable sound.messages;
  columns = kept_by_steps IsIndexedCorrectly (λ _. ⊤) files_right a command tt sound.columns;
}

pub run_sound : (a : Archive) (commands : List Command) → All AddsWritableItem commands → IsSoundArchive a → IsSoundArchive (run a commands).archive
run_sound a commands writable sound = record {
  names = kept_by_runs HasUniqueNames (λ _. ⊤) names a commands (λ k d within. tt) sound.names;
  messages = kept_by_runs HasSoundMessages AddsWritableItem (soundness whole_laws) a commands writable sound.messages;
  columns = kept_by_runs IsIndexedCorrectly (λ _. ⊤) files_right a commands (λ k d within. tt) sound.columns;
}
