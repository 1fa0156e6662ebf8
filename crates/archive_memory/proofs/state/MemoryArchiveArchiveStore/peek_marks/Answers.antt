use Rattle.std.proofs.Common.{◌≡◌, ◌∙◌, ap, sym, subst, refl, arith, map, Some, None}
use Rattle.std.specs.Prelude.{option_copied, option_map, slice_get}
use Rattle.std.proofs.lemmas.Option.{slice_get_within}
use Rattle.archive_model.specs.Messages.{withdrawal_number}
use Rattle.archive_port.specs.Messages.{AreDatedMarksOf}
use Rattle.archive_memory.specs.Entries.{message_in}
use Rattle.archive_memory.specs.State.{archive_in_memory, message_at_place}
use Rattle.archive_memory.proofs.WalkLemmas.{all_given, next_given}
use Rattle.archive_memory.proofs.state.MemoryArchiveArchiveStore.peek_marks.Goals as goal

pub returns-in_default-clause-shown : goal.returns-in_default-clause-shown
returns-in_default-clause-shown c = record {
  gives_next_marks = λ clean list all a given w. (w, all_given list all a given c.args.self.now c.args.walk.now w (sym c.next_place.ensures ∙ c.in_default.is));
  remaining_is_same = refl;
  some_means_remaining = tt;
  fault_is_no_refusal = tt;
}

pub returns-in-Some-message_at-clause-shown : goal.returns-in-Some-message_at-clause-shown
returns-in-Some-message_at-clause-shown c =
    let found = sym c.next_place.ensures ∙ c.in-Some.is in
    let within = slice_get_within c.args.walk.now.places.items c.args.walk.now.at c.in-Some.dated found in
    record {
      gives_next_marks = λ clean list all a given w.
          let next = next_given list all a given c.args.self.now c.args.walk.now c.in-Some.dated w found in
          let entry = c.in-Some-message_at.entry.now in
          let shown : Some (message_in entry) ≡ Some next.0 =
          ap (λ r. option_map message_in (option_copied r)) (sym c.in-Some-message_at.is) ∙ c.message_at.ensures
          ∙ ap (λ es. slice_get (map message_in es) c.in-Some.dated.place) c.deref.ensures.value ∙ next.3 in
          let same : message_in entry ≡ next.0 = cc in
          let marks : AreDatedMarksOf c.marks_of.result (message_in entry) = record {
            arrival_is = c.marks_of.ensures.arrival;
            withdrawal_is = ap withdrawal_number c.marks_of.ensures.withdrawn;
            embargo_is = c.marks_of.ensures.embargo;
          } in
          (w, (next.0, next.1, next.2, subst (AreDatedMarksOf c.marks_of.result) same marks));
      remaining_is_same = refl;
      some_means_remaining = omega (arith, within);
      fault_is_no_refusal = tt;
    }

pub returns-in-None-clause-caused : goal.returns-in-None-clause-caused
returns-in-None-clause-caused c = λ clean list all a given w free it.
    let next = next_given list all a given c.args.self.now c.args.walk.now c.in-Some.dated w (sym c.next_place.ensures ∙ c.in-Some.is) in
    let none : None ≡ message_at_place (archive_in_memory c.args.self.now) c.in-Some.dated =
    ap (λ r. option_map message_in (option_copied r)) (sym c.in-None.is) ∙ c.message_at.ensures
    ∙ ap (λ es. slice_get (map message_in es) c.in-Some.dated.place) c.deref.ensures.value in
    absurd (let bad = none ∙ next.3 in cc)
