use Rattle.std.proofs.Common.{◌≡◌, ◌∙◌, ap, sym, refl, arith, Some, None, w64}
use Rattle.std.specs.Prelude.{slice_get}
use Rattle.std.proofs.lemmas.Int.{to_z-of_z}
use Rattle.std.proofs.lemmas.Option.{slice_get_within}
use Rattle.archive_tables.specs.Rows.{message_at}
use Rattle.archive_tables.proofs.RunLemmas.{on_fault}
use Rattle.archive_store.specs.Walking.{walk_over_store, current_rows}
use Rattle.archive_store.proofs.FindLemmas.{passed_on}
use Rattle.archive_store.proofs.WalkingLemmas.{all_given, past_end, peeked_next, shown_next, unread_next, without_row}
use Rattle.archive_store.proofs.walking.MessageWalk.take_row.Goals as goal

pub returns-in_default-clause-given : goal.returns-in_default-clause-given
returns-in_default-clause-given g c = λ returned list all a given w.
    let walk = c.args.self.now in
    let none : slice_get walk.places.items walk.at ≡ None = ap (λ l. slice_get l walk.at) (sym c.deref.ensures.value) ∙ sym c.place_at.ensures ∙ c.in_default.is in (
      without_row g.S.Store list all a given (walk_over_store c.args.store.now walk) c.args.store.now w refl w.is_archive_at_rest c.take-peeked.ensures.after,
      all_given (message_at (current_rows g.S.Store c.args.store.now)) walk.places.items walk.at given w.remaining all w.numbers_give_remaining w.given_and_remaining
          (past_end walk.places.items walk.at none),
    )

pub returns-in_default-clause-left : goal.returns-in_default-clause-left
returns-in_default-clause-left g c =
    let walk = c.args.self.now in
    let none : slice_get walk.places.items walk.at ≡ None = ap (λ l. slice_get l walk.at) (sym c.deref.ensures.value) ∙ sym c.place_at.ensures ∙ c.in_default.is in
    let past = past_end walk.places.items walk.at none in
    (ap (λ o. record walk { peeked = o }) c.take-peeked.ensures.after, omega (arith, past))

pub returns-in-Some-peeked-clause-given : goal.returns-in-Some-peeked-clause-given
returns-in-Some-peeked-clause-given g c = λ returned list all a given w.
    let walk = c.args.self.now in (
      without_row g.S.Store list all a given (walk_over_store c.args.store.now walk) c.args.store.now w refl w.is_archive_at_rest c.take-peeked.ensures.after,
      peeked_next g.S.Store list all a given (walk_over_store c.args.store.now walk) c.in-Some-peeked.row w (sym c.take-peeked.ensures.value ∙ c.in-Some-peeked.is),
    )

pub returns-in-Some-peeked-clause-left : goal.returns-in-Some-peeked-clause-left
returns-in-Some-peeked-clause-left g c =
    let walk = c.args.self.now in
    let some : slice_get walk.places.items walk.at ≡ Some c.in-Some.place = ap (λ l. slice_get l walk.at) (sym c.deref.ensures.value) ∙ sym c.place_at.ensures ∙ c.in-Some.is in
    let within = slice_get_within walk.places.items walk.at c.in-Some.place some in
    (ap (λ o. record walk { peeked = o }) c.take-peeked.ensures.after, omega (arith, within))

pub returns-in_ok-row_at-in-None-clause-left : goal.returns-in_ok-row_at-in-None-clause-left
returns-in_ok-row_at-in-None-clause-left g c =
    let walk = c.args.self.now in
    let some : slice_get walk.places.items walk.at ≡ Some c.in-Some.place = ap (λ l. slice_get l walk.at) (sym c.deref.ensures.value) ∙ sym c.place_at.ensures ∙ c.in-Some.is in
    let within = slice_get_within walk.places.items walk.at c.in-Some.place some in
    (ap (λ o. record walk { peeked = o }) c.take-peeked.ensures.after, omega (arith, within))

pub returns-in_ok-row_at-in-None-clause-given : goal.returns-in_ok-row_at-in-None-clause-given
returns-in_ok-row_at-in-None-clause-given g c = λ returned list all a given w.
    let walk = c.args.self.now in
    let place = c.in-Some.place in
    let fits = rw c.in-Some.is at c.place_at.type_inv in
    let itself = to_z-of_z w64 place (record { sfits = assumption fits }) in
    let some : slice_get walk.places.items walk.at ≡ Some place = ap (λ l. slice_get l walk.at) (sym c.deref.ensures.value) ∙ sym c.place_at.ensures ∙ c.in-Some.is in
    let shown = rw itself at (c.in_ok-row_at-in-None.ensures.shown returned w.is_archive_at_rest) in (
      without_row g.S.Store list all a given (walk_over_store c.args.store.now walk) c.row_at.new.store w shown.1 shown.2 c.take-peeked.ensures.after,
      shown_next g.S.Store list all a given (walk_over_store c.args.store.now walk) place c.in_ok-row_at-in-None.field-0 w some shown.0,
    )

pub returns-in_err-row_at-in-None-clause-given : goal.returns-in_err-row_at-in-None-clause-given
returns-in_err-row_at-in-None-clause-given g c = λ returned list all a given w.
    let walk = c.args.self.now in
    on_fault _ _ c.from_residual.result c.from_residual.ensures.1 (λ up.
    let rests = c.in_err-row_at-in-None.ensures.shown returned w.is_archive_at_rest up in
    without_row g.S.Store list all a given (walk_over_store c.args.store.now walk) c.row_at.new.store w rests.0 rests.1 c.take-peeked.ensures.after)

pub returns-in_err-row_at-in-None-clause-caused : goal.returns-in_err-row_at-in-None-clause-caused
returns-in_err-row_at-in-None-clause-caused g c = λ returned list all a given w free.
    let walk = c.args.self.now in
    let place = c.in-Some.place in
    let fits = rw c.in-Some.is at c.place_at.type_inv in
    let itself = to_z-of_z w64 place (record { sfits = assumption fits }) in
    let some : slice_get walk.places.items walk.at ≡ Some place = ap (λ l. slice_get l walk.at) (sym c.deref.ensures.value) ∙ sym c.place_at.ensures ∙ c.in-Some.is in
    passed_on c.from_residual.result c.in_err-row_at-in-None.field-0.0 _ c.from_residual.ensures.1
    (λ it. unread_next g.S.Store list all a given (walk_over_store c.args.store.now walk) place w some _
    (rw itself at (c.in_err-row_at-in-None.ensures.caused returned w.is_archive_at_rest free it)))
