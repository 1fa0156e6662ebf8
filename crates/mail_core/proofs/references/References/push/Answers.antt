use Rattle.std.proofs.Common.{◌∙◌}
use Rattle.mail_core.proofs.PlaceLemmas.{same_there, within_more, within_push, ids_push, on_err}
use Rattle.mail_core.proofs.references.References.push.Goals as goal

pub returns-in_err-place-clause-err : goal.returns-in_err-place-clause-err
returns-in_err-place-clause-err c =
    on_err c.from_residual.result _ (same_there c.self.inside.bytes.items c.push_sides.new.bytes.items c.self.inside.places.items c.in_err-place.ensures.kept c.self.invariant ∙ c.self.view_is)

pub invariant_of-self-in_err-push : goal.invariant_of-self-in_err-push
invariant_of-self-in_err-push c =
    rw c.in_err-push.ensures.items (within_more c.self.inside.bytes.items c.push_sides.new.bytes.items c.self.inside.places.items c.in_ok-place.ensures.kept c.self.invariant)

pub returns-in_err-push-clause-err : goal.returns-in_err-push-clause-err
returns-in_err-push-clause-err c =
    on_err c.from_residual-in_err-push.result _
    (rw c.in_err-push.ensures.items (same_there c.self.inside.bytes.items c.push_sides.new.bytes.items c.self.inside.places.items c.in_ok-place.ensures.kept c.self.invariant ∙ c.self.view_is))

pub invariant_of-self-2 : goal.invariant_of-self-2
invariant_of-self-2 c =
    within_push c.self.inside.bytes.items c.push_sides.new.bytes.items c.self.inside.places.items c.push.new.self.items c.in_ok-place.place c.in_ok-place.ensures.kept c.self.invariant
    c.in_ok-place.ensures.place.0 c.in_ok-push.ensures.items

pub returns-clause-ok : goal.returns-clause-ok
returns-clause-ok c =
    ids_push c.self.inside.bytes.items c.push_sides.new.bytes.items c.self.inside.places.items c.push.new.self.items c.in_ok-place.place c.args.self.now c.args.id.now c.in_ok-place.ensures.kept
    c.self.invariant (c.in_ok-place.ensures.place.1 ∙ (λ i. record { left = c.left.ensures i; right = c.right.ensures i })) c.in_ok-push.ensures.items c.self.view_is
