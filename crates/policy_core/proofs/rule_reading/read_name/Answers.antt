use Rattle.std.proofs.Common.{refl, ap, sym, Some, ◌∙◌}
use Rattle.std.proofs.lemmas.Result.{err_from_is_err_and}
use Rattle.policy_core.specs.Written.{name_refusal}
use Rattle.policy_core.proofs.TreeLemmas.{named}
use Rattle.policy_core.proofs.rule_reading.read_name.Goals as goal
use Rattle.policy_core.proofs.rule_reading.read_name.Goals.{then-eq-via-then-eq, then-eq-via-else-eq+then-is_among}

pub returns-in_default : goal.returns-in_default
unfolding name_refusal
returns-in_default c = λ _. rw (← c.in_default.ensures) refl

pub returns-in_err-name : goal.returns-in_err-name
unfolding name_refusal
returns-in_err-name c =
    let no_text = c.in_err-name.ensures.refused in
    let p = err_from_is_err_and c.from_residual.result c.from_residual.ensures.1 in
    rw (p.1, p.2) (λ _. rw (← c.in-Some.ensures, no_text.1) (ap Some (sym no_text.0)))

pub returns-then-not-is_name : goal.returns-then-not-is_name
returns-then-not-is_name c = λ _.
    rw (named c.args.number _ _ _ c.in_ok-name.name.now (sym c.in-Some.ensures) c.in_ok-name.ensures.ok, ← c.if-not-is_name.ensures) refl

pub returns-then-eq : goal.returns-then-eq
returns-then-eq c = λ _.
    rw (named c.args.number _ _ _ c.in_ok-name.name.now (sym c.in-Some.ensures) c.in_ok-name.ensures.ok, ← c.if-not-is_name.ensures)
    (elim c.then-eq.branch [ then-eq-via-then-eq w ↦ rw (← w.if-eq.ensures) refl | then-eq-via-else-eq+then-is_among w ↦ rw (← w.if-eq.ensures, ← w.if-is_among.ensures) refl ])

pub returns : goal.returns
returns c = (
  rw (named c.args.number _ _ _ c.in_ok-name.name.now (sym c.in-Some.ensures) c.in_ok-name.ensures.ok, ← c.if-not-is_name.ensures)
      (rw (← c.if-eq.ensures, ← c.if-is_among.ensures) refl),
  c.in_ok-from_str.ensures.ok ∙ (rw (← c.in-Some.ensures, c.in_ok-name.ensures.ok) refl),
)
