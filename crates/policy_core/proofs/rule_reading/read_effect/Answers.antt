use Rattle.std.proofs.lemmas.Result.{err_from_is_err_and}
use Rattle.std.proofs.Common.{refl, ap, sym, Some}
use Rattle.policy_core.specs.Written.{effect_refusal}
use Rattle.policy_core.proofs.rule_reading.read_effect.Goals as goal

pub returns-in_default : goal.returns-in_default
unfolding effect_refusal
returns-in_default c = rw (← c.in_default.ensures) refl

pub returns-in_err-read_text : goal.returns-in_err-read_text
unfolding effect_refusal
returns-in_err-read_text c =
    let no_text = c.in_err-read_text.ensures.refused in
    let p = err_from_is_err_and c.from_residual.result c.from_residual.ensures.1 in
    rw (p.1, p.2, ← c.in-Some.ensures, no_text.1) (ap Some (sym no_text.0))

pub returns-in-Some-effect_named : goal.returns-in-Some-effect_named
unfolding effect_refusal
returns-in-Some-effect_named c = rw (← c.in-Some.ensures, c.in_ok-read_text.ensures.ok, ← c.in-Some-effect_named.ensures) (refl, refl)

pub returns-in-None : goal.returns-in-None
unfolding effect_refusal
returns-in-None c = rw (← c.in-Some.ensures, c.in_ok-read_text.ensures.ok, ← c.in-None.ensures) refl
