use Rattle.std.proofs.Common.{refl, ap, sym, Some}
use Rattle.std.proofs.lemmas.Result.{err_from_is_err_and}
use Rattle.policy_core.specs.Written.{value_refusal}
use Rattle.policy_core.proofs.rule_reading.read_day.Goals as goal

pub returns-in_err-read_text : goal.returns-in_err-read_text
unfolding value_refusal
returns-in_err-read_text c =
    let no_text = c.in_err-read_text.ensures.refused in
    let p = err_from_is_err_and c.from_residual.result c.from_residual.ensures.1 in
    rw (p.1, p.2, no_text.1) (ap Some (sym no_text.0))

pub returns-in-Some : goal.returns-in-Some
unfolding value_refusal
returns-in-Some c = rw (c.in_ok-read_text.ensures.ok, ← c.as_bytes.ensures.value, ← c.in-Some.ensures) (refl, refl)

pub returns-in-None : goal.returns-in-None
unfolding value_refusal
returns-in-None c = rw (c.in_ok-read_text.ensures.ok, ← c.as_bytes.ensures.value, ← c.in-None.ensures) refl
