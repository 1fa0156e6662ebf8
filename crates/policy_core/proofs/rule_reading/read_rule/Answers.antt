use Rattle.std.proofs.Common.{refl, sym, ap, map, ◌∙◌}
use Rattle.std.proofs.lemmas.Result.{err_from_is_err_and}
use Rattle.policy_core.specs.Stated.{stated_condition}
use Rattle.policy_core.specs.Written.{has_no_day, rule_refusal, rule_of}
use Rattle.policy_core.proofs.TreeLemmas.{rule_rest}
use Rattle.policy_core.proofs.rule_reading.read_rule.Goals as goal

pub returns-then-not-has_rule_keys : goal.returns-then-not-has_rule_keys
unfolding rule_refusal
returns-then-not-has_rule_keys c = λ _. rw (← c.if-not-has_rule_keys.ensures) refl

pub returns-in_err-name : goal.returns-in_err-name
unfolding rule_refusal
returns-in_err-name c =
    let p = err_from_is_err_and c.from_residual.result c.from_residual.ensures.1 in
    rw (p.1, p.2) (λ memory. rw (← c.if-not-has_rule_keys.ensures, c.in_err-name.ensures memory) refl)

pub returns-in_err-allows : goal.returns-in_err-allows
unfolding rule_refusal
returns-in_err-allows c =
    let p = err_from_is_err_and c.from_residual-in_err-allows.result c.from_residual-in_err-allows.ensures.1 in
    rw (p.1, p.2) (λ memory. rw (← c.if-not-has_rule_keys.ensures, c.in_ok-name.ensures.0, c.in_err-allows.ensures) refl)

pub returns-in_err-conditions : goal.returns-in_err-conditions
unfolding rule_refusal
returns-in_err-conditions c =
    let p = err_from_is_err_and c.from_residual-in_err-conditions.result c.from_residual-in_err-conditions.ensures.1 in
    rw (p.1, p.2) (λ memory. rw (← c.if-not-has_rule_keys.ensures, c.in_ok-name.ensures.0, c.in_ok-allows.ensures.0, c.in_err-conditions.ensures memory) refl)

pub returns-then-has_no_day : goal.returns-then-has_no_day
returns-then-has_no_day c = λ _.
    rule_rest c.args.number _ _ _ _ (sym c.if-not-has_rule_keys.ensures) c.in_ok-name.ensures.0 c.in_ok-allows.ensures.0 c.in_ok-conditions.ensures
    (c.if-has_no_day.ensures ∙ ap (λ conditions. has_no_day (map stated_condition conditions)) c.deref.ensures.value)

pub returns : goal.returns
unfolding rule_of
returns c = (
  rule_rest c.args.number _ _ _ _ (sym c.if-not-has_rule_keys.ensures) c.in_ok-name.ensures.0 c.in_ok-allows.ensures.0 c.in_ok-conditions.ensures
      (c.if-has_no_day.ensures ∙ ap (λ conditions. has_no_day (map stated_condition conditions)) c.deref.ensures.value),
  rw (c.in_ok-name.ensures.1, c.in_ok-allows.ensures.1, c.in_ok-conditions.ensures.1) refl,
)
