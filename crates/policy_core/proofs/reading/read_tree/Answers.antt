use Rattle.std.proofs.Common.{refl, sym}
use Rattle.std.proofs.lemmas.Result.{err_from_is_err_and}
use Rattle.policy_core.specs.Written.{tree_refusal}
use Rattle.policy_core.proofs.TreeLemmas.{tree_rules, too_many}
use Rattle.policy_core.proofs.reading.read_tree.Goals as goal

pub returns-then-not-has_only_rule : goal.returns-then-not-has_only_rule
unfolding tree_refusal
returns-then-not-has_only_rule c = λ _. rw (← c.if-not-has_only_rule.ensures) refl

pub returns-in_err-values : goal.returns-in_err-values
unfolding tree_refusal
returns-in_err-values c =
    let p = err_from_is_err_and c.from_residual.result c.from_residual.ensures.1 in
    rw (p.1, p.2) (λ _. rw (← c.if-not-has_only_rule.ensures, c.in_err-values.ensures) refl)

pub returns-then-values-gt-MOST_RULES : goal.returns-then-values-gt-MOST_RULES
returns-then-values-gt-MOST_RULES c = λ _.
    too_many _ c.in_ok-values.values.now (sym c.if-not-has_only_rule.ensures) c.in_ok-values.ensures.0 c.in_ok-values.ensures.1 c.if-values-gt-MOST_RULES.true

pub returns : goal.returns
returns c =
    rw (tree_rules _ c.in_ok-values.values.now (sym c.if-not-has_only_rule.ensures) c.in_ok-values.ensures.0 c.in_ok-values.ensures.1 c.if-values-gt-MOST_RULES.false, ← c.in_ok-values.ensures.1)
    c.read_rules.ensures
