-- What computes a policy of a tree.
use Rattle.std.specs.Prelude.{⊤}
use Rattle.policy_core.specs.Written.{name_refusal, effect_refusal, value_refusal, conditions_refusal, conditions_of, rule_refusal, rule_of, rules_refusal, tree_refusal}

unfoldable pub on_trees : ⊤
unfolding name_refusal effect_refusal value_refusal conditions_refusal conditions_of rule_refusal rule_of rules_refusal tree_refusal
on_trees = tt
