-- The rules that a `Policy` holds.
use Rattle.std.specs.Prelude.{List, [], ◌∷◌}
use Rattle.policy_core.specs.declared.rules.Rules.{Rules}
use Rattle.policy_core.specs.declared.rules.Rules.TheVariants.{Open, Written}
use Rattle.policy_core.specs.Rules.{Rule, open_rule}

abbrev pub rules_of : Rules → List Rule
rules_of Open = open_rule ∷ []
rules_of (Written rules) = rules.items
