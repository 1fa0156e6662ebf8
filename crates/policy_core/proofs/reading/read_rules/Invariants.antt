use Rattle.std.proofs.Common.{◌≡◌, ◌++◌, suc, [], map, drop, length}
use Rattle.policy_core.specs.Reading.{tables_of_values, rule_names}
use Rattle.policy_core.specs.Written.{rules_refusal, rule_of}
use Rattle.policy_core.proofs.reading.read_rules.Given as goal

abbrev pub invariant-loop-value : goal.invariant-loop-value
invariant-loop-value l =
    (rules_refusal 1 [] (tables_of_values l.values) ≡ rules_refusal (suc (length l.rules.items)) (rule_names l.rules.items) (tables_of_values (drop l.value-index l.values)))
    × (map rule_of (tables_of_values l.values) ≡ l.rules.items ++ map rule_of (tables_of_values (drop l.value-index l.values)))
