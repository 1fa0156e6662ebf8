use Rattle.std.proofs.Common.{◌≡◌, ◌++◌, map, drop}
use Rattle.toml.specs.View.{table_view}
use Rattle.policy_core.specs.Stated.{stated_condition}
use Rattle.policy_core.specs.Written.{condition_keys, conditions_refusal, conditions_of}
use Rattle.policy_core.proofs.rule_reading.read_conditions.Given as goal

abbrev pub invariant-loop-key : goal.invariant-loop-key
invariant-loop-key l =
    (conditions_refusal l.number (table_view l.keys) condition_keys ≡ conditions_refusal l.number (table_view l.keys) (drop l.key-index condition_keys))
    × (conditions_of (table_view l.keys) condition_keys ≡ map stated_condition l.conditions.items ++ conditions_of (table_view l.keys) (drop l.key-index condition_keys))
