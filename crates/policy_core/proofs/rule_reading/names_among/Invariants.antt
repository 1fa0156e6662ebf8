use Rattle.std.proofs.Common.{◌≡◌, ◌++◌, map, drop, string_bytes}
use Rattle.std.specs.List.{list_all}
use Rattle.policy_core.specs.Names.{is_name}
use Rattle.policy_core.specs.Reading.{texts_of_values}
use Rattle.policy_core.proofs.rule_reading.names_among.Given as goal

abbrev pub invariant-loop-value : goal.invariant-loop-value
invariant-loop-value l =
    (texts_of_values l.values ≡ map string_bytes l.names.items ++ texts_of_values (drop l.value-index l.values))
    × (list_all is_name (texts_of_values l.values) ≡ list_all is_name (texts_of_values (drop l.value-index l.values)))
