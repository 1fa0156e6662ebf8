use Rattle.std.proofs.Common.{◌≡◌, ◌++◌, drop}
use Rattle.std.specs.Prelude.{filter_map, is_some}
use Rattle.std.specs.List.{list_all}
use Rattle.policy_core.specs.Reading.{texts_of_values}
use Rattle.policy_core.proofs.rule_reading.words_among.Given as goal

abbrev pub invariant-loop-value : goal.invariant-loop-value
invariant-loop-value g l =
    (filter_map g.W.Word.named (texts_of_values l.values) ≡ l.words.items ++ filter_map g.W.Word.named (texts_of_values (drop l.value-index l.values)))
    × (list_all (λ word. is_some (g.W.Word.named word)) (texts_of_values l.values) ≡ list_all (λ word. is_some (g.W.Word.named word)) (texts_of_values (drop l.value-index l.values)))
