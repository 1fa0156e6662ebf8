use Rattle.std.proofs.Common.{◌∙◌, codes, rules, tests, string_bytes}
use Rattle.std.specs.Str.{bytes_eq}
use Rattle.std.proofs.lemmas.Iterator.Search.{all_from_yields_List}
use Rattle.std.proofs.lemmas.Iterator.Consumers.{YieldsList-from_first}
use Rattle.policy_core.proofs.TreeLemmas.{keys_of-view}
use Rattle.policy_core.proofs.reading.has_only_rule.Goals as goal

pub returns : goal.returns
returns c =
    all_from_yields_List (λ s. bytes_eq (string_bytes s) (codes "rule")) _ _ _ c.all.ensures.ran
    (YieldsList-from_first (λ x. x.now) (λ s. s) _ c.keys.ensures.rest) (λ x b q k. search (rules, tests))
    ∙ keys_of-view (λ key. bytes_eq key (codes "rule")) c.args.tree.now.entries
