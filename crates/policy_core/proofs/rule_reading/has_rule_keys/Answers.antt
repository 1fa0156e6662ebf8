use Rattle.std.proofs.Common.{◌∙◌, rules, tests, string_bytes}
use Rattle.std.proofs.lemmas.Iterator.Search.{all_from_yields_List}
use Rattle.std.proofs.lemmas.Iterator.Consumers.{YieldsList-from_first}
use Rattle.policy_core.specs.Written.{is_rule_key}
use Rattle.policy_core.proofs.TreeLemmas.{keys_of-view}
use Rattle.policy_core.proofs.rule_reading.has_rule_keys.Goals as goal

pub returns : goal.returns
returns c =
    all_from_yields_List (λ s. is_rule_key (string_bytes s)) _ _ _ c.all.ensures.ran
    (YieldsList-from_first (λ x. x.now) (λ s. s) _ c.keys.ensures.rest) (λ x b q k. search (rules, tests))
    ∙ keys_of-view is_rule_key c.args.keys.now.entries
