use Rattle.std.proofs.Common.{◌∙◌, rules, tests}
use Rattle.std.specs.Str.{bytes_eq}
use Rattle.std.proofs.lemmas.Iterator.{YieldsList-from_slice}
use Rattle.std.proofs.lemmas.Iterator.Search.{any_from_yields_List}
use Rattle.policy_core.proofs.ListLemmas.{list_any-map}
use Rattle.policy_core.proofs.rule_reading.is_among.Goals as goal

pub returns : goal.returns
returns c =
    any_from_yields_List (λ r. bytes_eq c.args.name.now r.name) _ _ _ c.any.ensures.ran (YieldsList-from_slice c.args.rules.now (cc))
    (λ x b q k. search (rules, tests))
    ∙ list_any-map (λ r. r.name) (bytes_eq c.args.name.now) c.args.rules.now
