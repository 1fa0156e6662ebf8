use Rattle.std.proofs.Common.{◌∙◌, rules, tests}
use Rattle.std.proofs.lemmas.Iterator.{YieldsList-from_slice}
use Rattle.std.proofs.lemmas.Iterator.Search.{all_from_yields_List}
use Rattle.toml.specs.View.{view}
use Rattle.policy_core.specs.Written.{is_text_value}
use Rattle.policy_core.proofs.ListLemmas.{list_all-map}
use Rattle.policy_core.proofs.rule_reading.are_texts.Goals as goal

pub returns : goal.returns
returns c =
    all_from_yields_List (λ v. is_text_value (view v)) _ _ _ c.all.ensures.ran (YieldsList-from_slice c.args.values.now (cc))
    (λ x b q k. search (rules, tests))
    ∙ list_all-map view is_text_value c.args.values.now
