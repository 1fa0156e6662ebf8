use Rattle.std.proofs.Common.{◌∙◌, rules, tests}
use Rattle.std.proofs.lemmas.Iterator.{YieldsList-from_slice}
use Rattle.std.proofs.lemmas.Iterator.Search.{all_from_yields_List}
use Rattle.policy_core.specs.Rules.{condition_holds}
use Rattle.policy_core.specs.Stated.{stated_condition}
use Rattle.policy_core.proofs.ListLemmas.{list_all-map}
use Rattle.policy_core.proofs.rules.Rule.fits.Goals as goal

pub returns : goal.returns
returns c =
    let all = all_from_yields_List (λ condition. condition_holds (stated_condition condition) c.args.facts.now) _ _ _ c.all.ensures.ran
    (YieldsList-from_slice c.self.inside.conditions.items (cc)) (λ x b q k. search (rules, tests)) in
    rw (← c.self.view_is) (all ∙ list_all-map stated_condition (λ condition. condition_holds condition c.args.facts.now) c.self.inside.conditions.items)
