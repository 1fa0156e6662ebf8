use Rattle.std.proofs.Common.{◌∙◌, rules, tests}
use Rattle.std.proofs.lemmas.Iterator.{YieldsList-from_slice}
use Rattle.std.proofs.lemmas.Iterator.Search.{any_from_yields_List}
use Rattle.policy_core.specs.Rules.{is_own_condition}
use Rattle.policy_core.specs.Stated.{stated_condition}
use Rattle.policy_core.proofs.ListLemmas.{list_any-map}
use Rattle.policy_core.proofs.rules.Rule.asks_own.Goals as goal

pub returns : goal.returns
returns c =
    let among = any_from_yields_List (λ condition. is_own_condition (stated_condition condition)) _ _ _ c.any.ensures.ran
    (YieldsList-from_slice c.self.inside.conditions.items (cc)) (λ x b q k. search (rules, tests)) in
    rw (← c.self.view_is) (among ∙ list_any-map stated_condition is_own_condition c.self.inside.conditions.items)
