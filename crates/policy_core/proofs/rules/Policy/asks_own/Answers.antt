use Rattle.std.proofs.Common.{rules, tests}
use Rattle.std.specs.List.{list_any}
use Rattle.std.proofs.lemmas.Iterator.{YieldsList-from_slice}
use Rattle.std.proofs.lemmas.Iterator.Search.{any_from_yields_List}
use Rattle.policy_core.specs.Rules.{is_own_condition}
use Rattle.policy_core.proofs.FitsLemmas.{unasked_by}
use Rattle.policy_core.proofs.rules.Policy.asks_own.Goals as goal

pub returns-in-Written-clause-value : goal.returns-in-Written-clause-value
returns-in-Written-clause-value c =
    let among = any_from_yields_List (λ r. list_any is_own_condition r.conditions) _ _ _ c.any.ensures.ran
    (YieldsList-from_slice c.in-Written.rules.items (cc)) (λ x b q k. search (rules, tests)) in
    rw (← c.self.view_is, c.in-Written.is) among

pub returns-in-Written-clause-alike : goal.returns-in-Written-clause-alike
returns-in-Written-clause-alike c = unasked_by c.args.self.now c.any.result (returns-in-Written-clause-value c)
