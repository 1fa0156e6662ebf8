use Rattle.std.proofs.Common.{rules, tests, bytes_eq, ◌∙◌}
use Rattle.std.specs.Prelude.{string_bytes}
use Rattle.std.proofs.lemmas.Iterator.{YieldsList-from_slice}
use Rattle.std.proofs.lemmas.Iterator.Search.{any_from_yields_List}
use Rattle.policy_core.specs.Facts.{same_standing, same_withdrawal}
use Rattle.policy_core.proofs.RuleLemmas.{any-names}
use Rattle.policy_core.proofs.conditions.Condition.holds.Goals as goal

pub returns-in-Lists : goal.returns-in-Lists
returns-in-Lists c =
    let among = any_from_yields_List (λ s. bytes_eq (string_bytes s) c.facts.inside.list.now) _ _ _ c.any.ensures.ran
    (YieldsList-from_slice c.in-Lists.names.items (cc)) (λ x b q k. search (rules, tests)) in
    rw (← c.facts.view_is, c.in-Lists.is) (among ∙ any-names c.facts.inside.list.now c.in-Lists.names.items)

pub returns-in-Standings : goal.returns-in-Standings
returns-in-Standings c =
    let among = any_from_yields_List (λ standing. same_standing standing c.facts.inside.standing) _ _ _ c.any-in-Standings.ensures.ran
    (YieldsList-from_slice c.in-Standings.among.items (cc)) (λ x b q k. search (rules, tests)) in
    rw (← c.facts.view_is, c.in-Standings.is) among

pub returns-in-Withdrawn : goal.returns-in-Withdrawn
returns-in-Withdrawn c =
    let among = any_from_yields_List (λ by. same_withdrawal by c.facts.inside.withdrawn) _ _ _ c.any-in-Withdrawn.ensures.ran
    (YieldsList-from_slice c.in-Withdrawn.among.items (cc)) (λ x b q k. search (rules, tests)) in
    rw (← c.facts.view_is, c.in-Withdrawn.is) among
