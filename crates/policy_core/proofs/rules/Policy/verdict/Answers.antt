use Rattle.std.proofs.Common.{rules, tests, ◌∙◌, sym, ap}
use Rattle.std.proofs.lemmas.Iterator.{YieldsList-from_slice}
use Rattle.std.proofs.lemmas.Iterator.Search.{find_from_yields_List}
use Rattle.policy_core.specs.Rules.{fits}
use Rattle.policy_core.specs.Seen.{rules_of}
use Rattle.policy_core.proofs.FitsLemmas.{decided, decided-open, undecided}
use Rattle.policy_core.proofs.RuleLemmas.{head-filter, ruling_found}
use Rattle.policy_core.proofs.rules.Policy.verdict.Goals as goal

pub returns-in-Open-clause-decided : goal.returns-in-Open-clause-decided
returns-in-Open-clause-decided c = λ rule decides. decided-open _ rule _ (sym c.self.view_is ∙ ap rules_of c.in-Open.is) decides

pub returns-in-Some-clause-value : goal.returns-in-Some-clause-value
returns-in-Some-clause-value c =
    let found = find_from_yields_List (λ r. fits r c.args.facts.now) _ _ _ c.find.ensures.ran
    (YieldsList-from_slice c.in-Written.rules.items (cc)) (λ x b q k. search (rules, tests)) in
    rw (← c.self.view_is, c.in-Written.is)
    (c.verdict.ensures ∙ ap ruling_found (rw c.in-Some.is at found) ∙ sym (head-filter (λ r. fits r c.args.facts.now) c.in-Written.rules.items))

pub returns-in-None-clause-value : goal.returns-in-None-clause-value
returns-in-None-clause-value c =
    let found = find_from_yields_List (λ r. fits r c.args.facts.now) _ _ _ c.find.ensures.ran
    (YieldsList-from_slice c.in-Written.rules.items (cc)) (λ x b q k. search (rules, tests)) in
    rw (← c.self.view_is, c.in-Written.is)
    (ap ruling_found (rw c.in-None.is at found) ∙ sym (head-filter (λ r. fits r c.args.facts.now) c.in-Written.rules.items))

pub returns-in-Some-clause-decided : goal.returns-in-Some-clause-decided
returns-in-Some-clause-decided c = λ rule decides. returns-in-Some-clause-value c ∙ decided _ rule _ decides

pub returns-in-Some-clause-undecided : goal.returns-in-Some-clause-undecided
returns-in-Some-clause-undecided c = λ none. returns-in-Some-clause-value c ∙ undecided _ _ none

pub returns-in-None-clause-decided : goal.returns-in-None-clause-decided
returns-in-None-clause-decided c = λ rule decides. returns-in-None-clause-value c ∙ decided _ rule _ decides

pub returns-in-None-clause-undecided : goal.returns-in-None-clause-undecided
returns-in-None-clause-undecided c = λ none. returns-in-None-clause-value c ∙ undecided _ _ none
