use Rattle.std.proofs.Common.{sym, rules, tests}
use Rattle.toml.specs.View.{view}
use Rattle.policy_core.proofs.TreeLemmas.{text_array, no_texts, empty_texts, no_array, as_array-Some}
use Rattle.policy_core.proofs.rule_reading.read_texts.Goals as goal

pub returns-in_default : goal.returns-in_default
returns-in_default c = no_array c.args.number (view c.args.value.now) (sym c.in_default.ensures)

pub returns-then-not-are_texts : goal.returns-then-not-are_texts
returns-then-not-are_texts c =
    no_texts c.args.number _ c.in-Some.values.now.items (as_array-Some _ _ (sym c.in-Some.ensures)) (cc (c.if-not-are_texts.ensures, c.deref.ensures.value))

pub returns-then-is_empty : goal.returns-then-is_empty
returns-then-is_empty c =
    empty_texts c.args.number _ c.in-Some.values.now.items (as_array-Some _ _ (sym c.in-Some.ensures)) (search (rules, tests))

pub returns : goal.returns
returns c =
    rw c.deref-2.ensures.value
    (text_array c.args.number _ c.in-Some.values.now.items (as_array-Some _ _ (sym c.in-Some.ensures)) (cc (c.if-not-are_texts.ensures, c.deref.ensures.value)) (search (rules, tests)))
