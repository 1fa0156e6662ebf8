use Rattle.std.proofs.Common.{◌∙◌, sym, ap, Some}
use Rattle.policy_core.proofs.TreeLemmas.{as_array-Some, no_tables, all_tables, values_are}
use Rattle.policy_core.proofs.reading.read_array.Goals as goal

pub returns-then-not-are_tables : goal.returns-then-not-are_tables
returns-then-not-are_tables c =
    no_tables _ c.in-Some-as_array.values.now.items
    (sym c.in-Some.ensures ∙ ap Some (as_array-Some _ _ (sym c.in-Some-as_array.ensures))) (cc (c.if-not-are_tables.ensures, c.deref.ensures.value))

pub returns : goal.returns
returns c =
    let values = c.in-Some-as_array.values.now.items in
    let array = sym c.in-Some.ensures ∙ ap Some (as_array-Some _ _ (sym c.in-Some-as_array.ensures)) in
    (all_tables _ values array (cc (c.if-not-are_tables.ensures, c.deref.ensures.value)), rw c.deref-2.ensures.value (values_are _ values array))
