use Rattle.std.proofs.Common.{◌∙◌, sym}
use Rattle.mbox_items.proofs.ItemLemmas.{none_after, some_after, whole_none, none_whole}
use Rattle.mbox_items.proofs.items.Item.new.Goals as goal

pub returns-then-is_some-clause-none : goal.returns-then-is_some-clause-none
returns-then-is_some-clause-none c =
    λ h. some_after c.next_part-part.result.next c.next_part-part.result.rest.now c.args.text.now c.next_part-part.ensures.items (sym c.is_some.ensures ∙ c.if-is_some.true)
    (none_whole c.args.text.now h)

pub invariant_of-result : goal.invariant_of-result
invariant_of-result c = (
  c.ends_with_newline-complete.ensures,
  whole_none c.args.text.now (none_after c.next_part-part.result.next c.next_part-part.result.rest.now c.args.text.now c.next_part-part.ensures.items (sym c.is_some.ensures ∙ c.if-is_some.false)),
)

pub returns-clause-holds : goal.returns-clause-holds
returns-clause-holds c =
    whole_none c.args.text.now (none_after c.next_part-part.result.next c.next_part-part.result.rest.now c.args.text.now c.next_part-part.ensures.items (sym c.is_some.ensures ∙ c.if-is_some.false))
