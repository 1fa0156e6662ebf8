use Rattle.std.proofs.Common.{rules}
use Rattle.mbox_items.proofs.SenderLemmas.{place_in}
use Rattle.mbox_items.proofs.owned.OwnedItem.of.Goals as goal

pub invariant_of-result : goal.invariant_of-result
invariant_of-result c = (
  place_in c.item-inside.inside.0.0.sender c.place_of_at.result c.in_ok-written_sender.field-0.items c.place_of_at.ensures c.item-inside.invariant.0 c.in_ok-written_sender.ensures,
  search rules,
  search rules,
  search rules,
)
