use Rattle.std.proofs.Common.{rules}
use Rattle.mbox_items.proofs.SenderLemmas.{place_in}
use Rattle.mbox_items.proofs.owned.OwnedItem.new.Goals as goal

pub invariant_of-result : goal.invariant_of-result
invariant_of-result c = (
  place_in c.in_ok-read.read c.place_of_at-at.result c.args.sender.items c.place_of_at-at.ensures (search rules) (search rules),
  search rules,
  search rules,
  search rules,
)
