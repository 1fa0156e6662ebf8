use Rattle.std.proofs.Common.{◌<◌, ℕ, get_or}
use Rattle.mbox_items.specs.Division.{Item}
use Rattle.mbox_items.specs.Written.{IsItem}
use Rattle.archive_memory.proofs.writable.items_are_writable.Given as goal

abbrev pub invariant-loop-item : goal.invariant-loop-item
invariant-loop-item l = (k : ℕ) (d : Item) → k < l.item-index → IsItem (get_or l.items k d)
