use Rattle.std.proofs.Common.{subst}
use Rattle.mbox_items.specs.Written.{IsItem}
use Rattle.archive_memory.proofs.writable.item_is_writable.Goals as goal

pub returns : goal.returns
returns c = subst IsItem c.item.view_is (record { is_envelope = c.envelope_is_writable.ensures; no_line_separates = c.item.invariant.1 })
