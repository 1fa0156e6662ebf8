use Rattle.std.proofs.Common.{◌≡◌, ◌≤◌, drop, length}
use Rattle.thread_links.specs.Parts.{distinct_ids_before}
use Rattle.thread_links.proofs.numbering.put_all_first.Given as goal

abbrev pub invariant-loop-left : goal.invariant-loop-left
invariant-loop-left l = record { within : l.left ≤ length l.refs; put : l.ids.items ≡ distinct_ids_before (drop l.left l.refs) l.fn.ids.items }

abbrev pub decreases-loop-left : goal.decreases-loop-left
decreases-loop-left l = l.left
