use Rattle.std.proofs.Common.{◌≡◌, ◌≤◌, drop, length}
use Rattle.thread_links.specs.Containers.{distinct_ids, referenced_ids}
use Rattle.thread_links.proofs.numbering.find_dummies.Given as goal

abbrev pub invariant-loop-left : goal.invariant-loop-left
invariant-loop-left l = record { within : l.left ≤ length l.entries; put : l.ids.items ≡ distinct_ids (referenced_ids (drop l.left l.entries)) }

abbrev pub decreases-loop-left : goal.decreases-loop-left
decreases-loop-left l = l.left
