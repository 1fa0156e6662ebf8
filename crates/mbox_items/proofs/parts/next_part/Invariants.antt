use Rattle.std.proofs.Common.{length, ◌-◌, ◌≤◌}
use Rattle.mbox_items.proofs.FastLemmas.{Calm}
use Rattle.mbox_items.proofs.parts.next_part.Given as goal

abbrev pub invariant-loop-at : goal.invariant-loop-at
invariant-loop-at l = (l.at ≤ length l.bytes) × Calm l.bytes l.at

abbrev pub decreases-loop-at : goal.decreases-loop-at
decreases-loop-at l = length l.bytes - l.at
