use Rattle.std.proofs.Common.{length, ◌-◌}
use Rattle.mbox_stream.specs.Window.{IsSearchedUpTo}
use Rattle.mbox_stream.proofs.finding.find_next.Given as goal

abbrev pub invariant-loop-at : goal.invariant-loop-at
invariant-loop-at l = IsSearchedUpTo l.bytes l.at

abbrev pub decreases-loop-at : goal.decreases-loop-at
decreases-loop-at l = length l.bytes - l.at
