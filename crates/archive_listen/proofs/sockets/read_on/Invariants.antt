use Rattle.std.proofs.Common.{◌-◌, ◌≤◌}
use Rattle.archive_listen.proofs.sockets.read_on.Given as goal

abbrev pub invariant-loop-total : goal.invariant-loop-total
invariant-loop-total g l = l.stream.latest ≤ 1000000000

abbrev pub decreases-loop-total : goal.decreases-loop-total
decreases-loop-total g l = 1048576 - l.total
