use Rattle.std.proofs.Common.{◌≡◌, ◌+◌, ◌≤◌}
use Rattle.archive_listen.proofs.peeked.Peeked.end.Given as goal

-- the socket did not fail, and no byte that was seen is lost
abbrev pub invariant-loop-self : goal.invariant-loop-self
invariant-loop-self g l = (l.self.taken.failures ≡ l.initial.self.taken.failures)
    × (l.initial.self.taken.bytes + l.initial.self.unread ≤ l.self.taken.bytes + l.self.unread)

abbrev pub decreases-loop-self : goal.decreases-loop-self
decreases-loop-self g l = l.self.unread
