use Rattle.std.proofs.Common.{◌≡◌, ◌+◌}
use Rattle.archive_listen.proofs.peeked.Peeked.take_seen.Given as goal

-- the stream waits no longer, and each byte is taken or unread
abbrev pub invariant-loop-self : goal.invariant-loop-self
invariant-loop-self g l = (l.self.stream ≡ l.initial.self.stream)
    × (l.self.taken.bytes + l.self.unread ≡ l.initial.self.taken.bytes + l.initial.self.unread)

abbrev pub decreases-loop-self : goal.decreases-loop-self
decreases-loop-self g l = l.self.unread
