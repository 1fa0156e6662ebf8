use Rattle.std.proofs.Common.{◌≡◌, ◌+◌, ◌≤◌, length, drop, true, false}
use Rattle.mail_core.specs.Closings.{comments_closed_in, comment_closed_flags}
use Rattle.mail_core.proofs.comments.closings.Given as goal

abbrev pub invariant-loop-k : goal.invariant-loop-k
invariant-loop-k l = record {
  place : l.k ≤ length l.text;
  known : l.closed.items ≡ comment_closed_flags (drop l.k l.text);
  next : l.next ≡ comments_closed_in false (drop l.k l.text);
  after : l.after ≡ comments_closed_in true (drop l.k l.text);
  few : l.next + l.k ≤ length l.text;
  few_after : l.after + l.k ≤ length l.text;
}

abbrev pub decreases-loop-k : goal.decreases-loop-k
decreases-loop-k l = l.k
