use Rattle.std.proofs.Common.{◌≡◌, ◌+◌, ◌-◌, ◌≤◌, length, drop, false}
use Rattle.mail_core.specs.Comments.{after_closing_paren}
use Rattle.mail_core.proofs.comments.comment_end.Given as goal

abbrev pub invariant-loop-at : goal.invariant-loop-at
invariant-loop-at l = record {
  begun : l.from ≤ l.at;
  place : l.at ≤ length l.text;
  open_still : 1 ≤ l.depth;
  shallow : l.depth ≤ l.at + 1;
  same : after_closing_paren l.quoted l.depth (drop l.at l.text) ≡ after_closing_paren false 1 (drop l.from l.text);
}

abbrev pub decreases-loop-at : goal.decreases-loop-at
decreases-loop-at l = length l.text - l.at
