use Rattle.std.proofs.Common.{◌≡◌, ℕ, ◌-◌, ◌<◌, ◌≤◌, length, get_or, true}
use Rattle.mail_core.specs.MsgIds.{is_id_right_byte}
use Rattle.mail_core.proofs.id_sides.right_end.Given as goal

abbrev pub invariant-loop-at : goal.invariant-loop-at
invariant-loop-at l = record {
  begun : l.from ≤ l.at;
  place : l.at ≤ length l.text;
  run : (k : ℕ) → l.from ≤ k → k < l.at → is_id_right_byte (get_or l.text k 0) ≡ true;
}

abbrev pub decreases-loop-at : goal.decreases-loop-at
decreases-loop-at l = length l.text - l.at
