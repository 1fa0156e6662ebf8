use Rattle.std.proofs.Common.{◌-◌, ◌≤◌, length}
use Rattle.mail_core.proofs.SideLemmas.{Divides}
use Rattle.mail_core.proofs.id_sides.divide.Given as goal

abbrev pub invariant-loop-at : goal.invariant-loop-at
invariant-loop-at l = record {
  begun : l.from ≤ l.at;
  place : l.at ≤ length l.text;
  left : Divides l.text l.from l.at;
}

abbrev pub decreases-loop-at : goal.decreases-loop-at
decreases-loop-at l = length l.text - l.at
