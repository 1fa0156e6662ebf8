use Rattle.std.proofs.Common.{length, ◌-◌}
use Rattle.mbox_core.proofs.CutLemmas.{Blanks}
use Rattle.luvazhimba_c.proofs.cutting.first_line.Given as goal

abbrev pub invariant-loop-at : goal.invariant-loop-at
invariant-loop-at l = Blanks l.bytes l.at

abbrev pub decreases-loop-at : goal.decreases-loop-at
decreases-loop-at l = length l.bytes - l.at
