use Rattle.std.proofs.Common.{◌≡◌, ◌++◌, drop}
use Rattle.mail_core.specs.Fields.{unfolded}
use Rattle.mail_core.proofs.unfolding.unfold.Given as goal

abbrev pub invariant-loop-at : goal.invariant-loop-at
invariant-loop-at l = l.bytes.items ++ unfolded (drop l.at l.text) ≡ unfolded l.text
