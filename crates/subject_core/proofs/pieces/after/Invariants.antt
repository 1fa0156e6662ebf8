use Rattle.std.proofs.Common.{◌≡◌, drop}
use Rattle.subject_core.specs.Removal.{after_literal}
use Rattle.subject_core.proofs.pieces.after.Given as goal

abbrev pub invariant-loop-letter : goal.invariant-loop-letter
invariant-loop-letter l = after_literal (drop l.letter-index l.literal) l.rest ≡ after_literal l.literal l.text
