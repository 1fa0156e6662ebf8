use Rattle.std.proofs.Common.{◌≡◌, length}
use Rattle.subject_core.specs.Removal.{after_closing_bracket}
use Rattle.subject_core.proofs.pieces.after_closing.Given as goal

abbrev pub invariant-loop-first : goal.invariant-loop-first
invariant-loop-first l = after_closing_bracket l.rest ≡ after_closing_bracket l.text

abbrev pub decreases-loop-first : goal.decreases-loop-first
decreases-loop-first l = length l.rest
