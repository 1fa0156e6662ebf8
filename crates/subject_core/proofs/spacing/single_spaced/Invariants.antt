use Rattle.std.proofs.Common.{◌≡◌, ◌++◌, drop}
use Rattle.subject_core.specs.Spaces.{with_single_spaces}
use Rattle.subject_core.proofs.Spacings.{spaced_behind}
use Rattle.subject_core.proofs.spacing.single_spaced.Given as goal

abbrev pub invariant-loop-byte : goal.invariant-loop-byte
invariant-loop-byte l = l.text.items ++ spaced_behind l.behind_space (drop l.byte-index l.subject) ≡ with_single_spaces l.subject
