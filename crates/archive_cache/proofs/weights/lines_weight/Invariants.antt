use Rattle.std.proofs.Common.{◌≡◌, ◌-◌, ◌^◌, min, sum_by, take}
use Rattle.archive_cache.specs.Views.{line_weight}
use Rattle.archive_cache.proofs.weights.lines_weight.Given as goal

abbrev pub invariant-loop-line : goal.invariant-loop-line
invariant-loop-line l = l.weight ≡ min (sum_by line_weight (take l.line-index l.lines)) (2 ^ 64 - 1)
