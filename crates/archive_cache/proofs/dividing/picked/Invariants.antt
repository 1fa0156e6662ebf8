use Rattle.std.proofs.Common.{◌≡◌, filter, take}
use Rattle.archive_cache.specs.ListIndexes.{is_line_in_part}
use Rattle.archive_cache.specs.Parts.{model_part}
use Rattle.archive_cache.proofs.dividing.picked.Given as goal

abbrev pub invariant-loop-line : goal.invariant-loop-line
invariant-loop-line l = l.found.items ≡ filter (is_line_in_part (model_part l.part)) (take l.line-index l.lines)
