use Rattle.std.proofs.Common.{◌≡◌, map, take}
use Rattle.archive_results.specs.Results.{tree_line}
use Rattle.archive_results.proofs.threads.lines_at.Given as goal

-- the rows so far
abbrev pub invariant-loop-row : goal.invariant-loop-row
invariant-loop-row l = l.shown.items ≡ map (tree_line l.fn.lines) (take l.row-index l.rows)
