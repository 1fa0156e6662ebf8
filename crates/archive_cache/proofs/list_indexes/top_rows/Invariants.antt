use Rattle.std.proofs.Common.{◌≡◌, map}
use Rattle.std.specs.List.{range_with_len}
use Rattle.archive_cache.specs.ListIndexes.{top_row}
use Rattle.archive_cache.proofs.list_indexes.top_rows.Given as goal

-- the rows so far
abbrev pub invariant-loop-place : goal.invariant-loop-place
invariant-loop-place l = l.rows.items ≡ map top_row (range_with_len 0 l.place)
