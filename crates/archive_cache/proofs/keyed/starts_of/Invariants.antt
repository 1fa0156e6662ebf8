use Rattle.std.proofs.Common.{ℕ, ◌<◌}
use Rattle.std.specs.List.{All, Contains}
use Rattle.archive_cache.specs.Keyed.{IsKeyStart, start_at}
use Rattle.archive_cache.proofs.keyed.starts_of.Given as goal

abbrev pub invariant-loop-place : goal.invariant-loop-place
invariant-loop-place l = ((place : ℕ) → place < l.place → Contains l.starts.items (start_at l.lines place)) × All (IsKeyStart l.lines) l.starts.items
