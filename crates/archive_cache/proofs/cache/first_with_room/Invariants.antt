use Rattle.std.proofs.Common.{◌≡◌, ◌+◌, ◌<◌, ◌≤◌, drop, length}
use Rattle.std.specs.Prelude.{◌⊎◌}
use Rattle.archive_cache.specs.Views.{views_weight}
use Rattle.archive_cache.proofs.cache.first_with_room.Given as goal

abbrev pub invariant-loop-place : goal.invariant-loop-place
invariant-loop-place l = record {
  within : l.place ≤ length l.views;
  used : l.used ≡ views_weight (drop l.place l.views);
  room : (l.used + l.weight < l.most) ⊎ (l.place ≡ length l.views);
}

abbrev pub decreases-loop-place : goal.decreases-loop-place
decreases-loop-place l = l.place
