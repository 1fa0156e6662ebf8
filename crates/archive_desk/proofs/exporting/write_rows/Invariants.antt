use Rattle.std.proofs.Common.{◌≡◌, ◌≤◌}
use Rattle.archive_port.specs.Told.{memory_refusal_count, StaysOpenUnlessDiskFails}
use Rattle.archive_port.specs.Crashes.{WritesNothing}
use Rattle.archive_port.specs.Walking.{remaining_count, walk_over_store}
use Rattle.archive_desk.proofs.WalkLemmas.{RowsSoFar}
use Rattle.archive_desk.proofs.exporting.write_rows.Given as goal

abbrev pub invariant-loop-store : goal.invariant-loop-store
invariant-loop-store g l =
    StaysOpenUnlessDiskFails g.S.ArchiveState l.fn.store l.store
    × (g.W.Sink.failures l.out ≡ g.W.Sink.failures l.fn.out)
    × RowsSoFar g.S.ArchiveState l.ask l.reader (walk_over_store l.fn.store l.fn.walk) (walk_over_store l.store l.walk) (g.W.Sink.told l.fn.out) (g.W.Sink.told l.out) l.fn.count l.count
    × (memory_refusal_count g.S.ArchiveState l.fn.store ≤ memory_refusal_count g.S.ArchiveState l.store)
    × WritesNothing g.S.ArchiveState l.fn.store l.store

abbrev pub decreases-loop-store : goal.decreases-loop-store
decreases-loop-store g l = remaining_count g.S.ArchiveState l.walk
