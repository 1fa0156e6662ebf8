use Rattle.std.proofs.Common.{◌≤◌}
use Rattle.archive_port.specs.Told.{memory_refusal_count, StaysOpenUnlessDiskFails}
use Rattle.archive_port.specs.Crashes.{WritesNothing}
use Rattle.archive_port.specs.Walking.{remaining_count, walk_over_store}
use Rattle.archive_desk.proofs.PassLemmas.{PassedSoFar}
use Rattle.archive_desk.proofs.passing.pass_withheld.Given as goal

abbrev pub invariant-loop : goal.invariant-loop
invariant-loop g l =
    StaysOpenUnlessDiskFails g.S.ArchiveState l.fn.store l.store
    × PassedSoFar g.S.ArchiveState l.ask l.reader (walk_over_store l.fn.store l.fn.walk) (walk_over_store l.store l.walk)
    × (remaining_count g.S.ArchiveState l.walk ≤ remaining_count g.S.ArchiveState l.fn.walk)
    × (memory_refusal_count g.S.ArchiveState l.fn.store ≤ memory_refusal_count g.S.ArchiveState l.store)
    × WritesNothing g.S.ArchiveState l.fn.store l.store

abbrev pub decreases-loop : goal.decreases-loop
decreases-loop g l = remaining_count g.S.ArchiveState l.walk
