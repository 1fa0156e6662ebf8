use Rattle.std.proofs.Common.{◌≤◌, map}
use Rattle.archive_results.specs.Index.{summary_of}
use Rattle.archive_port.specs.Told.{memory_refusal_count, StaysOpenUnlessDiskFails}
use Rattle.archive_port.specs.Crashes.{WritesNothing}
use Rattle.archive_port.specs.Walking.{remaining_count, walk_over_store}
use Rattle.archive_desk.proofs.IndexLemmas.{ListedSoFar}
use Rattle.archive_desk.proofs.index.walk_headers.Given as goal

abbrev pub invariant-loop-headers : goal.invariant-loop-headers
invariant-loop-headers g l =
    StaysOpenUnlessDiskFails g.S.ArchiveState l.fn.store l.store
    × ListedSoFar (map summary_of) l.ask l.reader g.S.ArchiveState (walk_over_store l.fn.store l.fn.walk) (walk_over_store l.store l.walk) l.headers.items
    × (memory_refusal_count g.S.ArchiveState l.fn.store ≤ memory_refusal_count g.S.ArchiveState l.store)
    × WritesNothing g.S.ArchiveState l.fn.store l.store

abbrev pub decreases-loop-headers : goal.decreases-loop-headers
decreases-loop-headers g l = remaining_count g.S.ArchiveState l.walk
