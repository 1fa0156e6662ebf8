use Rattle.std.specs.Prelude.{◌≤◌}
use Rattle.archive_store.specs.Held.{memory_refusal_count}
use Rattle.archive_store.specs.Told.{HoldsTables, StoreHasCleanDisk, IsOpen, StaysOpenUnlessDiskFails, WritesNothing}
use Rattle.archive_store.proofs.CheckLemmas.{HasLooked}
use Rattle.archive_store.proofs.store.Store.check.Given as goal

abbrev pub invariant-loop-place : goal.invariant-loop-place
invariant-loop-place g l =
    (StoreHasCleanDisk g.S.Store l.self → StoreHasCleanDisk g.S.Store l.fn.self)
    × (StoreHasCleanDisk g.S.Store l.self → HoldsTables g.S.Store l.fn.self → HasLooked g.S.Store l.fn.self l.self l.place-items l.place-index)
    × StaysOpenUnlessDiskFails g.S.Store l.fn.self l.self
    × (StoreHasCleanDisk g.S.Store l.self → IsOpen g.S.Store l.fn.self)
    × (memory_refusal_count l.fn.self ≤ memory_refusal_count l.self)
    × WritesNothing g.S.Store l.fn.self l.self
