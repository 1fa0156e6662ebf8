use Rattle.std.proofs.Common.{◌≡◌, ◌-◌, ◌≤◌, length, take, None}
use Rattle.std.specs.Prelude.{IsTrue}
use Rattle.sqlite.specs.Held.{state}
use Rattle.sqlite.specs.State.{HasCleanDisk}
use Rattle.archive_tables.specs.Tables.{IsArchiveAtRest, archive_of}
use Rattle.archive_store.specs.Batches.{HoldsAddedItems}
use Rattle.archive_port.specs.Adding.{reported_count}
use Rattle.archive_tables.specs.Calls.{KeepsConnectionUnlessDiskFails}
use Rattle.archive_tables.specs.Crashes.{IsCrashSafe}
use Rattle.archive_store.specs.Held.{memory_refusal_count}
use Rattle.archive_store.proofs.store.Store.add_all.Given as goal

abbrev pub invariant-loop-done : goal.invariant-loop-done
invariant-loop-done g l =
    let first = state g.S.Store l.fn.self.conn in
    let now = state g.S.Store l.self.conn in
    (l.done ≤ length l.items) × (reported_count l.report ≡ l.done) × (HasCleanDisk now → HasCleanDisk first)
    × (HasCleanDisk now → IsArchiveAtRest first → HoldsAddedItems None now (archive_of first) l.list (take l.done l.items) l.count l.report) × KeepsConnectionUnlessDiskFails first now
    × (HasCleanDisk now → IsTrue first.is_open) × (memory_refusal_count l.fn.self ≤ memory_refusal_count l.self)
    × (HasCleanDisk now → IsArchiveAtRest first → IsCrashSafe first → IsCrashSafe now)

abbrev pub decreases-loop-done : goal.decreases-loop-done
decreases-loop-done g l = length l.items - l.done
