use Rattle.std.proofs.Common.{◌≡◌, ◌-◌, ◌≤◌, take, drop, Some, None}
use Rattle.sqlite.specs.Effect.{Database}
use Rattle.sqlite.specs.Tree.{Trees}
use Rattle.sqlite.specs.Held.{state}
use Rattle.sqlite.specs.State.{HasCleanDisk}
use Rattle.archive_model.specs.Records.{Archive}
use Rattle.archive_store.specs.Batches.{HoldsAddedItems}
use Rattle.archive_port.specs.Adding.{reported_count}
use Rattle.archive_store.specs.Refusals.{MakeRows}
use Rattle.archive_tables.specs.Calls.{KeepsConnectionUnlessDiskFails}
use Rattle.archive_store.specs.Held.{memory_refusal_count}
use Rattle.archive_store.proofs.batches.add_some.Given as goal

abbrev pub invariant-loop-at : goal.invariant-loop-at
invariant-loop-at g l =
    let first = state g.S.Store l.fn.store.conn in
    let now = state g.S.Store l.store.conn in
    (l.from ≤ l.at) × (l.at ≤ l.to) × (reported_count l.report ≡ l.at) × (HasCleanDisk now → HasCleanDisk first)
    × (HasCleanDisk now → (db : Database) (a : Archive) → HoldsAddedItems (Some db) first a l.additions.list.now (take l.from l.additions.items.now) l.fn.count l.fn.report
    → HoldsAddedItems (Some db) now a l.additions.list.now (take l.at l.additions.items.now) l.count l.report) × KeepsConnectionUnlessDiskFails first now
    × (memory_refusal_count l.fn.store ≤ memory_refusal_count l.store)
    × (HasCleanDisk now → (db : Database) (a : Archive) → HoldsAddedItems (Some db) first a l.additions.list.now (take l.from l.additions.items.now) l.fn.count l.fn.report
    → (left : Trees) → now.may_leave left → first.may_leave left)
    × (HasCleanDisk now → first.step_limit ≡ None → (db : Database) (a : Archive)
    → HoldsAddedItems (Some db) first a l.additions.list.now (take l.from l.additions.items.now) l.fn.count l.fn.report
    → MakeRows l.additions.list.now (take (l.at - l.from) (drop l.from l.additions.items.now)) first.now now.now)

abbrev pub decreases-loop-at : goal.decreases-loop-at
decreases-loop-at g l = l.to - l.at
