use Rattle.std.proofs.Common.{◌≡◌, ◌≤◌, length, map, take}
use Rattle.sqlite.specs.Held.{state}
use Rattle.sqlite.specs.State.{HasCleanDisk}
use Rattle.archive_model.specs.Runs.{run}
use Rattle.archive_tables.specs.Tables.{IsArchiveAtRest, archive_of}
use Rattle.archive_port.specs.Commands.{spec_command}
use Rattle.archive_store.specs.CommandRuns.{HasRunAllCommands}
use Rattle.archive_tables.specs.Calls.{KeepsConnectionUnlessDiskFails}
use Rattle.archive_tables.specs.Crashes.{IsCrashSafe}
use Rattle.archive_store.specs.Held.{memory_refusal_count}
use Rattle.archive_store.proofs.store.Store.run.Given as goal

abbrev pub invariant-loop-command : goal.invariant-loop-command
invariant-loop-command g l =
    let first = state g.S.Store l.fn.self.conn in
    let now = state g.S.Store l.self.conn in
    (length l.outcomes.items ≡ l.command-index) × (HasCleanDisk now → HasCleanDisk first)
    × (HasCleanDisk now → IsArchiveAtRest first
    → HasRunAllCommands first (run (archive_of first) (map spec_command (take l.command-index l.commands))) now l.outcomes.items)
    × KeepsConnectionUnlessDiskFails first now × (memory_refusal_count l.fn.self ≤ memory_refusal_count l.self)
    × (HasCleanDisk now → IsArchiveAtRest first → IsCrashSafe first → IsCrashSafe now)
