use Rattle.std.proofs.Common.{◌≡◌, ◌++◌, map, take, drop}
use Rattle.policy_core.specs.Numbers.{grant_kind_rank}
use Rattle.archive_model.specs.Machine.{with_grant_days_of}
use Rattle.archive_memory.specs.Entries.{grant_in}
use Rattle.archive_memory.proofs.changing.set_days.Given as goal

abbrev pub invariant-loop-grant : goal.invariant-loop-grant
invariant-loop-grant l =
    map grant_in l.grant-items
    ≡ map (with_grant_days_of (record { person = l.person; list = l.list; rank = grant_kind_rank l.kind; from_day = l.from; until_day = l.until }))
    (take l.grant-index (map grant_in l.fn.grants.items))
    ++ drop l.grant-index (map grant_in l.fn.grants.items)
