use Rattle.std.proofs.Common.{rules, [], ◌∷◌}
use Rattle.archive_import.proofs.TellLemmas.{hold_tells, more_tells, still}
use Rattle.archive_import.proofs.importing.hold_one.Goals as goal

pub returns-then-has_room : goal.returns-then-has_room
returns-then-has_room g c =
    let hold = c.hold.ensures in
    let all = hold_tells g.S.ArchiveState c.args.list.now c.args.intake.now c.args.intake.now c.args.item (still g.S.ArchiveState c.args.store.now c.args.list.now c.args.intake.now)
    hold.leaves.0 hold.leaves.1 c.hold.new.self c.hold.result hold.ok hold.fault hold.counted in
    record { adds = all.adds; crash = all.crash; kind = search rules; ends = all.ends }

pub returns-in-Ok : goal.returns-in-Ok
returns-in-Ok g c =
    let held = c.in-Ok.ensures in
    let hold = c.hold-in-Ok.ensures in
    let all = hold_tells g.S.ArchiveState c.args.list.now c.args.intake.now c.add_held.new.intake c.args.item
    (record { before = held.adds; grows = held.ends.refusals_counted.0; safe = held.crash }) hold.leaves.0 hold.leaves.1
    c.hold-in-Ok.new.self c.hold-in-Ok.result hold.ok hold.fault hold.counted in
    record { adds = all.adds; crash = all.crash; kind = search rules; ends = all.ends }

pub returns-in-Err : goal.returns-in-Err
returns-in-Err g c =
    let held = c.in-Err.ensures in
    let all = more_tells g.S.ArchiveState c.args.store.now c.add_held.new.store c.args.list.now c.args.intake.now (c.args.item ∷ []) c.in-Err.stop
    (record { adds = held.adds; crash = held.crash; ends = held.ends }) in
    record { adds = all.adds; crash = all.crash; kind = search rules; ends = all.ends }
