use Rattle.std.proofs.Common.{ap}
use Rattle.archive_desk.specs.declared.importing.ImportStop.{ImportStop}
use Rattle.archive_import.proofs.CrashLemmas.{kept_crash}
use Rattle.archive_import.proofs.ReadLemmas.{unread_added, unread_stopped}
use Rattle.archive_port.specs.Told.{memory_refusal_count}
use Rattle.archive_import.specs.Intake.{RowsRefusePending}
use Rattle.archive_import.proofs.EndLemmas.{uncut_ends}
use Rattle.archive_import.proofs.WantLemmas.{unread_unwanted}
use Rattle.archive_import.proofs.importing.stop_unread.Goals as goal

pub returns-in-Ok-clause-adds : goal.returns-in-Ok-clause-adds
returns-in-Ok-clause-adds g c =
    unread_added g.S.ArchiveState c.args.store.now c.add_held.new.store c.args.list.now c.args.intake.now c.add_held.new.intake c.stop.result c.stop.ensures
    c.in-Ok.ensures.adds c.in-Ok.ensures.none

pub returns-in-Err-clause-adds : goal.returns-in-Err-clause-adds
returns-in-Err-clause-adds g c =
    unread_stopped g.S.ArchiveState c.args.store.now c.add_held.new.store c.args.list.now c.args.intake.now c.add_held.new.intake c.in-Err.stop c.in-Err.ensures.adds

pub returns-in-Ok-clause-ends : goal.returns-in-Ok-clause-ends
returns-in-Ok-clause-ends g c =
    uncut_ends g.S.ArchiveState c.args.store.now c.add_held.new.store (RowsRefusePending g.S.ArchiveState c.args.list.now c.args.intake.now) _ _ c.stop.result c.stop.ensures
    (unread_unwanted (Unit {0}) (memory_refusal_count g.S.ArchiveState c.args.store.now) (memory_refusal_count g.S.ArchiveState c.add_held.new.store) _ c.stop.result
    c.in-Ok.ensures.ends.refusals_counted.0 c.stop.ensures)

pub returns-in-Ok-clause-crash : goal.returns-in-Ok-clause-crash
returns-in-Ok-clause-crash g c =
    kept_crash g.S.ArchiveState c.args.store.now c.add_held.new.store c.args.list.now c.args.intake.now c.add_held.new.intake c.in-Ok.ensures.crash c.in-Ok.ensures.adds c.stop.result
    (ap (λ (s : ImportStop). s.done) c.stop.ensures)
