use Rattle.archive_port.proofs.CrashLemmas.{all_safe}
use Rattle.std.proofs.Common.{◌≤◌, [], ◌∷◌, arith, drop, length, subst, ap, Ok, Err}
use Rattle.archive_model.specs.Commands.{list_full, no_list}
use Rattle.archive_port.specs.Adding.{AddsAllMessages, RefusesAnItem}
use Rattle.archive_port.specs.Crashes.{CrashAddsAllBatches}
use Rattle.archive_port.specs.Told.{EndsPartialWrite, HoldsTables}
use Rattle.archive_port.specs.declared.reports.AddReport.{AddReport}
use Rattle.archive_port.specs.declared.faults.StoreFault.TheVariants.{Memory}
use Rattle.archive_desk.specs.declared.importing.ImportStop.{ImportStop}
use Rattle.archive_desk.specs.declared.importing.ImportError.TheVariants.{Store as Stored}
use Rattle.archive_desk.proofs.ImportEnds.{import_unbroken}
use Rattle.archive_import.proofs.CrashLemmas.{held_crash, kept_crash}
use Rattle.archive_import.proofs.TellLemmas.{behind_left, still}
use Rattle.archive_import.specs.Intake.{RowsRefusePending}
use Rattle.archive_import.specs.Streaming.{IsImportMemoryRefusal}
use Rattle.archive_import.proofs.EndLemmas.{held_ends}
use Rattle.archive_import.proofs.StopLemmas.{held_added, add_stopped}
use Rattle.archive_import.proofs.importing.add_held.Goals as goal

pub returns-in-Ok-add_owned-clause-adds : goal.returns-in-Ok-add_owned-clause-adds
returns-in-Ok-add_owned-clause-adds g c =
    held_added g.S.ArchiveState c.args.store.now c.add_owned.new.store c.args.list.now c.args.intake.now c.count.new.self c.in-Ok-add_owned.counts c.in-Ok-add_owned.ensures.ends.remains_open
    (subst (λ is. AddsAllMessages g.S.ArchiveState c.args.store.now c.add_owned.new.store (Ok c.in-Ok-add_owned.counts) c.args.list.now is) c.held.ensures
    c.in-Ok-add_owned.ensures.step)
    c.count.ensures.held c.count.ensures.done c.count.ensures.report

pub returns-in-Err-add_owned-clause-adds : goal.returns-in-Err-add_owned-clause-adds
returns-in-Err-add_owned-clause-adds g c =
    add_stopped g.S.ArchiveState c.args.store.now c.add_owned.new.store c.args.list.now c.args.intake.now c.in-Err-add_owned.stop c.stop_amid.result c.stop_amid.ensures
    c.in-Err-add_owned.ensures.ends.remains_open
    (subst (λ is. AddsAllMessages g.S.ArchiveState c.args.store.now c.add_owned.new.store (Err c.in-Err-add_owned.stop) c.args.list.now is) c.held.ensures
    c.in-Err-add_owned.ensures.step)
    (subst (λ is. c.in-Err-add_owned.stop.done ≤ length is) c.held.ensures c.in-Err-add_owned.ensures.tells)

-- ---- how it ends

pub returns-in-Err-clause-ends : goal.returns-in-Err-clause-ends
returns-in-Err-clause-ends g c =
    import_unbroken g.S.ArchiveState (HoldsTables g.S.ArchiveState) IsImportMemoryRefusal c.args.store.now _ (Unit {0}) (Unit {0})
    (RowsRefusePending g.S.ArchiveState c.args.list.now c.args.intake.now) _
    (Stored Memory) c.stop.result (λ bad. absurd (cc)) c.stop.ensures
    (omega (arith, c.count_refusal.ensures.counted.refusals_are), (λ want. omega (arith, c.count_refusal.ensures.counted.refusals_are)))

pub returns-in-Ok-add_owned-clause-ends : goal.returns-in-Ok-add_owned-clause-ends
returns-in-Ok-add_owned-clause-ends g c = record { fault_has_cause = tt; refusals_counted = (c.in-Ok-add_owned.ensures.ends.refusals_counted.0, tt) }

pub returns-in-Err-add_owned-clause-ends : goal.returns-in-Err-add_owned-clause-ends
returns-in-Err-add_owned-clause-ends g c =
    let stop = c.in-Err-add_owned.stop in
    held_ends g.S.ArchiveState c.args.store.now c.add_owned.new.store c.args.list.now c.args.intake.now stop c.stop_amid.result c.stop_amid.ensures
    (subst (λ is. EndsPartialWrite g.S.ArchiveState c.args.store.now c.add_owned.new.store {A = AddReport} (Err stop.fault) (no_list ∷ list_full ∷ [])
    (λ store. RefusesAnItem g.S.ArchiveState store c.args.list.now (drop stop.done is)))
    c.held.ensures c.in-Err-add_owned.ensures.ends)

-- ---- what a stop of the machine leaves

pub returns-in-Err-clause-crash : goal.returns-in-Err-clause-crash
returns-in-Err-clause-crash g c =
    let store = c.args.store.now in
    let intake = c.args.intake.now in
    let counted = c.count_refusal.ensures.counted in
    let after = behind_left g.S.ArchiveState (still g.S.ArchiveState store c.args.list.now intake) counted.leaves_archive c.count_refusal.ensures.writes_nothing
    (omega (arith, counted.refusals_are)) in
    kept_crash g.S.ArchiveState store c.count_refusal.new.self c.args.list.now intake intake after.safe after.before c.stop.result (ap (λ (s : ImportStop). s.done) c.stop.ensures)

pub returns-in-Ok-add_owned-clause-crash : goal.returns-in-Ok-add_owned-clause-crash
returns-in-Ok-add_owned-clause-crash g c =
    all_safe g.S.ArchiveState c.args.store.now c.add_owned.new.store c.args.list.now c.args.intake.now.held
    (g.met.S.ArchiveStore.leaves_what_is_held c.add_owned.new.store) c.in-Ok-add_owned.counts
    (subst (λ is. AddsAllMessages g.S.ArchiveState c.args.store.now c.add_owned.new.store (Ok c.in-Ok-add_owned.counts) c.args.list.now is) c.held.ensures
    c.in-Ok-add_owned.ensures.step)
    (subst (λ is. CrashAddsAllBatches g.S.ArchiveState c.args.store.now c.add_owned.new.store c.args.list.now is (Ok c.in-Ok-add_owned.counts)) c.held.ensures
    c.in-Ok-add_owned.ensures.crash)

pub returns-in-Err-add_owned-clause-crash : goal.returns-in-Err-add_owned-clause-crash
returns-in-Err-add_owned-clause-crash g c =
    held_crash g.S.ArchiveState c.args.store.now c.add_owned.new.store c.args.list.now c.args.intake.now c.in-Err-add_owned.stop c.stop_amid.result c.stop_amid.ensures
    (subst (λ is. CrashAddsAllBatches g.S.ArchiveState c.args.store.now c.add_owned.new.store c.args.list.now is (Err c.in-Err-add_owned.stop)) c.held.ensures
    c.in-Err-add_owned.ensures.crash)
