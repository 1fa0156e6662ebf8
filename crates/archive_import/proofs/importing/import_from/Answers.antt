use Rattle.std.proofs.Common.{◌≡◌, ◌+◌, [], ◌∷◌, inl, refl, sym, subst, append-nil, arith, Ok, Err}
use Rattle.archive_model.specs.Commands.{no_list}
use Rattle.archive_model.specs.Records.{Archive}
use Rattle.archive_port.specs.Told.{DiskHasFailed, HoldsTables}
use Rattle.archive_desk.specs.Holding.{RelatesTableArchives}
use Rattle.archive_desk.specs.declared.importing.Report.{Report}
use Rattle.archive_desk.specs.declared.importing.ImportError.TheVariants.{Store as Stored}
use Rattle.archive_desk.proofs.ImportEnds.{import_stopped, import_stops_as}
use Rattle.archive_import.specs.Streaming.{CrashImportsInput, IsInputImported, IsImportMemoryRefusal, RowsRefuseReadItem}
use Rattle.archive_import.specs.Intake.{IsUnderWay}
use Rattle.archive_import.proofs.CrashLemmas.{as_read, ends_reading, found_crash, stops_reading}
use Rattle.archive_import.proofs.IntakeLemmas.{under_way_first}
use Rattle.archive_import.proofs.ReadLemmas.{Begun, not_found}
use Rattle.archive_import.proofs.TellLemmas.{behind_then, file_tells, found_behind}
use Rattle.archive_import.proofs.WantLemmas.{store_want}
use Rattle.archive_import.proofs.importing.import_from.Goals as goal

pub returns-in-Err : goal.returns-in-Err
returns-in-Err g c =
    let list = c.args.list.now in
    let store = c.args.store.now in
    let mid = c.check_list_exists.new.store in
    let fault = c.in-Err.fault in
    record {
      imports = ([], 0, sym (append-nil _), omega arith, not_found g.S.ArchiveState store mid list fault c.in-Err.ensures.found);
      crash = λ text ends told ended. stops_reading g.S.ArchiveState store mid list text ends (record { done = 0; fault = Stored fault })
          (found_crash g.S.ArchiveState store mid list text ends fault c.in-Err.ensures.writes_nothing);
      failures = (0, omega arith, omega arith);
      end = tt;
      ends = import_stopped g.S.ArchiveState (HoldsTables g.S.ArchiveState) IsImportMemoryRefusal store mid (Unit {0}) Report _ (λ store held. held) store_want
          (DiskHasFailed g.S.ArchiveState store mid) fault (no_list ∷ []) 0 (record { done = 0; fault = Stored fault }) refl (λ more. inl more) c.in-Err.ensures.ends;
    }

pub returns-in-Err-add_settled : goal.returns-in-Err-add_settled
returns-in-Err-add_settled g c =
    let list = c.args.list.now in
    let store = c.args.store.now in
    let new = c.add_settled.new.store in
    let stop = c.in-Err-add_settled.stop in
    let settled = c.in-Err-add_settled.ensures in
    let text = c.add_settled.new.cutter.stream in
    let begun = c.new-intake.result in
    let there = c.in_default.ensures in
    let ended : g.R.Source.ends c.add_settled.new.input ≡ g.R.Source.ends c.args.input.now + 0 = omega (arith, settled.read.err_means_no_end) in
    let all = file_tells g.S.ArchiveState (found_behind g.S.ArchiveState store c.check_list_exists.new.store list there.found there.writes_nothing there.ends.refusals_counted.0) list text 0 [] begun
    (λ a b it. under_way_first list a b begun it.2 it.0 c.new-intake.ensures) stop (record { adds = settled.adds; crash = settled.crash; ends = settled.ends }) in
    record {
      imports = (text, 0, settled.read.stream_is_read, ended, all.adds);
      crash = as_read (λ text ends. CrashImportsInput g.S.ArchiveState store new list text ends (Err stop)) _ _ _ _ text 0 settled.read.stream_is_read ended
          (stops_reading g.S.ArchiveState store new list text 0 stop all.crash);
      failures = settled.read.failures;
      end = tt;
      ends = import_stops_as g.S.ArchiveState (HoldsTables g.S.ArchiveState) IsImportMemoryRefusal store new Report Report (λ a done db. RowsRefuseReadItem g.S.ArchiveState list text 0 done db) _ stop
          (λ a db. as_read (λ text ends. RowsRefuseReadItem g.S.ArchiveState list text ends stop.done db) _ _ _ _ text 0 settled.read.stream_is_read ended) all.ends;
    }

pub returns-in-Ok-add_last : goal.returns-in-Ok-add_last
returns-in-Ok-add_last g c =
    let list = c.args.list.now in
    let store = c.args.store.now in
    let later = c.add_settled.new.store in
    let new = c.add_last.new.store in
    let report = c.report.result in
    let begun = c.new-intake.result in
    let there = c.in_default.ensures in
    let settled = c.in-Ok.ensures in
    let read = settled.read in
    let last = c.in-Ok-add_last.ensures in
    let text = c.add_settled.new.cutter.stream in
    let taken = c.add_settled.new.cutter.taken in
    let intake = c.add_settled.new.intake in
    let Says : Report → Archive → Archive → Type 0 = λ r b d. (a : Archive) → IsUnderWay list a b taken intake → IsInputImported list text 1 a d r in
    let read_on = behind_then g.S.ArchiveState (Begun list [] taken begun intake) (λ a d. IsUnderWay list a d taken intake)
    (found_behind g.S.ArchiveState store c.check_list_exists.new.store list there.found there.writes_nothing there.ends.refusals_counted.0)
    settled.adds settled.ends.refusals_counted.0 settled.crash (λ x y z it under. under x (under_way_first list x y begun it.2 it.0 c.new-intake.ensures)) in
    let all = behind_then g.S.ArchiveState (Says report) (λ a d. IsInputImported list text 1 a d report) read_on
    (subst (λ r. RelatesTableArchives g.S.ArchiveState later new (Says r)) (sym c.report.ensures) last.adds) last.ends.refusals_counted.0 last.crash (λ x y z under says. says x under) in
    record {
      imports = (text, 1, read.stream_is_read, read.ok_means_end, all.before);
      crash = as_read (λ text ends. CrashImportsInput g.S.ArchiveState store new list text ends (Ok report)) _ _ _ _ text 1 read.stream_is_read read.ok_means_end
          (ends_reading g.S.ArchiveState store new list text 1 report all.before all.safe);
      failures = read.failures;
      end = read.ok_means_end;
      ends = record { fault_has_cause = tt; refusals_counted = (all.grows, tt) };
    }

pub returns : goal.returns
returns g c =
    let list = c.args.list.now in
    let store = c.args.store.now in
    let new = c.add_last.new.store in
    let stop = c.in-Err-add_last.stop in
    let begun = c.new-intake.result in
    let there = c.in_default.ensures in
    let settled = c.in-Ok.ensures in
    let read = settled.read in
    let last = c.in-Err-add_last.ensures in
    let text = c.add_settled.new.cutter.stream in
    let taken = c.add_settled.new.cutter.taken in
    let intake = c.add_settled.new.intake in
    let read_on = behind_then g.S.ArchiveState (Begun list [] taken begun intake) (λ a d. IsUnderWay list a d taken intake)
    (found_behind g.S.ArchiveState store c.check_list_exists.new.store list there.found there.writes_nothing there.ends.refusals_counted.0)
    settled.adds settled.ends.refusals_counted.0 settled.crash (λ x y z it under. under x (under_way_first list x y begun it.2 it.0 c.new-intake.ensures)) in
    let all = file_tells g.S.ArchiveState read_on list text 1 taken intake (λ a b it. it) stop (record { adds = last.adds; crash = last.crash; ends = last.ends }) in
    record {
      imports = (text, 1, read.stream_is_read, read.ok_means_end, all.adds);
      crash = as_read (λ text ends. CrashImportsInput g.S.ArchiveState store new list text ends (Err stop)) _ _ _ _ text 1 read.stream_is_read read.ok_means_end
          (stops_reading g.S.ArchiveState store new list text 1 stop all.crash);
      failures = (0, omega (arith, read.failures), last.kind);
      end = tt;
      ends = import_stops_as g.S.ArchiveState (HoldsTables g.S.ArchiveState) IsImportMemoryRefusal store new Report Report (λ a done db. RowsRefuseReadItem g.S.ArchiveState list text 1 done db) _ stop
          (λ a db. as_read (λ text ends. RowsRefuseReadItem g.S.ArchiveState list text ends stop.done db) _ _ _ _ text 1 read.stream_is_read read.ok_means_end) all.ends;
    }
