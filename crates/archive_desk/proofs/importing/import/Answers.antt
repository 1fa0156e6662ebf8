use Rattle.archive_port.specs.Adding.{RefusesAnItem}
use Rattle.std.proofs.Common.{[], ◌∷◌, arith, drop, inl, refl, sym, subst}
use Rattle.archive_model.specs.Commands.{no_list}
use Rattle.archive_port.proofs.LastLemmas.{left_relates_if_open}
use Rattle.archive_port.specs.Told.{DiskHasFailed, HoldsTables}
use Rattle.archive_port.specs.declared.faults.StoreFault.TheVariants.{Memory}
use Rattle.archive_desk.specs.Importing.{IsBrokenImport, IsImportStoreMemoryRefusal, RowsRefuseImportItem}
use Rattle.archive_desk.specs.declared.importing.ImportError.TheVariants.{Mbox, Store as Stored}
use Rattle.archive_desk.specs.declared.importing.Report.{Report}
use Rattle.mbox_core.specs.Division.{DividesIntoItems}
use Rattle.archive_desk.proofs.CrashLemmas.{IsThere, added_lasts, import_crash, none_imported, some_imported}
use Rattle.archive_desk.proofs.ImportEnds.{import_ends_after, import_stopped, import_unbroken, wanted_by}
use Rattle.archive_desk.proofs.ImportLemmas.{import_after, list_not_found, no_room_to_cut, not_mbox}
use Rattle.archive_desk.proofs.importing.import.Goals as goal

pub returns-in-Ok : goal.returns-in-Ok
returns-in-Ok g c =
    let store = c.args.store.now in
    let mid = c.check_list_exists.new.store in
    let new = c.add_items.new.store in
    let list = c.args.list.now in
    let mbox = c.args.mbox.now in
    let items = c.deref.result.now in
    let divided = subst (λ items. DividesIntoItems mbox items) (sym c.deref.ensures.value) c.in-Ok.ensures.divided in
    let found = c.in_default.ensures.found in
    let lasts = added_lasts g.S.ArchiveState mid new list items c.add_items.result c.add_items.ensures.added in
    let imports = import_after g.S.ArchiveState store mid new list mbox items divided c.add_items.result found c.add_items.ensures.added in
    record {
      imports = imports;
      crash = import_crash g.S.ArchiveState store new list mbox c.add_items.result imports
          (some_imported g.S.ArchiveState store mid new list mbox found c.in_default.ensures.writes_nothing items divided lasts c.add_items.result c.add_items.ensures.crash);
      ends = import_ends_after g.S.ArchiveState (HoldsTables g.S.ArchiveState) IsImportStoreMemoryRefusal store mid new (IsThere g.S.ArchiveState list) found lasts
          c.in_default.ensures.ends.refusals_counted.0
          (λ a done db. RefusesAnItem g.S.ArchiveState db list (drop done items)) (λ a done db. RowsRefuseImportItem g.S.ArchiveState list mbox done db)
          (λ a b done db there stops. (items, divided, stops))
          c.add_items.result c.add_items.ensures.ends;
    }

pub returns-in-Err-Mbox-clause-imports : goal.returns-in-Err-Mbox-clause-imports
returns-in-Err-Mbox-clause-imports g c =
    rw c.in-Err-Mbox.field-0-is
    (not_mbox g.S.ArchiveState c.args.store.now c.check_list_exists.new.store c.args.list.now c.args.mbox.now c.in-Err-Mbox.fault
    (rw c.in-Err-Mbox.field-0-is at c.in-Err-Mbox.ensures.fault) c.in_default.ensures.found)

pub returns-in-Err-Mbox-clause-crash : goal.returns-in-Err-Mbox-clause-crash
returns-in-Err-Mbox-clause-crash g c =
    rw c.in-Err-Mbox.field-0-is
    (none_imported g.S.ArchiveState c.args.store.now c.check_list_exists.new.store c.args.list.now c.args.mbox.now (record { done = 0; fault = Mbox c.in-Err-Mbox.fault }) refl
    c.in_default.ensures.writes_nothing)

pub returns-in-Err-Mbox-clause-ends : goal.returns-in-Err-Mbox-clause-ends
returns-in-Err-Mbox-clause-ends g c =
    rw c.in-Err-Mbox.field-0-is
    (import_unbroken g.S.ArchiveState (HoldsTables g.S.ArchiveState) IsImportStoreMemoryRefusal c.args.store.now c.check_list_exists.new.store Report Report
    (λ a done db. RowsRefuseImportItem g.S.ArchiveState c.args.list.now c.args.mbox.now done db) 0
    (Mbox c.in-Err-Mbox.fault) (record { done = 0; fault = Mbox c.in-Err-Mbox.fault }) (λ bad. absurd (cc)) refl (c.in_default.ensures.ends.refusals_counted.0, (λ it. absurd (cc))))

pub returns-in-Err-Refused : goal.returns-in-Err-Refused
returns-in-Err-Refused g c = record {
  imports = left_relates_if_open g.S.ArchiveState c.args.store.now c.check_list_exists.new.store c.count_refusal.new.self c.count_refusal.ensures.counted.leaves_archive
      (λ a b. IsBrokenImport c.args.list.now c.args.mbox.now a b 0 (Stored Memory))
      (no_room_to_cut g.S.ArchiveState c.args.store.now c.check_list_exists.new.store c.args.list.now c.args.mbox.now c.in_default.ensures.found);
  crash = none_imported g.S.ArchiveState c.args.store.now c.count_refusal.new.self c.args.list.now c.args.mbox.now (record { done = 0; fault = Stored Memory }) refl
      (λ left may. c.in_default.ensures.writes_nothing left (c.count_refusal.ensures.writes_nothing left may));
  ends =
      let grows = c.in_default.ensures.ends.refusals_counted.0 in
      import_unbroken g.S.ArchiveState (HoldsTables g.S.ArchiveState) IsImportStoreMemoryRefusal c.args.store.now _ Report Report
      (λ a done db. RowsRefuseImportItem g.S.ArchiveState c.args.list.now c.args.mbox.now done db) 0 (Stored Memory)
      (record { done = 0; fault = Stored Memory }) (λ bad. absurd (cc)) refl (
        omega (arith, grows, c.count_refusal.ensures.counted.refusals_are),
        (λ it. omega (arith, grows, c.count_refusal.ensures.counted.refusals_are)),
      );
}

pub returns-in-Err : goal.returns-in-Err
returns-in-Err g c = record {
  imports = list_not_found g.S.ArchiveState c.args.store.now c.check_list_exists.new.store c.args.list.now c.args.mbox.now c.in-Err.fault c.in-Err.ensures.found;
  crash = none_imported g.S.ArchiveState c.args.store.now c.check_list_exists.new.store c.args.list.now c.args.mbox.now (record { done = 0; fault = Stored c.in-Err.fault }) refl
      c.in-Err.ensures.writes_nothing;
  ends = import_stopped g.S.ArchiveState (HoldsTables g.S.ArchiveState) IsImportStoreMemoryRefusal c.args.store.now c.check_list_exists.new.store (Unit {0}) Report
      (λ a done db. RowsRefuseImportItem g.S.ArchiveState c.args.list.now c.args.mbox.now done db) (λ store held. held) wanted_by
      (DiskHasFailed g.S.ArchiveState c.args.store.now c.check_list_exists.new.store)
      c.in-Err.fault (no_list ∷ []) 0
      (record { done = 0; fault = Stored c.in-Err.fault }) refl (λ more. inl more) c.in-Err.ensures.ends;
}
