use Rattle.archive_port.specs.Adding.{RefusesAnItem}
use Rattle.std.proofs.Common.{◌⊎◌, [], ◌∷◌, drop, inl, inr, refl, rules}
use Rattle.archive_model.specs.Commands.{list_full, no_list}
use Rattle.archive_port.specs.Told.{DiskHasFailed, HoldsTables}
use Rattle.archive_port.specs.declared.reports.AddReport.{AddReport}
use Rattle.archive_desk.specs.Importing.{IsImportStoreMemoryRefusal}
use Rattle.archive_desk.specs.declared.importing.ImportError.TheVariants.{Store as Stored}
use Rattle.archive_desk.specs.declared.importing.Report.{Report}
use Rattle.archive_port.proofs.CrashLemmas.{all_safe}
use Rattle.archive_desk.proofs.CrashLemmas.{stopped_crash}
use Rattle.archive_desk.proofs.ImportEnds.{import_stopped, wanted_by}
use Rattle.archive_desk.proofs.ImportLemmas.{added_all, added_first}
use Rattle.archive_desk.proofs.importing.add_items.Goals as goal

pub returns-in-Ok : goal.returns-in-Ok
returns-in-Ok g c = record {
  added = added_all g.S.ArchiveState c.args.store.now c.add_all.new.self c.args.list.now c.args.items.now c.add_all.ensures.ends.remains_open c.in-Ok.counts _
      (search rules) c.in-Ok.ensures.step;
  crash = all_safe g.S.ArchiveState c.args.store.now c.add_all.new.self c.args.list.now c.args.items.now
      (g.met.S.ArchiveStore.leaves_what_is_held c.add_all.new.self) c.in-Ok.counts c.in-Ok.ensures.step c.in-Ok.ensures.crash;
  ends = record { fault_has_cause = tt; refusals_counted = (c.in-Ok.ensures.ends.refusals_counted.0, tt) };
}

pub returns-in-Err : goal.returns-in-Err
returns-in-Err g c =
    let list = c.args.list.now in
    let items = c.args.items.now in
    let old = c.args.store.now in
    let new = c.add_all.new.self in
    record {
      added = added_first g.S.ArchiveState old new list items c.add_all.ensures.ends.remains_open c.in-Err.stop c.in-Err.ensures.bound c.in-Err.ensures.step;
      crash = stopped_crash g.S.ArchiveState old new list items c.in-Err.stop (record { done = c.in-Err.stop.done; fault = Stored c.in-Err.stop.fault }) refl c.in-Err.ensures.crash;
      ends = import_stopped g.S.ArchiveState (HoldsTables g.S.ArchiveState) IsImportStoreMemoryRefusal old new AddReport Report (λ a done db. RefusesAnItem g.S.ArchiveState db list (drop done items))
          (λ store held. held) wanted_by
          (DiskHasFailed g.S.ArchiveState old new ⊎ RefusesAnItem g.S.ArchiveState new list (drop c.in-Err.stop.done items)) c.in-Err.stop.fault
          (no_list ∷ list_full ∷ []) c.in-Err.stop.done (record { done = c.in-Err.stop.done; fault = Stored c.in-Err.stop.fault })
          refl (λ why. elim why [ inl more ↦ inl more | inr stops ↦ inr (λ a. stops) ]) c.in-Err.ensures.ends;
    }
