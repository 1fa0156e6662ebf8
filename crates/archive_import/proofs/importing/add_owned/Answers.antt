use Rattle.archive_port.specs.Adding.{RefusesAnItem}
use Rattle.std.proofs.Common.{[], ◌∷◌, ◌∙◌, arith, drop, subst}
use Rattle.archive_model.specs.Commands.{list_full, no_list}
use Rattle.archive_port.specs.Replies.{done_count_on_error, map_error_to_fault}
use Rattle.archive_port.specs.Told.{EndsPartialWrite}
use Rattle.archive_port.specs.declared.reports.AddError.{AddError}
use Rattle.archive_port.proofs.CrashLemmas.{broken_crash}
use Rattle.archive_port.proofs.RightLemmas.{run_nothing}
use Rattle.archive_import.proofs.importing.add_owned.Goals as goal

pub returns-in-Err-clause-step : goal.returns-in-Err-clause-step
returns-in-Err-clause-step g c = λ clean kept up. let same = c.count_refusal.ensures.counted.leaves_archive.stays_at_rest kept in (same.0, same.1 ∙ run_nothing _)

pub returns-in-Err-clause-ends : goal.returns-in-Err-clause-ends
returns-in-Err-clause-ends g c = record {
  remains_open = c.count_refusal.ensures.counted.leaves_archive.remains_open;
  was_open = λ returned. tt;
  refusal_is_possible = tt;
  refusals_counted = (omega (arith, c.count_refusal.ensures.counted.refusals_are), (λ want. omega (arith, c.count_refusal.ensures.counted.refusals_are)));
  fault_has_cause = λ returned held free bad. absurd (cc);
}

pub returns-in-Err-clause-crash : goal.returns-in-Err-clause-crash
returns-in-Err-clause-crash g c = broken_crash g.S.ArchiveState c.args.store.now c.count_refusal.new.self c.args.list.now c.args.items.now _ (λ returned kept was left may.
    let before = g.S.ArchiveState.archive c.args.store.now in
    (before, (0, omega arith, (omega arith, run_nothing before)), was left (c.count_refusal.ensures.writes_nothing left (returned, may)).1))

pub returns-in-Ok-clause-ends : goal.returns-in-Ok-clause-ends
returns-in-Ok-clause-ends g c =
    subst (λ is. EndsPartialWrite g.S.ArchiveState c.args.store.now c.add_all.new.self (map_error_to_fault (λ (stop : AddError). stop.fault) c.add_all.result) (no_list ∷ list_full ∷ [])
    (λ store. RefusesAnItem g.S.ArchiveState store c.args.list.now (drop (done_count_on_error (λ (stop : AddError). stop.done) c.add_all.result) is))) (c.deref.ensures.value ∙ c.in-Ok.ensures)
    c.add_all.ensures.ends
