use Rattle.std.proofs.Common.{drop, ◌∙◌, inl, inr, subst, arith, rules}
use Rattle.std.proofs.lemmas.Result.{err_from_is_err_and}
use Rattle.sqlite.specs.Effect.{Database}
use Rattle.sqlite.specs.Held.{state}
use Rattle.archive_tables.proofs.CrashLemmas.{quiet_then}
use Rattle.archive_tables.proofs.EndLemmas.{archive_stays}
use Rattle.archive_tables.proofs.LastLemmas.{lasts_then}
use Rattle.archive_store.specs.Refusals.{RowsRefuseAnItem}
use Rattle.archive_store.proofs.BatchLemmas.{begun_taken, held_or_back, none_or_whole, stays_taken}
use Rattle.archive_store.proofs.FindLemmas.{passed_on, saw_same}
use Rattle.archive_store.proofs.StopLemmas.{blame_disk, left_or_failed}
use Rattle.archive_store.proofs.batches.add_batch.Goals as goal

pub returns-in-Ok-pass-clause-step : goal.returns-in-Ok-pass-clause-step
returns-in-Ok-pass-clause-step g c = λ clean a t.
    let first = state g.S.Store c.args.store.now.conn in
    let clean_2 = c.commit-committed.ensures.ends.remains_open.disk_was_clean clean in
    let begun = c.begin-begun.ensures.held (c.add_some.ensures.ends.remains_open.disk_was_clean clean_2) t.is_open_archive in
    let added = c.in-Ok.ensures.step clean_2 first.now a (begun_taken (state g.S.Store c.begin-begun.new.conn) c.in_ok-pass.ensures.passed begun t) in
    let kept = rw c.in-Ok-pass.ensures.passed at c.commit-committed.ensures.held in
    (stays_taken _ _ (state g.S.Store c.add_some.new.store.conn) (state g.S.Store c.commit-committed.new.conn) _ _ _ _ _ added.0 (kept clean first.now added.0.is_open_archive), added.1)

pub returns-in-Err-pass-clause-step : goal.returns-in-Err-pass-clause-step
returns-in-Err-pass-clause-step g c = λ clean a t up.
    let first = state g.S.Store c.args.store.now.conn in
    let clean_3 = c.rollback-undone.ensures.lasts.disk_was_clean clean in
    let clean_2 = c.commit-committed.ensures.ends.remains_open.disk_was_clean clean_3 in
    let begun = c.begin-begun.ensures.held (c.add_some.ensures.ends.remains_open.disk_was_clean clean_2) t.is_open_archive in
    let added = c.in-Ok.ensures.step clean_2 first.now a (begun_taken (state g.S.Store c.begin-begun.new.conn) c.in_ok-pass.ensures.passed begun t) in
    let error = err_from_is_err_and c.commit-committed.result c.in-Err-pass.ensures.passed in
    let failed = rw error.1 at c.commit-committed.ensures.held in
    let back = c.rollback-undone.ensures.left clean first.now
    (held_or_back first.now (state g.S.Store c.add_some.new.store.conn) (state g.S.Store c.commit-committed.new.conn) (failed clean_3 first.now added.0.is_open_archive)) up in
    (back.0, archive_stays back.1 ∙ t.archive_is)

pub returns-in-Err-clause-step : goal.returns-in-Err-clause-step
returns-in-Err-clause-step g c = λ clean a t up.
    let first = state g.S.Store c.args.store.now.conn in
    let clean_2 = c.rollback-undone-in-Err.ensures.lasts.disk_was_clean clean in
    let begun = c.begin-begun.ensures.held (c.add_some.ensures.ends.remains_open.disk_was_clean clean_2) t.is_open_archive in
    let there = begun_taken (state g.S.Store c.begin-begun.new.conn) c.in_ok-pass.ensures.passed begun t in
    let back = c.rollback-undone-in-Err.ensures.left clean first.now (c.in-Err.ensures.step clean_2 first.now a there) up in
    (back.0, archive_stays back.1 ∙ t.archive_is)

-- ---- how it ends

pub returns-in_err-pass-clause-ends : goal.returns-in_err-pass-clause-ends
returns-in_err-pass-clause-ends g c = record {
  remains_open = c.begin-begun.ensures.ends.remains_open;
  refusals_counted = search rules;
  fault_has_cause = λ clean free a t.
      passed_on c.from_residual.result c.in_err-pass.field-0.0 _ c.from_residual.ensures.1
      (λ it. inl (blame_disk (state g.S.Store c.args.store.now.conn) (state g.S.Store c.begin-begun.new.conn) c.begin-begun.result c.in_err-pass.field-0.0 c.in_err-pass.ensures.passed
      (c.begin-begun.ensures.ends.fault_has_cause clean t.is_open_archive.is_open t.is_open_archive.autocommit) it));
}

pub returns-in-Ok-pass-clause-ends : goal.returns-in-Ok-pass-clause-ends
returns-in-Ok-pass-clause-ends g c =
    let lasts = lasts_then _ _ _ (lasts_then _ _ _ c.begin-begun.ensures.ends.remains_open c.add_some.ensures.ends.remains_open) c.commit-committed.ensures.ends.remains_open in
    search rules

pub returns-in-Err-pass-clause-ends : goal.returns-in-Err-pass-clause-ends
returns-in-Err-pass-clause-ends g c = record {
  remains_open = lasts_then _ _ _ (lasts_then _ _ _ (lasts_then _ _ _ c.begin-begun.ensures.ends.remains_open c.add_some.ensures.ends.remains_open)
      c.commit-committed.ensures.ends.remains_open) c.rollback-undone.ensures.lasts;
  refusals_counted = search rules;
  fault_has_cause = λ clean free a t it.
      let first = state g.S.Store c.args.store.now.conn in
      let clean_3 = c.rollback-undone.ensures.lasts.disk_was_clean clean in
      let clean_2 = c.commit-committed.ensures.ends.remains_open.disk_was_clean clean_3 in
      let begun = c.begin-begun.ensures.held (c.add_some.ensures.ends.remains_open.disk_was_clean clean_2) t.is_open_archive in
      let added = c.in-Ok.ensures.step clean_2 first.now a (begun_taken (state g.S.Store c.begin-begun.new.conn) c.in_ok-pass.ensures.passed begun t) in
      let more = blame_disk (state g.S.Store c.add_some.new.store.conn) (state g.S.Store c.commit-committed.new.conn) c.commit-committed.result _ c.in-Err-pass.ensures.passed
      (c.commit-committed.ensures.ends.fault_has_cause clean_3 added.0.is_open_archive.is_open added.0.is_open_archive.autocommit) it in
      inl (omega (
        arith,
        more,
        c.begin-begun.ensures.ends.remains_open.closes_only_by_fault.faults_never_fall,
        c.add_some.ensures.ends.remains_open.closes_only_by_fault.faults_never_fall,
        c.rollback-undone.ensures.lasts.closes_only_by_fault.faults_never_fall,
      ));
}

pub returns-in-Err-clause-ends : goal.returns-in-Err-clause-ends
returns-in-Err-clause-ends g c =
    let whole = lasts_then _ _ _ (lasts_then _ _ _ c.begin-begun.ensures.ends.remains_open c.add_some.ensures.ends.remains_open) c.rollback-undone-in-Err.ensures.lasts in record {
      remains_open = whole;
      refusals_counted = search rules;
      fault_has_cause = λ clean free a t it.
          let Refuses : Database → Type 0 = RowsRefuseAnItem c.args.additions.now.list.now (drop c.args.from c.args.additions.now.items.now) in
          let first = state g.S.Store c.args.store.now.conn in
          let clean_2 = c.rollback-undone-in-Err.ensures.lasts.disk_was_clean clean in
          let clean_1 = c.add_some.ensures.ends.remains_open.disk_was_clean clean_2 in
          let begun = state g.S.Store c.begin-begun.new.conn in
          let there = begun_taken begun c.in_ok-pass.ensures.passed (c.begin-begun.ensures.held clean_1 t.is_open_archive) t in
          let same = saw_same first begun c.in_ok-pass.ensures.passed (c.begin-begun.ensures.ends.same_database clean_1) in
          let back = c.rollback-undone-in-Err.ensures.left clean first.now (c.in-Err.ensures.step clean_2 first.now a there) in
          elim (c.in-Err.ensures.ends.fault_has_cause first.now clean_2 (c.begin-begun.ensures.ends.remains_open.step_limit_is_same ∙ free) a there it) [
            | inl more ↦ inl (omega (
              arith,
              more,
              c.begin-begun.ensures.ends.remains_open.closes_only_by_fault.faults_never_fall,
              c.rollback-undone-in-Err.ensures.lasts.closes_only_by_fault.faults_never_fall,
            ))
            | inr stops ↦ left_or_failed first (state g.S.Store c.rollback-undone-in-Err.new.conn) Refuses whole clean t.is_open_archive.is_open (λ up. (back up).1) (subst Refuses same stops)
          ];
    }

-- ---- what a stop leaves

pub returns-in_err-pass-clause-crash : goal.returns-in_err-pass-clause-crash
returns-in_err-pass-clause-crash g c = λ a t clean db may. inl (c.begin-begun.ensures.ends.crash_adds_nothing clean db may)

pub returns-in-Ok-pass-clause-crash : goal.returns-in-Ok-pass-clause-crash
returns-in-Ok-pass-clause-crash g c = λ a t clean db may.
    let first = state g.S.Store c.args.store.now.conn in
    let clean_2 = c.commit-committed.ensures.ends.remains_open.disk_was_clean clean in
    let begun = c.begin-begun.ensures.held (c.add_some.ensures.ends.remains_open.disk_was_clean clean_2) t.is_open_archive in
    let there = begun_taken (state g.S.Store c.begin-begun.new.conn) c.in_ok-pass.ensures.passed begun t in
    let quiet = quiet_then g.S.Store c.args.store.now.conn c.begin-begun.new.conn c.add_some.new.store.conn c.begin-begun.ensures.ends.crash_adds_nothing
    c.add_some.ensures.ends.remains_open.disk_was_clean (c.add_some.ensures.quiet first.now a there) in
    let added = c.in-Ok.ensures.step clean_2 first.now a there in
    none_or_whole g.S.Store c.args.store.now.conn c.add_some.new.store.conn c.commit-committed.new.conn c.args.additions.now.items.now c.in-Ok.at quiet added.0
    (record { at_least_from = c.in-Ok.ensures.came.1; at_most_to = c.in-Ok.ensures.came.2; reaches_end_or_limit = added.1 })
    c.commit-committed.ensures.ends.remains_open.disk_was_clean c.commit-committed.ensures.ends.crash clean db may

pub returns-in-Err-pass-clause-crash : goal.returns-in-Err-pass-clause-crash
returns-in-Err-pass-clause-crash g c = λ a t clean db may.
    let first = state g.S.Store c.args.store.now.conn in
    let clean_3 = c.rollback-undone.ensures.lasts.disk_was_clean clean in
    let clean_2 = c.commit-committed.ensures.ends.remains_open.disk_was_clean clean_3 in
    let begun = c.begin-begun.ensures.held (c.add_some.ensures.ends.remains_open.disk_was_clean clean_2) t.is_open_archive in
    let there = begun_taken (state g.S.Store c.begin-begun.new.conn) c.in_ok-pass.ensures.passed begun t in
    let quiet = quiet_then g.S.Store c.args.store.now.conn c.begin-begun.new.conn c.add_some.new.store.conn c.begin-begun.ensures.ends.crash_adds_nothing
    c.add_some.ensures.ends.remains_open.disk_was_clean (c.add_some.ensures.quiet first.now a there) in
    let added = c.in-Ok.ensures.step clean_2 first.now a there in
    none_or_whole g.S.Store c.args.store.now.conn c.add_some.new.store.conn c.commit-committed.new.conn c.args.additions.now.items.now c.in-Ok.at quiet added.0
    (record { at_least_from = c.in-Ok.ensures.came.1; at_most_to = c.in-Ok.ensures.came.2; reaches_end_or_limit = added.1 })
    c.commit-committed.ensures.ends.remains_open.disk_was_clean c.commit-committed.ensures.ends.crash clean_3 db (c.rollback-undone.ensures.ends.crash_adds_nothing clean db may)

pub returns-in-Err-clause-crash : goal.returns-in-Err-clause-crash
returns-in-Err-clause-crash g c = λ a t clean db may.
    let first = state g.S.Store c.args.store.now.conn in
    let clean_2 = c.rollback-undone-in-Err.ensures.lasts.disk_was_clean clean in
    let begun = c.begin-begun.ensures.held (c.add_some.ensures.ends.remains_open.disk_was_clean clean_2) t.is_open_archive in
    let there = begun_taken (state g.S.Store c.begin-begun.new.conn) c.in_ok-pass.ensures.passed begun t in
    let quiet = quiet_then g.S.Store c.args.store.now.conn c.begin-begun.new.conn c.add_some.new.store.conn c.begin-begun.ensures.ends.crash_adds_nothing
    c.add_some.ensures.ends.remains_open.disk_was_clean (c.add_some.ensures.quiet first.now a there) in
    inl (quiet clean_2 db (c.rollback-undone-in-Err.ensures.ends.crash_adds_nothing clean db may))
