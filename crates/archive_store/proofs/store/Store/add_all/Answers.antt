use Rattle.std.proofs.Common.{◌≤◌, rules, arith, refl, sym, ◌∙◌, None, inl, inr, take}
use Rattle.sqlite.specs.Held.{state}
use Rattle.archive_tables.specs.Tables.{archive_of}
use Rattle.archive_port.specs.Replies.{refusal_of_fault}
use Rattle.archive_store.proofs.BatchLemmas.{counted_at, none_added, first_taken}
use Rattle.archive_store.specs.Held.{memory_refusal_count}
use Rattle.archive_store.proofs.AskLemmas.{counts_later}
use Rattle.archive_store.proofs.FindLemmas.{is_listed, not_counted, more_since}
use Rattle.archive_tables.proofs.LastLemmas.{lasts_then}
use Rattle.archive_model.specs.Runs.{taken}
use Rattle.archive_store.proofs.RunLemmas.{run_nothing}
use Rattle.archive_store.proofs.CrashLemmas.{added_crash, asked_safe, broken_crash, stays_safe}
use Rattle.archive_port.specs.declared.faults.StoreFault.TheVariants as faults
use Rattle.archive_store.proofs.store.Store.add_all.Goals as goal

pub returns-in-Err-clause-step : goal.returns-in-Err-clause-step
returns-in-Err-clause-step g c = λ clean kept.
    let first = state g.S.Store c.args.self.now.conn in
    let now = state g.S.Store c.count.new.self.conn in
    none_added (refusal_of_fault c.in-Err.fault) first now c.args.list.now c.args.items.now (not_counted first first now c.args.list.now (refusal_of_fault c.in-Err.fault) refl
    (c.in-Err.ensures.same clean kept) (c.in-Err.ensures.answer clean kept))

pub loop-done-init : goal.loop-done-init
loop-done-init g c = (
  omega arith,
  refl,
  (λ clean. c.in-Ok.ensures.ends.remains_open.disk_was_clean clean),
  (λ clean kept.
      let first = state g.S.Store c.args.self.now.conn in
      let now = state g.S.Store c.count.new.self.conn in
      let counted = c.in-Ok.ensures.answer clean kept in
      first_taken None now (archive_of first) c.args.list.now c.args.items.now c.in-Ok.count counted.0.0 counted.0.1
      (counted_at first now c.args.list.now (c.in-Ok.ensures.same clean) c.in-Ok.count (is_listed c.args.list.now (archive_of first) counted.1) (sym counted.2))),
  c.count.ensures.ends.remains_open,
  c.in-Ok.ensures.ends.was_open,
  c.in-Ok.ensures.ends.refusals_counted.0,
  (λ clean kept safe.
      let counted = c.in-Ok.ensures.answer clean kept in
      asked_safe g.S.Store c.args.self.now.conn c.count.new.self.conn (λ clean db may. (c.count.ensures.writes_nothing db (clean, may)).1) counted.0.1 clean safe),
)

pub loop-done-preserved : goal.loop-done-preserved
loop-done-preserved g c = (
  omega (arith, c.in-Ok-add_batch.ensures.came.2, c.batch_end-to.ensures.within),
  c.in-Ok-add_batch.ensures.came.0,
  (λ clean. c.loop-done.invariant.2 (c.add_batch.ensures.ends.remains_open.disk_was_clean clean)),
  (λ clean kept.
      let so_far = c.loop-done.invariant.3 (c.add_batch.ensures.ends.remains_open.disk_was_clean clean) kept in
      (c.in-Ok-add_batch.ensures.step clean (archive_of (state g.S.Store c.args.self.now.conn)) so_far).0),
  lasts_then _ _ _ c.loop-done.invariant.4 c.add_batch.ensures.ends.remains_open,
  (λ clean. c.loop-done.invariant.5 (c.add_batch.ensures.ends.remains_open.disk_was_clean clean)),
  omega (arith, c.loop-done.invariant.6, c.in-Ok-add_batch.ensures.ends.refusals_counted.0),
  (λ clean kept safe.
      let was = c.add_batch.ensures.ends.remains_open.disk_was_clean clean in
      let so_far = c.loop-done.invariant.3 was kept in
      let first = archive_of (state g.S.Store c.args.self.now.conn) in
      let step = c.in-Ok-add_batch.ensures.step clean first so_far in
      stays_safe g.S.Store c.loop-done.self.conn c.add_batch.new.store.conn (λ db up may. g.met.S.Store.settled c.add_batch.new.store.conn.store db up may) step.0.is_open_archive _
      (λ db it. ((taken first c.args.list.now (take it.0 c.args.items.now)).archive, it.2))
      (c.add_batch.ensures.crash first so_far) clean (c.loop-done.invariant.7 was kept safe)),
)

pub returns-in-Err-clause-ends : goal.returns-in-Err-clause-ends
returns-in-Err-clause-ends g c =
    let why = c.in-Err.ensures.ends.fault_has_cause in
    search rules

pub returns-then-at-to-clause-ends : goal.returns-then-at-to-clause-ends
returns-then-at-to-clause-ends g c =
    let lasts = lasts_then _ _ _ c.loop-done.invariant.4 c.add_batch.ensures.ends.remains_open in
    let counted : memory_refusal_count c.args.self.now ≤ memory_refusal_count c.add_batch.new.store = omega (arith, c.loop-done.invariant.6, c.in-Ok-add_batch.ensures.ends.refusals_counted.0) in
    search rules

pub returns-in-Err-add_batch-clause-ends : goal.returns-in-Err-add_batch-clause-ends
returns-in-Err-add_batch-clause-ends g c = record {
  remains_open = lasts_then _ _ _ c.loop-done.invariant.4 c.add_batch.ensures.ends.remains_open;
  was_open = λ clean. tt;
  refusal_is_possible = search rules;
  refusals_counted = counts_later c.loop-done.invariant.6 c.in-Err-add_batch.ensures.ends.refusals_counted;
  fault_has_cause = λ clean kept free it.
      let was = c.add_batch.ensures.ends.remains_open.disk_was_clean clean in
      let so_far = c.loop-done.invariant.3 was kept in
      let first = state g.S.Store c.args.self.now.conn in
      elim (c.in-Err-add_batch.ensures.ends.fault_has_cause clean (c.loop-done.invariant.4.step_limit_is_same ∙ free) (archive_of first) so_far it) [
        | inl more ↦ inl (more_since first (state g.S.Store c.loop-done.self.conn) (state g.S.Store c.add_batch.new.store.conn) c.loop-done.invariant.4 more)
        | inr stops ↦ inr stops
      ];
}

pub returns-clause-ends : goal.returns-clause-ends
returns-clause-ends g c =
    let lasts = c.loop-done.invariant.4 in
    let up = c.loop-done.invariant.5 in
    search rules

-- ---- what a stop leaves

pub returns-in-Err-clause-crash : goal.returns-in-Err-clause-crash
returns-in-Err-clause-crash g c = broken_crash g.S.Store c.args.self.now.conn c.count.new.self.conn c.args.list.now c.args.items.now (record { done = 0; fault = c.in-Err.fault })
    (λ clean kept safe db may.
    let first = archive_of (state g.S.Store c.args.self.now.conn) in
    (first, (0, omega arith, (omega arith, run_nothing first)), safe db (c.count.ensures.writes_nothing db (clean, may)).1))

pub returns-then-at-to-clause-crash : goal.returns-then-at-to-clause-crash
returns-then-at-to-clause-crash g c = broken_crash g.S.Store c.args.self.now.conn c.add_batch.new.store.conn c.args.list.now c.args.items.now
    (record { done = c.in-Ok-add_batch.at; fault = faults.ListFull }) (λ clean kept safe.
    let was = c.add_batch.ensures.ends.remains_open.disk_was_clean clean in
    let so_far = c.loop-done.invariant.3 was kept in
    let first = archive_of (state g.S.Store c.args.self.now.conn) in
    let step = c.in-Ok-add_batch.ensures.step clean first so_far in
    let last = stays_safe g.S.Store c.loop-done.self.conn c.add_batch.new.store.conn (λ db up may. g.met.S.Store.settled c.add_batch.new.store.conn.store db up may)
    step.0.is_open_archive _ (λ db it. ((taken first c.args.list.now (take it.0 c.args.items.now)).archive, it.2))
    (c.add_batch.ensures.crash first so_far) clean (c.loop-done.invariant.7 was kept safe) in
    λ db may. (
      archive_of (state g.S.Store c.add_batch.new.store.conn),
      (
        c.in-Ok-add_batch.at,
        omega arith,
        (omega (arith, c.in-Ok-add_batch.ensures.came.2, c.batch_end-to.ensures.within), step.0.archive_is),
      ),
      last db may,
    ))

pub returns-in-Err-add_batch-clause-crash : goal.returns-in-Err-add_batch-clause-crash
returns-in-Err-add_batch-clause-crash g c = broken_crash g.S.Store c.args.self.now.conn c.add_batch.new.store.conn c.args.list.now c.args.items.now
    (record { done = c.loop-done.done; fault = c.in-Err-add_batch.fault }) (λ clean kept safe db may.
    let was = c.add_batch.ensures.ends.remains_open.disk_was_clean clean in
    let so_far = c.loop-done.invariant.3 was kept in
    let first = archive_of (state g.S.Store c.args.self.now.conn) in
    elim (c.add_batch.ensures.crash first so_far clean db may) [
      | inl before ↦ (
        archive_of (state g.S.Store c.loop-done.self.conn),
        (c.loop-done.done, omega arith, (c.loop-done.invariant.0, so_far.archive_is)),
        c.loop-done.invariant.7 was kept safe db before,
      )
      | inr it ↦ ((taken first c.args.list.now (take it.0 c.args.items.now)).archive, (it.0, it.1.at_least_from, (omega (arith, it.1.at_most_to, c.batch_end-to.ensures.within), refl)), it.2)
    ])

pub returns-clause-crash : goal.returns-clause-crash
returns-clause-crash g c = added_crash g.S.Store c.args.self.now.conn c.loop-done.self.conn c.args.list.now c.args.items.now c.loop-done.report
    (λ clean kept. (c.loop-done.done, omega arith, (c.loop-done.invariant.0, (c.loop-done.invariant.3 clean kept).archive_is))) c.loop-done.invariant.7
