use Rattle.std.proofs.Common.{inl, inr, ap, subst, ◌∙◌}
use Rattle.sqlite.specs.Held.{state}
use Rattle.archive_model.specs.Records.{Archive}
use Rattle.sqlite.specs.Effect.{Database}
use Rattle.archive_tables.specs.Tables.{archive_of}
use Rattle.archive_tables.proofs.CrashLemmas.{adds_as}
use Rattle.archive_tables.proofs.EndLemmas.{archive_stays}
use Rattle.archive_database.specs.Lists.{archive_with_list, IsListRefused}
use Rattle.archive_database.proofs.CauseLemmas.{adds_then, caused_between, by_cause, fails_by}
use Rattle.archive_database.proofs.lists.add_list.Goals as goal

pub returns-in-Err-clause-added : goal.returns-in-Err-clause-added
returns-in-Err-clause-added g c = λ clean kept up.
    let first = state g.S.Store c.args.conn.now in
    let clean_2 = c.rollback-undone.ensures.lasts.disk_was_clean clean in
    let begun = c.in_ok-begin.ensures.held (c.in-Err.ensures.lasts.disk_was_clean clean_2) kept in
    c.rollback-undone.ensures.left clean first.now (c.in-Err.ensures.written clean_2 first.now begun.0) up

pub returns-clause-added : goal.returns-clause-added
returns-clause-added g c = λ clean kept.
    let first = state g.S.Store c.args.conn.now in
    let begun = c.in_ok-begin.ensures.held (c.in_default.ensures.lasts.disk_was_clean clean) kept in
    let it = c.in_default.ensures.written clean first.now begun.0 in
    (it.0, it.1 ∙ ap (λ (a : Archive). archive_with_list a c.args.name.now) (archive_stays begun.1))

-- ---- why it fails

pub returns-in_err-begin-clause-caused : goal.returns-in_err-begin-clause-caused
returns-in_err-begin-clause-caused g c = λ clean kept free.
    fails_by (state g.S.Store c.args.conn.now) (state g.S.Store c.begin.new.conn) c.from_residual.result c.in_err-begin.field-0.0 _ c.from_residual.ensures.1
    (inl (c.in_err-begin.ensures.ends.fault_has_cause clean kept.is_open kept.autocommit))

pub returns-in-Err-clause-caused : goal.returns-in-Err-clause-caused
returns-in-Err-clause-caused g c = λ clean kept free.
    let first = state g.S.Store c.args.conn.now in
    let begun = state g.S.Store c.begin.new.conn in
    let stopped = state g.S.Store c.write_list.new.conn in
    let last = state g.S.Store c.rollback-undone.new.conn in
    let error = c.in-Err.error in
    let clean_2 = c.rollback-undone.ensures.lasts.disk_was_clean clean in
    let clean_1 = c.in-Err.ensures.lasts.disk_was_clean clean_2 in
    let held = c.in_ok-begin.ensures.held clean_1 kept in
    let same = c.in_ok-begin.ensures.ends.same_database clean_1 in
    let why = c.in-Err.ensures.caused clean_2 first.now held.0 (c.begin.ensures.ends.remains_open.step_limit_is_same ∙ free) in
    by_cause first last error c.from.result _ c.from.ensures
    (elim why [
      | inl cause ↦ inl (caused_between first begun stopped last error c.begin.ensures.ends.remains_open c.rollback-undone.ensures.lasts cause)
      | inr refused ↦ inr (subst (λ (d : Database). IsListRefused c.args.name.now d) same refused)
    ])

-- ---- what a stop of the machine leaves

pub returns-in_err-begin-clause-crash : goal.returns-in_err-begin-clause-crash
returns-in_err-begin-clause-crash g c = λ kept clean x may. inl (c.begin.ensures.ends.crash_adds_nothing clean x may)

pub returns-in-Err-clause-crash : goal.returns-in-Err-clause-crash
returns-in-Err-clause-crash g c = λ kept clean x may.
    let first = state g.S.Store c.args.conn.now in
    adds_then g.S.Store c.args.conn.now c.begin.new.conn c.write_list.new.conn _ c.begin.ensures.ends.crash_adds_nothing c.write_list.ensures.lasts.disk_was_clean (λ clean.
    let held = c.in_ok-begin.ensures.held clean kept in
    adds_as g.S.Store c.begin.new.conn c.write_list.new.conn _ (archive_with_list (archive_of first) c.args.name.now)
    (ap (λ (a : Archive). archive_with_list a c.args.name.now) (archive_stays held.1)) (c.write_list.ensures.crash first.now held.0))
    (c.rollback-undone.ensures.lasts.disk_was_clean clean) x (c.rollback-undone.ensures.ends.crash_adds_nothing clean x may)

pub returns-clause-crash : goal.returns-clause-crash
returns-clause-crash g c = λ kept.
    let first = state g.S.Store c.args.conn.now in
    adds_then g.S.Store c.args.conn.now c.begin.new.conn c.write_list.new.conn _ c.begin.ensures.ends.crash_adds_nothing c.write_list.ensures.lasts.disk_was_clean (λ clean.
    let held = c.in_ok-begin.ensures.held clean kept in
    adds_as g.S.Store c.begin.new.conn c.write_list.new.conn _ (archive_with_list (archive_of first) c.args.name.now)
    (ap (λ (a : Archive). archive_with_list a c.args.name.now) (archive_stays held.1)) (c.write_list.ensures.crash first.now held.0))
