use Rattle.std.proofs.Common.{inl}
use Rattle.sqlite.specs.Held.{state}
use Rattle.archive_tables.proofs.RefusedLemmas.{never_unmade}
use Rattle.archive_database.proofs.CauseLemmas.{adds_then}
use Rattle.archive_database.proofs.StepsLemmas.{begin_fails, undone_ends, all_done}
use Rattle.archive_database.proofs.making.make_tables.Goals as goal

pub returns-in-Err-clause-back : goal.returns-in-Err-clause-back
returns-in-Err-clause-back g c = λ clean none idle.
    let first = state g.S.Store c.args.conn.now in
    let clean_2 = c.rollback-undone.ensures.lasts.disk_was_clean clean in
    let making = c.in_ok-begin.ensures.begun (c.in-Err.ensures.ends.remains_open.disk_was_clean clean_2) none in
    rw idle.committed_is_now at (c.rollback-undone.ensures.back clean first.committed (c.in-Err.ensures.stopped clean_2 first.committed making))

pub returns-in-Err-clause-undone : goal.returns-in-Err-clause-undone
returns-in-Err-clause-undone g c = λ clean none up.
    let first = state g.S.Store c.args.conn.now in
    let clean_2 = c.rollback-undone.ensures.lasts.disk_was_clean clean in
    let making = c.in_ok-begin.ensures.begun (c.in-Err.ensures.ends.remains_open.disk_was_clean clean_2) none in
    (c.rollback-undone.ensures.back clean first.committed (c.in-Err.ensures.stopped clean_2 first.committed making) up).1

pub returns-clause-made : goal.returns-clause-made
returns-clause-made g c = λ clean none.
    c.in_default.ensures.kept clean (state g.S.Store c.args.conn.now).committed (c.in_ok-begin.ensures.begun (c.in_default.ensures.ends.remains_open.disk_was_clean clean) none)

-- ---- what a stop of the machine leaves

pub returns-in_err-begin-clause-crash : goal.returns-in_err-begin-clause-crash
returns-in_err-begin-clause-crash g c = λ none clean db may. inl (c.begin.ensures.ends.crash_adds_nothing clean db may)

pub returns-in-Err-clause-crash : goal.returns-in-Err-clause-crash
returns-in-Err-clause-crash g c = λ none clean db may.
    adds_then g.S.Store c.args.conn.now c.begin.new.conn c.fill.new.conn _ c.begin.ensures.ends.crash_adds_nothing c.fill.ensures.ends.remains_open.disk_was_clean
    (λ clean. c.fill.ensures.crash _ (c.in_ok-begin.ensures.begun clean none)) (c.rollback-undone.ensures.lasts.disk_was_clean clean) db
    (c.rollback-undone.ensures.ends.crash_adds_nothing clean db may)

pub returns-clause-crash : goal.returns-clause-crash
returns-clause-crash g c = λ none.
    adds_then g.S.Store c.args.conn.now c.begin.new.conn c.fill.new.conn _ c.begin.ensures.ends.crash_adds_nothing c.fill.ensures.ends.remains_open.disk_was_clean
    (λ clean. c.fill.ensures.crash _ (c.in_ok-begin.ensures.begun clean none))

-- ---- how it ends

pub returns-in_err-begin-clause-ends : goal.returns-in_err-begin-clause-ends
returns-in_err-begin-clause-ends g c = begin_fails _ _ c.in_err-begin.ensures.ends (λ s it. it.0) c.from_residual.result c.from_residual.ensures.1

pub returns-in-Err-clause-ends : goal.returns-in-Err-clause-ends
returns-in-Err-clause-ends g c = undone_ends _ _ c.in_ok-begin.ensures.ends c.in-Err.ensures.ends c.rollback-undone.ensures.lasts (λ clean it. c.in_ok-begin.ensures.begun clean it.1)
    (λ clean it refused. never_unmade (state g.S.Store c.begin.new.conn).now (c.in_ok-begin.ensures.begun clean it.1).schema_is refused) c.from.result c.from.ensures

pub returns-clause-ends : goal.returns-clause-ends
returns-clause-ends g c = all_done _ _ c.in_ok-begin.ensures.ends _ c.in_default.ensures.ends
