use Rattle.std.proofs.Common.{subst, inl}
use Rattle.sqlite.specs.Held.{state}
use Rattle.sqlite.specs.Schema.{Schema}
use Rattle.archive_tables.specs.Tables.{archive_of_version}
use Rattle.archive_tables.specs.Making.{IsInTransactionWithSchema}
use Rattle.archive_tables.specs.Statements.{IsAnyStatementRefused, migration_statements}
use Rattle.archive_database.proofs.CauseLemmas.{adds_then}
use Rattle.archive_database.proofs.StepsLemmas.{begin_fails, undone_ends, all_done}
use Rattle.archive_database.proofs.making.bring_over.Goals as goal

pub returns-in-Err-clause-back : goal.returns-in-Err-clause-back
returns-in-Err-clause-back g c = λ clean older idle schema.
    let first = state g.S.Store c.args.conn.now in
    let clean_2 = c.rollback-back.ensures.lasts.disk_was_clean clean in
    let within = c.in_ok-begin.ensures.within (c.in-Err.ensures.ends.remains_open.disk_was_clean clean_2) in
    let stopped = c.in-Err.ensures.stopped clean_2 older first.committed (subst (λ (s : Schema). IsInTransactionWithSchema (state g.S.Store c.begin.new.conn) first.committed s) schema within) in
    rw idle.committed_is_now at (c.rollback-back.ensures.back clean first.committed stopped)

pub returns-clause-moved : goal.returns-clause-moved
returns-clause-moved g c = λ clean older kept.
    let first = state g.S.Store c.args.conn.now in
    c.in_default.ensures.moved clean older first.now (archive_of_version c.args.number first.now.trees)
    (c.in_ok-begin.ensures.moving (c.in_default.ensures.ends.remains_open.disk_was_clean clean) c.args.number kept)

-- ---- what a stop of the machine leaves

pub returns-in_err-begin-clause-crash : goal.returns-in_err-begin-clause-crash
returns-in_err-begin-clause-crash g c = λ older kept clean db may. inl (c.begin.ensures.ends.crash_adds_nothing clean db may)

pub returns-in-Err-clause-crash : goal.returns-in-Err-clause-crash
returns-in-Err-clause-crash g c = λ older kept clean db may.
    adds_then g.S.Store c.args.conn.now c.begin.new.conn c.move_tables.new.conn _ c.begin.ensures.ends.crash_adds_nothing c.move_tables.ensures.ends.remains_open.disk_was_clean
    (λ clean. c.move_tables.ensures.crash older _ _ (c.in_ok-begin.ensures.moving clean c.args.number kept))
    (c.rollback-back.ensures.lasts.disk_was_clean clean) db (c.rollback-back.ensures.ends.crash_adds_nothing clean db may)

pub returns-clause-crash : goal.returns-clause-crash
returns-clause-crash g c = λ older kept.
    adds_then g.S.Store c.args.conn.now c.begin.new.conn c.move_tables.new.conn _ c.begin.ensures.ends.crash_adds_nothing c.move_tables.ensures.ends.remains_open.disk_was_clean
    (λ clean. c.move_tables.ensures.crash older _ _ (c.in_ok-begin.ensures.moving clean c.args.number kept))

-- ---- how it ends

pub returns-in_err-begin-clause-ends : goal.returns-in_err-begin-clause-ends
returns-in_err-begin-clause-ends g c = begin_fails _ _ c.in_err-begin.ensures.ends (λ s it. it.1) c.from_residual.result c.from_residual.ensures.1

pub returns-in-Err-clause-ends : goal.returns-in-Err-clause-ends
returns-in-Err-clause-ends g c =
    let committed = (state g.S.Store c.args.conn.now).committed in
    undone_ends _ _ c.in_ok-begin.ensures.ends c.in-Err.ensures.ends c.rollback-back.ensures.lasts
    (λ clean it. (it.0, subst (λ (s : Schema). IsInTransactionWithSchema (state g.S.Store c.begin.new.conn) committed s) it.2 (c.in_ok-begin.ensures.within clean)))
    (λ clean it refused. subst (IsAnyStatementRefused (migration_statements c.args.number)) (c.in_ok-begin.ensures.ends.same_database clean) refused) c.from.result c.from.ensures

pub returns-clause-ends : goal.returns-clause-ends
returns-clause-ends g c = all_done _ _ c.in_ok-begin.ensures.ends _ c.in_default.ensures.ends
