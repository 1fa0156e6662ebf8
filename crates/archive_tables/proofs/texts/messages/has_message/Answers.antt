use Rattle.std.proofs.Common.{ap}
use Rattle.std.specs.Prelude.{not}
use Rattle.sqlite.specs.Held.{state}
use Rattle.archive_tables.specs.Calls.{IsMemoryOrDiskError}
use Rattle.archive_tables.proofs.MailboxLemmas.{has}
use Rattle.archive_tables.proofs.CauseLemmas.{carried}
use Rattle.archive_tables.proofs.AskLemmas.{of_archive, within_too, whether, fails}
use Rattle.archive_tables.proofs.texts.messages.has_message.Goals as goal

pub returns : goal.returns
returns g c =
    within_too (of_archive (whether (has c.args.list.now c.args.key.now) c.query_all.result c.query_all.ensures.survives c.query_all.ensures.ok c.query_all.ensures.err
    (rw (c.params-to_sql.ensures, c.params-to_sql-2.ensures)) c.in_ok-rows.rows c.in_ok-rows.ensures.ok (ap not c.is_empty.ensures))) (λ clean behind k free. tt)

pub returns-in_err-rows : goal.returns-in_err-rows
returns-in_err-rows g c =
    let old = state g.S.Store c.args.conn.now in
    let new = state g.S.Store c.query_all.new.self in
    let error = c.in_err-rows.field-0.0 in
    within_too (of_archive (fails (has c.args.list.now c.args.key.now) c.query_all.result c.query_all.ensures.survives c.query_all.ensures.ok c.query_all.ensures.err
    (rw (c.params-to_sql.ensures, c.params-to_sql-2.ensures))
    error c.from_residual.ensures.1 c.in_err-rows.ensures.err)) (λ clean behind k free. carried c.from_residual.result error (IsMemoryOrDiskError old new) c.from_residual.ensures.1
    ((has c.args.list.now c.args.key.now).caused behind old new k error (rw (c.params-to_sql.ensures, c.params-to_sql-2.ensures) at (c.in_err-rows.ensures.err clean)) free))
