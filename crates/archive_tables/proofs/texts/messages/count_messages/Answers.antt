use Rattle.std.proofs.Common.{◌∙◌}
use Rattle.archive_tables.proofs.MailboxLemmas.{count}
use Rattle.archive_tables.proofs.AskLemmas.{of_archive, answers, fails}
use Rattle.archive_tables.proofs.texts.messages.count_messages.Goals as goal

pub returns : goal.returns
returns g c =
    of_archive (answers (count c.args.list.now) c.query_all.result c.query_all.ensures.survives c.query_all.ensures.ok c.query_all.ensures.err (rw c.params-to_sql.ensures)
    c.in_ok-rows.rows.items c.in_ok-rows.ensures.ok (λ it. c.len.ensures ∙ c.in_ok-rows.rows.ok.0 ∙ it))

pub returns-in_err-rows : goal.returns-in_err-rows
returns-in_err-rows g c =
    of_archive (fails (count c.args.list.now) c.query_all.result c.query_all.ensures.survives c.query_all.ensures.ok c.query_all.ensures.err (rw c.params-to_sql.ensures)
    c.in_err-rows.field-0.0 c.from_residual.ensures.1 c.in_err-rows.ensures.err)
