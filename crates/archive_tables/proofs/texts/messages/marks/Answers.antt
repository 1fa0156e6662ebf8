use Rattle.std.proofs.Common.{ap, sym, ◌∙◌, rules, inl}
use Rattle.std.specs.Prelude.{Some, option_map}
use Rattle.archive_tables.specs.Rows.{decoded_dated_marks}
use Rattle.archive_tables.proofs.MailboxLemmas.{marks}
use Rattle.archive_tables.proofs.AskLemmas.{of_archive, fails, finds, finds_none, finds_unread}
use Rattle.archive_tables.proofs.texts.messages.marks.Goals as goal

pub returns-in_err-rows : goal.returns-in_err-rows
returns-in_err-rows g c =
    of_archive (fails (marks c.args.list.now c.args.key.now) c.query_all.result c.query_all.ensures.survives c.query_all.ensures.ok c.query_all.ensures.err
    (rw (c.params-to_sql.ensures, c.params-to_sql-2.ensures)) c.in_err-rows.field-0.0 c.from_residual.ensures.1 c.in_err-rows.ensures.err)

pub returns-in_err-read_dated_marks-in-Some : goal.returns-in_err-read_dated_marks-in-Some
returns-in_err-read_dated_marks-in-Some g c =
    let it = c.in_err-read_dated_marks-in-Some in
    of_archive (finds_unread (marks c.args.list.now c.args.key.now) c.query_all.result c.query_all.ensures.survives c.query_all.ensures.ok c.query_all.ensures.err
    (rw (c.params-to_sql.ensures, c.params-to_sql-2.ensures))
    c.in_ok-rows.rows.items c.in_ok-rows.ensures.ok c.in-Some.row.now (search rules) it.field-0.0 c.from_residual-in_err-read_dated_marks-in-Some.ensures.1
    (λ m is shown. inl (it.ensures.fault m shown)))

pub returns-in-Some : goal.returns-in-Some
returns-in-Some g c =
    of_archive (finds (marks c.args.list.now c.args.key.now) c.query_all.result c.query_all.ensures.survives c.query_all.ensures.ok c.query_all.ensures.err
    (rw (c.params-to_sql.ensures, c.params-to_sql-2.ensures)) c.in_ok-rows.rows.items c.in_ok-rows.ensures.ok c.in-Some.row.now (search rules) (λ m is shown.
    ap Some (c.in_ok-read_dated_marks-in-Some.ensures.read m shown) ∙ sym (ap (option_map decoded_dated_marks) is)))

pub returns : goal.returns
returns g c =
    of_archive (finds_none (marks c.args.list.now c.args.key.now) c.query_all.result c.query_all.ensures.survives c.query_all.ensures.ok c.query_all.ensures.err
    (rw (c.params-to_sql.ensures, c.params-to_sql-2.ensures)) c.in_ok-rows.rows.items c.in_ok-rows.ensures.ok (search rules) (λ none. sym (ap (option_map decoded_dated_marks) none)))
