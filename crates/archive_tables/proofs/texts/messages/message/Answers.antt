use Rattle.std.proofs.Common.{ap, sym, subst, ◌∙◌, rules, inl}
use Rattle.std.proofs.lemmas.Bool.{and_parts}
use Rattle.std.specs.Prelude.{◌≡◌, Some, IsUtf8}
use Rattle.archive_model.specs.Questions.{is_message_at_key}
use Rattle.archive_tables.specs.Rows.{message_from_result_row}
use Rattle.archive_tables.proofs.SelectLemmas.{equal_words, found_passes}
use Rattle.archive_tables.proofs.MailboxLemmas.{one}
use Rattle.archive_tables.proofs.CauseLemmas.{good_text_unread}
use Rattle.archive_tables.proofs.AskLemmas.{of_archive, fails, finds, finds_none, finds_unread}
use Rattle.archive_tables.proofs.texts.messages.message.Goals as goal

pub returns-in_err-rows : goal.returns-in_err-rows
returns-in_err-rows g c =
    of_archive (fails (one c.args.list.now c.args.key.now) c.query_all.result c.query_all.ensures.survives c.query_all.ensures.ok c.query_all.ensures.err
    (rw (c.params-to_sql.ensures, c.params-to_sql-2.ensures)) c.in_err-rows.field-0.0 c.from_residual.ensures.1 c.in_err-rows.ensures.err)

pub returns-in_err-read_message-in-Some : goal.returns-in_err-read_message-in-Some
returns-in_err-read_message-in-Some g c =
    let it = c.in_err-read_message-in-Some in
    of_archive (finds_unread (one c.args.list.now c.args.key.now) c.query_all.result c.query_all.ensures.survives c.query_all.ensures.ok c.query_all.ensures.err
    (rw (c.params-to_sql.ensures, c.params-to_sql-2.ensures))
    c.in_ok-rows.rows.items c.in_ok-rows.ensures.ok c.in-Some.row.now (search rules) it.field-0.0 c.from_residual-in_err-read_message-in-Some.ensures.1
    (λ m is shown.
    let same = equal_words m.key c.args.key.now (and_parts _ _ (found_passes (is_message_at_key c.args.list.now c.args.key.now) _ m is)).1 in
    inl (good_text_unread m.key it.field-0.0 (subst IsUtf8 (sym same) c.utf8.key) (it.ensures.fault m shown))))

pub returns-in-Some : goal.returns-in-Some
returns-in-Some g c =
    of_archive (finds (one c.args.list.now c.args.key.now) c.query_all.result c.query_all.ensures.survives c.query_all.ensures.ok c.query_all.ensures.err
    (rw (c.params-to_sql.ensures, c.params-to_sql-2.ensures)) c.in_ok-rows.rows.items c.in_ok-rows.ensures.ok c.in-Some.row.now (search rules) (λ m is shown.
    let same : m.list ≡ c.args.list.now = equal_words m.list c.args.list.now (and_parts _ _ (found_passes (is_message_at_key c.args.list.now c.args.key.now) _ m is)).0 in
    ap Some (ap (λ l. message_from_result_row l c.in_ok-read_message-in-Some.field-0) (sym same) ∙ c.in_ok-read_message-in-Some.ensures.read m shown) ∙ sym is))

pub returns : goal.returns
returns g c =
    of_archive (finds_none (one c.args.list.now c.args.key.now) c.query_all.result c.query_all.ensures.survives c.query_all.ensures.ok c.query_all.ensures.err
    (rw (c.params-to_sql.ensures, c.params-to_sql-2.ensures)) c.in_ok-rows.rows.items c.in_ok-rows.ensures.ok (search rules) (λ none. sym none))
