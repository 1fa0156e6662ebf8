use Rattle.std.proofs.Common.{ap, sym, ◌∙◌, rules}
use Rattle.std.specs.Prelude.{Some, option_map}
use Rattle.archive_model.specs.Records.{Person}
use Rattle.archive_tables.proofs.PersonLemmas.{holder}
use Rattle.archive_tables.proofs.CauseLemmas.{text_unread}
use Rattle.archive_tables.proofs.AskLemmas.{of_archive, fails, finds, finds_none, finds_unread}
use Rattle.archive_tables.proofs.texts.persons.person_of_token.Goals as goal

pub returns-in_err-rows : goal.returns-in_err-rows
returns-in_err-rows g c =
    of_archive (fails (holder c.args.token.now) c.query_all.result c.query_all.ensures.survives c.query_all.ensures.ok c.query_all.ensures.err (rw c.params-to_sql.ensures)
    c.in_err-rows.field-0.0 c.from_residual.ensures.1 c.in_err-rows.ensures.err)

pub returns-in_err-read_name-in-Some : goal.returns-in_err-read_name-in-Some
returns-in_err-read_name-in-Some g c =
    let it = c.in_err-read_name-in-Some in
    of_archive (finds_unread (holder c.args.token.now) c.query_all.result c.query_all.ensures.survives c.query_all.ensures.ok c.query_all.ensures.err (rw c.params-to_sql.ensures)
    c.in_ok-rows.rows.items c.in_ok-rows.ensures.ok c.in-Some.row.now (search rules) it.field-0.0 c.from_residual-in_err-read_name-in-Some.ensures.1
    (λ p is shown. text_unread (λ (p : Person). p.name) _ p it.field-0.0 is (it.ensures.fault p.name shown)))

pub returns-in-Some : goal.returns-in-Some
returns-in-Some g c =
    of_archive (finds (holder c.args.token.now) c.query_all.result c.query_all.ensures.survives c.query_all.ensures.ok c.query_all.ensures.err (rw c.params-to_sql.ensures)
    c.in_ok-rows.rows.items c.in_ok-rows.ensures.ok c.in-Some.row.now (search rules) (λ p is shown.
    ap Some (c.in_ok-read_name-in-Some.ensures.read p.name shown) ∙ sym (ap (option_map (λ (p : Person). p.name)) is)))

pub returns : goal.returns
returns g c =
    of_archive (finds_none (holder c.args.token.now) c.query_all.result c.query_all.ensures.survives c.query_all.ensures.ok c.query_all.ensures.err (rw c.params-to_sql.ensures)
    c.in_ok-rows.rows.items c.in_ok-rows.ensures.ok (search rules) (λ none. sym (ap (option_map (λ (p : Person). p.name)) none)))
