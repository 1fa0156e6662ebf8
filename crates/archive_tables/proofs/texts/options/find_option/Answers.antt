use Rattle.std.proofs.Common.{ap, sym, ◌∙◌, rules, inl}
use Rattle.std.specs.Prelude.{Some, option_map}
use Rattle.archive_model.specs.Records.{ListOption}
use Rattle.archive_tables.proofs.OptionLemmas.{find_option}
use Rattle.archive_tables.proofs.AskLemmas.{of_archive, fails, finds, finds_none, finds_unread}
use Rattle.archive_tables.proofs.texts.options.find_option.Goals as goal

pub returns-in_err-rows : goal.returns-in_err-rows
returns-in_err-rows g c =
    of_archive (fails (find_option c.args.list.now) c.query_all.result c.query_all.ensures.survives c.query_all.ensures.ok c.query_all.ensures.err (rw c.params-to_sql.ensures)
    c.in_err-rows.field-0.0 c.from_residual.ensures.1 c.in_err-rows.ensures.err)

pub returns-in_err-read_merges_by_subject-in-Some : goal.returns-in_err-read_merges_by_subject-in-Some
returns-in_err-read_merges_by_subject-in-Some g c =
    let it = c.in_err-read_merges_by_subject-in-Some in
    of_archive (finds_unread (find_option c.args.list.now) c.query_all.result c.query_all.ensures.survives c.query_all.ensures.ok c.query_all.ensures.err (rw c.params-to_sql.ensures)
    c.in_ok-rows.rows.items c.in_ok-rows.ensures.ok c.in-Some.row.now (search rules) it.field-0.0 c.from_residual-in_err-read_merges_by_subject-in-Some.ensures.1
    (λ o is shown. inl (it.ensures.fault o shown)))

pub returns-in-Some : goal.returns-in-Some
returns-in-Some g c =
    of_archive (finds (find_option c.args.list.now) c.query_all.result c.query_all.ensures.survives c.query_all.ensures.ok c.query_all.ensures.err (rw c.params-to_sql.ensures)
    c.in_ok-rows.rows.items c.in_ok-rows.ensures.ok c.in-Some.row.now (search rules) (λ o is shown.
    ap Some (c.in_ok-read_merges_by_subject-in-Some.ensures.read o shown) ∙ sym (ap (option_map (λ (o : ListOption). o.merge)) is)))

pub returns : goal.returns
returns g c =
    of_archive (finds_none (find_option c.args.list.now) c.query_all.result c.query_all.ensures.survives c.query_all.ensures.ok c.query_all.ensures.err (rw c.params-to_sql.ensures)
    c.in_ok-rows.rows.items c.in_ok-rows.ensures.ok (search rules) (λ none. sym (ap (option_map (λ (o : ListOption). o.merge)) none)))
