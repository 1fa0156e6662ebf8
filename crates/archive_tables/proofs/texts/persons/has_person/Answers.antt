use Rattle.std.proofs.Common.{ap}
use Rattle.std.specs.Prelude.{not}
use Rattle.archive_tables.proofs.PersonLemmas.{has_name}
use Rattle.archive_tables.proofs.AskLemmas.{of_archive, whether, fails}
use Rattle.archive_tables.proofs.texts.persons.has_person.Goals as goal

pub returns : goal.returns
returns g c =
    of_archive (whether (has_name c.args.name.now) c.query_all.result c.query_all.ensures.survives c.query_all.ensures.ok c.query_all.ensures.err (rw c.params-to_sql.ensures)
    c.in_ok-rows.rows c.in_ok-rows.ensures.ok (ap not c.is_empty.ensures))

pub returns-in_err-rows : goal.returns-in_err-rows
returns-in_err-rows g c =
    of_archive (fails (has_name c.args.name.now) c.query_all.result c.query_all.ensures.survives c.query_all.ensures.ok c.query_all.ensures.err (rw c.params-to_sql.ensures)
    c.in_err-rows.field-0.0 c.from_residual.ensures.1 c.in_err-rows.ensures.err)
