use Rattle.archive_tables.proofs.PersonLemmas.{added}
use Rattle.archive_tables.proofs.WriteLemmas.{writes}
use Rattle.archive_tables.proofs.texts.persons.add_person.Goals as goal

pub returns : goal.returns
returns g c =
    writes (added (record { name = c.args.name.now; token = c.args.token.now })) c.execute.result c.execute.ensures.survives c.execute.ensures.runs
    (rw (c.params-to_sql.ensures, c.params-to_sql-2.ensures))
