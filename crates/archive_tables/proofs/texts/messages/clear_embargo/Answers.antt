use Rattle.archive_tables.proofs.UpdateLemmas.{clears}
use Rattle.archive_tables.proofs.WriteLemmas.{writes}
use Rattle.archive_tables.proofs.texts.messages.clear_embargo.Goals as goal

pub returns : goal.returns
returns g c =
    writes (clears c.args.list.now c.args.key.now) c.execute.result c.execute.ensures.survives c.execute.ensures.runs
    (rw (c.params-to_sql.ensures, c.params-to_sql-2.ensures))
