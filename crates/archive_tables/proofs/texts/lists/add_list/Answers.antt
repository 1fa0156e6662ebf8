use Rattle.archive_tables.proofs.ListLemmas.{added}
use Rattle.archive_tables.proofs.WriteLemmas.{writes}
use Rattle.archive_tables.proofs.texts.lists.add_list.Goals as goal

pub returns : goal.returns
returns g c =
    writes (added c.args.name.now) c.execute.result c.execute.ensures.survives c.execute.ensures.runs
    (rw c.params-to_sql.ensures)
