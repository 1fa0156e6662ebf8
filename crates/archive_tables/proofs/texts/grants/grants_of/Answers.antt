use Rattle.archive_tables.proofs.GrantLemmas.{grants_of}
use Rattle.archive_tables.proofs.AskLemmas.{of_archive, rows_answer}
use Rattle.archive_tables.proofs.texts.grants.grants_of.Goals as goal

pub returns : goal.returns
returns g c =
    of_archive (rows_answer (grants_of c.args.person.now c.args.list.now) c.query_all.result c.query_all.ensures.survives c.query_all.ensures.ok c.query_all.ensures.err
    (rw (c.params-to_sql.ensures, c.params-to_sql-2.ensures)) (λ rows it. it.are))
