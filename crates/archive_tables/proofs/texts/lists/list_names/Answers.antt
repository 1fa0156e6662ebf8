use Rattle.std.proofs.Common.{refl}
use Rattle.archive_tables.proofs.NamesLemmas.{all_names}
use Rattle.archive_tables.proofs.AskLemmas.{of_archive, rows_answer}
use Rattle.archive_tables.proofs.texts.lists.list_names.Goals as goal

pub returns : goal.returns
returns g c =
    of_archive (rows_answer (all_names) c.query_all.result c.query_all.ensures.survives c.query_all.ensures.ok c.query_all.ensures.err (refl) (λ rows it. it))
