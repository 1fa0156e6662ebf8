use Rattle.std.proofs.Common.{◌≡◌, [], map, refl}
use Rattle.sqlite_resolve.specs.Compile.{first}
use Rattle.sqlite_tied.specs.Compute.{everything}
use Rattle.archive_tables.specs.Rows.{rowid_result_row}
use Rattle.archive_tables.specs.Listed.{all_rowids}
use Rattle.archive_tables.proofs.ListedLemmas.{places_text, all_found, none_found, none_found_caused}
use Rattle.archive_tables.proofs.AskLemmas.{Question, rows_answer}
use Rattle.archive_tables.proofs.texts.checking.all_rowids.Goals as goal

asked : Question places_text ([]) (λ db rows. rows ≡ map rowid_result_row (all_rowids db))
unfolding first everything
asked = record {
  asks = tt;
  tells = λ behind old new k rows h. all_found old new k rows h;
  rests = λ behind old new k e h. none_found old new k e h;
  caused = λ behind old new k e h free. none_found_caused old new k e h free;
}

pub returns : goal.returns
returns g c =
    rows_answer (asked) c.query_all.result c.query_all.ensures.survives c.query_all.ensures.ok c.query_all.ensures.err (refl) (λ rows it. it)
