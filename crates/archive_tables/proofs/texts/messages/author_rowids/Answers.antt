use Rattle.std.proofs.Common.{◌≡◌, ℕ, List, [], ◌∷◌, map}
use Rattle.sqlite.specs.declared.types.Value.TheVariants.{Text, Blob}
use Rattle.sqlite_resolve.specs.Compile.{first}
use Rattle.sqlite_tied.specs.Compute.{everything}
use Rattle.archive_tables.specs.Rows.{author_rowids, rowid_result_row}
use Rattle.archive_tables.proofs.FiledLemmas.{author_text, author_found, no_author, no_author_caused}
use Rattle.archive_tables.proofs.AskLemmas.{Question, rows_answer}
use Rattle.archive_tables.proofs.texts.messages.author_rowids.Goals as goal

asked : (list key : List ℕ) → Question author_text (Text list ∷ Blob key ∷ []) (λ db rows. rows ≡ map rowid_result_row (author_rowids db list key))
unfolding first everything
asked list key = record {
  asks = tt;
  tells = λ behind old new k rows h. author_found old new k list key rows h;
  rests = λ behind old new k e h. no_author old new k list key e h;
  caused = λ behind old new k e h free. no_author_caused old new k list key e h free;
}

pub returns : goal.returns
returns g c =
    rows_answer (asked c.args.list.now c.args.key.now) c.query_all.result c.query_all.ensures.survives c.query_all.ensures.ok c.query_all.ensures.err
    (rw (c.params-to_sql.ensures, c.params-to_sql-2.ensures)) (λ rows it. it)
