use Rattle.std.proofs.Common.{◌≡◌, ℕ, List, [], ◌∷◌, map}
use Rattle.sqlite.specs.declared.types.Value.TheVariants.{Text}
use Rattle.sqlite_resolve.specs.Compile.{first}
use Rattle.sqlite_tied.specs.Compute.{everything}
use Rattle.archive_tables.specs.Rows.{message_rowids_in, rowid_result_row}
use Rattle.archive_tables.proofs.WalkLemmas.{places_text, places_found, no_places, no_places_caused}
use Rattle.archive_tables.proofs.AskLemmas.{Question, rows_answer}
use Rattle.archive_tables.proofs.texts.messages.places.Goals as goal

asked : (list : List ℕ) → Question places_text (Text list ∷ []) (λ db rows. rows ≡ map rowid_result_row (message_rowids_in db list))
unfolding first everything
asked list = record {
  asks = tt;
  tells = λ behind old new k rows h. places_found old new k list rows h;
  rests = λ behind old new k e h. no_places old new k list e h;
  caused = λ behind old new k e h free. no_places_caused old new k list e h free;
}

pub returns : goal.returns
returns g c =
    rows_answer (asked c.args.list.now) c.query_all.result c.query_all.ensures.survives c.query_all.ensures.ok c.query_all.ensures.err (rw c.params-to_sql.ensures) (λ rows it. it)
