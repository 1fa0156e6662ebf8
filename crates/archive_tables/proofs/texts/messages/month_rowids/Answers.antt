use Rattle.std.proofs.Common.{◌≡◌, ℕ, ℤ, List, [], ◌∷◌, map, w64, ap, ◌∙◌}
use Rattle.std.proofs.lemmas.Int.{to_z-of_z}
use Rattle.sqlite.specs.declared.types.Value.TheVariants.{Text, Int}
use Rattle.sqlite_resolve.specs.Compile.{first}
use Rattle.sqlite_tied.specs.Compute.{everything}
use Rattle.archive_tables.specs.Rows.{month_rowids, rowid_result_row}
use Rattle.archive_tables.proofs.FiledLemmas.{month_text, month_found, no_month, no_month_caused}
use Rattle.archive_tables.proofs.AskLemmas.{Question, rows_answer}
use Rattle.archive_tables.proofs.texts.messages.month_rowids.Goals as goal

asked : (list : List ℕ) (month : ℤ) → Question month_text (Text list ∷ Int month ∷ []) (λ db rows. rows ≡ map rowid_result_row (month_rowids db list month))
unfolding first everything
asked list month = record {
  asks = tt;
  tells = λ behind old new k rows h. month_found old new k list month rows h;
  rests = λ behind old new k e h. no_month old new k list month e h;
  caused = λ behind old new k e h free. no_month_caused old new k list month e h free;
}

pub returns : goal.returns
returns g c =
    let number = c.params-to_sql-2.ensures ∙ ap Int (to_z-of_z w64 c.args.month c.ranges.month) in
    rows_answer (asked c.args.list.now c.args.month) c.query_all.result c.query_all.ensures.survives c.query_all.ensures.ok c.query_all.ensures.err
    (rw (c.params-to_sql.ensures, number)) (λ rows it. it)
