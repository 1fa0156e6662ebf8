use Rattle.std.proofs.Common.{◌≡◌, ℤ, [], ◌∷◌, w64, ap, ◌∙◌}
use Rattle.std.proofs.lemmas.Int.{to_z-of_z}
use Rattle.std.specs.Prelude.{slice_get, option_map}
use Rattle.sqlite.specs.declared.types.Value.TheVariants.{Int}
use Rattle.sqlite_resolve.specs.Compile.{first}
use Rattle.sqlite_tied.specs.Compute.{everything}
use Rattle.archive_tables.specs.Listed.{filed_at, indexed_result_row}
use Rattle.archive_tables.proofs.ListedLemmas.{filed_text, filed_found, not_filed, not_filed_caused}
use Rattle.archive_tables.proofs.AskLemmas.{Question, rows_answer}
use Rattle.archive_tables.proofs.texts.checking.filed_at.Goals as goal

asked : (place : ℤ) → Question filed_text (Int place ∷ []) (λ db rows. slice_get rows 0 ≡ option_map indexed_result_row (filed_at db place))
unfolding first everything
asked place = record {
  asks = tt;
  tells = λ behind old new k rows h. filed_found old new k place rows h;
  rests = λ behind old new k e h. not_filed old new k place e h;
  caused = λ behind old new k e h free. not_filed_caused old new k place e h free;
}

pub returns : goal.returns
returns g c =
    let number = c.params-to_sql.ensures ∙ ap Int (to_z-of_z w64 c.args.place c.ranges.place) in
    rows_answer (asked c.args.place) c.query_all.result c.query_all.ensures.survives c.query_all.ensures.ok c.query_all.ensures.err (rw number) (λ rows it. it)
