use Rattle.std.proofs.Common.{w64, ap, rules, SFits, ◌∙◌}
use Rattle.std.proofs.lemmas.Int.{to_z-of_z}
use Rattle.sqlite.specs.declared.types.Value.TheVariants.{Int}
use Rattle.archive_tables.specs.Rows.{model_index_columns}
use Rattle.archive_tables.proofs.MessageLemmas.{added}
use Rattle.archive_tables.proofs.WriteLemmas.{writes}
use Rattle.archive_tables.proofs.texts.messages.add_message.Goals as goal

pub returns : goal.returns
returns g c =
    let m = c.args.message.now in
    let columns = c.args.columns.now in
    let fits : SFits w64 m.arrival × SFits w64 columns.sent × SFits w64 columns.month = search rules in
    let number = c.params-to_sql-4.ensures ∙ ap Int (to_z-of_z w64 m.arrival fits.0) in
    let date = c.params-to_sql-6.ensures ∙ ap Int (to_z-of_z w64 columns.sent fits.1) in
    let month = c.params-to_sql-7.ensures ∙ ap Int (to_z-of_z w64 columns.month fits.2) in
    writes (added c.args.list.now m.key.now m.sender.now m.arrival m.text.now (model_index_columns columns))
    c.execute.result c.execute.ensures.survives c.execute.ensures.runs
    (rw (c.params-to_sql.ensures, c.params-to_sql-2.ensures, c.params-to_sql-3.ensures, number, c.params-to_sql-5.ensures, date, month, c.params-to_sql-8.ensures))
