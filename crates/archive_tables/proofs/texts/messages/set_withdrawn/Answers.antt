use Rattle.std.proofs.Common.{w64, ap, ◌∙◌}
use Rattle.std.proofs.lemmas.Int.{to_z-of_z}
use Rattle.sqlite.specs.declared.types.Value.TheVariants.{Int}
use Rattle.archive_tables.proofs.UpdateLemmas.{withdraws}
use Rattle.archive_tables.proofs.WriteLemmas.{writes}
use Rattle.archive_tables.proofs.texts.messages.set_withdrawn.Goals as goal

pub returns : goal.returns
returns g c =
    let number = c.params-to_sql-3.ensures ∙ ap Int (to_z-of_z w64 c.args.by c.ranges.by) in
    writes (withdraws c.args.list.now c.args.key.now c.args.by) c.execute.result c.execute.ensures.survives c.execute.ensures.runs
    (rw (c.params-to_sql.ensures, c.params-to_sql-2.ensures, number))
