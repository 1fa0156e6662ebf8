use Rattle.std.proofs.Common.{w64, ap, ◌∙◌}
use Rattle.std.proofs.lemmas.Int.{to_z-of_z}
use Rattle.sqlite.specs.declared.types.Value.TheVariants.{Int}
use Rattle.archive_tables.proofs.GrantLemmas.{added}
use Rattle.archive_tables.proofs.WriteLemmas.{writes}
use Rattle.archive_tables.proofs.texts.grants.add_grant.Goals as goal

pub returns : goal.returns
returns g c =
    let rank = c.params-to_sql-3.ensures ∙ ap Int (to_z-of_z w64 c.args.rank c.ranges.rank) in
    let from = c.params-to_sql-4.ensures ∙ ap Int (to_z-of_z w64 c.args.from_day c.ranges.from_day) in
    let until = c.params-to_sql-5.ensures ∙ ap Int (to_z-of_z w64 c.args.until_day c.ranges.until_day) in
    writes (added (record { person = c.args.person.now; list = c.args.list.now; rank = c.args.rank; from_day = c.args.from_day; until_day = c.args.until_day }))
    c.execute.result c.execute.ensures.survives c.execute.ensures.runs (rw (c.params-to_sql.ensures, c.params-to_sql-2.ensures, rank, from, until))
