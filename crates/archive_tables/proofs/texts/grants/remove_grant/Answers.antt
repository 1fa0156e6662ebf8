use Rattle.std.proofs.Common.{w64, ap, ◌∙◌}
use Rattle.std.proofs.lemmas.Int.{to_z-of_z}
use Rattle.sqlite.specs.declared.types.Value.TheVariants.{Int}
use Rattle.archive_tables.proofs.GrantLemmas.{removed}
use Rattle.archive_tables.proofs.WriteLemmas.{writes}
use Rattle.archive_tables.proofs.texts.grants.remove_grant.Goals as goal

pub returns : goal.returns
returns g c =
    let rank = c.params-to_sql-3.ensures ∙ ap Int (to_z-of_z w64 c.args.rank c.ranges.rank) in
    writes (removed c.args.person.now c.args.list.now c.args.rank) c.execute.result c.execute.ensures.survives c.execute.ensures.runs
    (rw (c.params-to_sql.ensures, c.params-to_sql-2.ensures, rank))
