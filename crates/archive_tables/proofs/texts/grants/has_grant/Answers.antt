use Rattle.std.proofs.Common.{w64, ap, ◌∙◌}
use Rattle.std.proofs.lemmas.Int.{to_z-of_z}
use Rattle.std.specs.Prelude.{not}
use Rattle.sqlite.specs.declared.types.Value.TheVariants.{Int}
use Rattle.archive_tables.proofs.GrantLemmas.{has_grant}
use Rattle.archive_tables.proofs.AskLemmas.{of_archive, whether, fails}
use Rattle.archive_tables.proofs.texts.grants.has_grant.Goals as goal

pub returns : goal.returns
returns g c =
    let rank = c.params-to_sql-3.ensures ∙ ap Int (to_z-of_z w64 c.args.rank c.ranges.rank) in
    of_archive (whether (has_grant c.args.person.now c.args.list.now c.args.rank) c.query_all.result c.query_all.ensures.survives c.query_all.ensures.ok c.query_all.ensures.err
    (rw (c.params-to_sql.ensures, c.params-to_sql-2.ensures, rank)) c.in_ok-rows.rows c.in_ok-rows.ensures.ok (ap not c.is_empty.ensures))

pub returns-in_err-rows : goal.returns-in_err-rows
returns-in_err-rows g c =
    let rank = c.params-to_sql-3.ensures ∙ ap Int (to_z-of_z w64 c.args.rank c.ranges.rank) in
    of_archive (fails (has_grant c.args.person.now c.args.list.now c.args.rank) c.query_all.result c.query_all.ensures.survives c.query_all.ensures.ok c.query_all.ensures.err
    (rw (c.params-to_sql.ensures, c.params-to_sql-2.ensures, rank)) c.in_err-rows.field-0.0 c.from_residual.ensures.1 c.in_err-rows.ensures.err)
