use Rattle.std.proofs.Common.{[], ◌∷◌}
use Rattle.archive_tables.specs.Schema.{schema_with_month_index, schema_1}
use Rattle.archive_tables.specs.Statements.{create_author_index_statement}
use Rattle.archive_database.proofs.StepsLemmas.{Creating, creates, then_leads, done, fails}
use Rattle.archive_database.proofs.making.make_indexes.Goals as goal

pub returns-in_err-create_month_index : goal.returns-in_err-create_month_index
returns-in_err-create_month_index g c =
    let month = c.in_err-create_month_index.ensures in
    let all = fails (Creating schema_1) (creates schema_with_month_index month.ends month.made month.quiet) (create_author_index_statement ∷ []) c.from_residual.result c.from_residual.ensures.1 in
    record { made = all.made; stopped = all.stopped; quiet = all.quiet; ends = all.ends }

pub returns-in_err-create_author_index : goal.returns-in_err-create_author_index
returns-in_err-create_author_index g c =
    let month = c.in_ok-create_month_index.ensures in
    let author = c.in_err-create_author_index.ensures in
    let exit = c.from_residual-in_err-create_author_index in
    let all = then_leads (creates schema_with_month_index month.ends month.made month.quiet)
    (fails (Creating schema_1) (creates schema_1 author.ends author.made author.quiet) [] exit.result exit.ensures.1) in
    record { made = all.made; stopped = all.stopped; quiet = all.quiet; ends = all.ends }

pub returns : goal.returns
returns g c =
    let month = c.in_ok-create_month_index.ensures in
    let author = c.in_ok-create_author_index.ensures in
    let all = then_leads (creates schema_with_month_index month.ends month.made month.quiet) (done (creates schema_1 author.ends author.made author.quiet)) in
    record { made = all.made; stopped = all.stopped; quiet = all.quiet; ends = all.ends }
