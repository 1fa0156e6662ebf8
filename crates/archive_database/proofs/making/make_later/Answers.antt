use Rattle.std.proofs.Common.{[], ◌∷◌}
use Rattle.archive_tables.specs.Schema.{schema_2, archive_schema}
use Rattle.archive_tables.specs.Statements.{create_address_statement, insert_version_statement}
use Rattle.archive_tables.proofs.CrashLemmas.{making_within}
use Rattle.archive_database.proofs.StepsLemmas.{Creating, Ready, creates, one_leads, then_leads, done, fails}
use Rattle.archive_database.proofs.making.make_later.Goals as goal

pub returns-in_err-create_option_table : goal.returns-in_err-create_option_table
returns-in_err-create_option_table g c =
    let option = c.in_err-create_option_table.ensures in
    let all = fails Ready (creates schema_2 option.ends option.made option.quiet) (create_address_statement ∷ insert_version_statement ∷ []) c.from_residual.result c.from_residual.ensures.1 in
    record { made = all.made; stopped = all.stopped; quiet = all.quiet; ends = all.ends }

pub returns-in_err-create_address_table : goal.returns-in_err-create_address_table
returns-in_err-create_address_table g c =
    let option = c.in_ok-create_option_table.ensures in
    let address = c.in_err-create_address_table.ensures in
    let exit = c.from_residual-in_err-create_address_table in
    let all = then_leads (creates schema_2 option.ends option.made option.quiet)
    (fails Ready (creates archive_schema address.ends address.made address.quiet) (insert_version_statement ∷ []) exit.result exit.ensures.1) in
    record { made = all.made; stopped = all.stopped; quiet = all.quiet; ends = all.ends }

pub returns-in_err-add_version : goal.returns-in_err-add_version
returns-in_err-add_version g c =
    let option = c.in_ok-create_option_table.ensures in
    let address = c.in_ok-create_address_table.ensures in
    let version = c.in_err-add_version.ensures in
    let exit = c.from_residual-in_err-add_version in
    let all = then_leads (creates schema_2 option.ends option.made option.quiet) (then_leads (creates archive_schema address.ends address.made address.quiet)
    (fails Ready (one_leads (Creating archive_schema) Ready version.ends (λ before k. making_within _ before archive_schema k) version.made version.quiet) []
    exit.result exit.ensures.1)) in
    record { made = all.made; stopped = all.stopped; quiet = all.quiet; ends = all.ends }

pub returns : goal.returns
returns g c =
    let option = c.in_ok-create_option_table.ensures in
    let address = c.in_ok-create_address_table.ensures in
    let version = c.in_ok-add_version.ensures in
    let all = then_leads (creates schema_2 option.ends option.made option.quiet) (then_leads (creates archive_schema address.ends address.made address.quiet)
    (done (one_leads (Creating archive_schema) Ready version.ends (λ before k. making_within _ before archive_schema k) version.made version.quiet))) in
    record { made = all.made; stopped = all.stopped; quiet = all.quiet; ends = all.ends }
