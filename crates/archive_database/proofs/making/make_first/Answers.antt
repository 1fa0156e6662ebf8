use Rattle.std.proofs.Common.{[], ◌∷◌}
use Rattle.archive_tables.specs.Schema.{schema_with_version_table, schema_with_lists, schema_with_persons}
use Rattle.archive_tables.specs.Statements.{create_list_statement, create_person_statement}
use Rattle.archive_database.proofs.StepsLemmas.{Creating, creates, then_leads, done, fails}
use Rattle.archive_database.proofs.making.make_first.Goals as goal

pub returns-in_err-create_version_table : goal.returns-in_err-create_version_table
returns-in_err-create_version_table g c =
    let version = c.in_err-create_version_table.ensures in
    let all = fails (Creating schema_with_persons) (creates schema_with_version_table version.ends version.made version.quiet) (create_list_statement ∷ create_person_statement ∷ [])
    c.from_residual.result c.from_residual.ensures.1 in
    record { made = all.made; stopped = all.stopped; quiet = all.quiet; ends = all.ends }

pub returns-in_err-create_list_table : goal.returns-in_err-create_list_table
returns-in_err-create_list_table g c =
    let version = c.in_ok-create_version_table.ensures in
    let list = c.in_err-create_list_table.ensures in
    let exit = c.from_residual-in_err-create_list_table in
    let all = then_leads (creates schema_with_version_table version.ends version.made version.quiet)
    (fails (Creating schema_with_persons) (creates schema_with_lists list.ends list.made list.quiet) (create_person_statement ∷ []) exit.result exit.ensures.1) in
    record { made = all.made; stopped = all.stopped; quiet = all.quiet; ends = all.ends }

pub returns-in_err-create_person_table : goal.returns-in_err-create_person_table
returns-in_err-create_person_table g c =
    let version = c.in_ok-create_version_table.ensures in
    let list = c.in_ok-create_list_table.ensures in
    let person = c.in_err-create_person_table.ensures in
    let exit = c.from_residual-in_err-create_person_table in
    let all = then_leads (creates schema_with_version_table version.ends version.made version.quiet) (then_leads (creates schema_with_lists list.ends list.made list.quiet)
    (fails (Creating schema_with_persons) (creates schema_with_persons person.ends person.made person.quiet) [] exit.result exit.ensures.1)) in
    record { made = all.made; stopped = all.stopped; quiet = all.quiet; ends = all.ends }

pub returns : goal.returns
returns g c =
    let version = c.in_ok-create_version_table.ensures in
    let list = c.in_ok-create_list_table.ensures in
    let person = c.in_ok-create_person_table.ensures in
    let all = then_leads (creates schema_with_version_table version.ends version.made version.quiet) (then_leads (creates schema_with_lists list.ends list.made list.quiet)
    (done (creates schema_with_persons person.ends person.made person.quiet))) in
    record { made = all.made; stopped = all.stopped; quiet = all.quiet; ends = all.ends }
