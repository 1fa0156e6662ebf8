use Rattle.std.proofs.Common.{[], ◌∷◌}
use Rattle.archive_tables.specs.Schema.{schema_with_grants, schema_with_messages}
use Rattle.archive_tables.specs.Statements.{create_message_statement}
use Rattle.archive_database.proofs.StepsLemmas.{Creating, creates, then_leads, done, fails}
use Rattle.archive_database.proofs.making.make_second.Goals as goal

pub returns-in_err-create_grant_table : goal.returns-in_err-create_grant_table
returns-in_err-create_grant_table g c =
    let grant = c.in_err-create_grant_table.ensures in
    let all = fails (Creating schema_with_messages) (creates schema_with_grants grant.ends grant.made grant.quiet) (create_message_statement ∷ []) c.from_residual.result c.from_residual.ensures.1 in
    record { made = all.made; stopped = all.stopped; quiet = all.quiet; ends = all.ends }

pub returns-in_err-create_message_table : goal.returns-in_err-create_message_table
returns-in_err-create_message_table g c =
    let grant = c.in_ok-create_grant_table.ensures in
    let message = c.in_err-create_message_table.ensures in
    let exit = c.from_residual-in_err-create_message_table in
    let all = then_leads (creates schema_with_grants grant.ends grant.made grant.quiet)
    (fails (Creating schema_with_messages) (creates schema_with_messages message.ends message.made message.quiet) [] exit.result exit.ensures.1) in
    record { made = all.made; stopped = all.stopped; quiet = all.quiet; ends = all.ends }

pub returns : goal.returns
returns g c =
    let grant = c.in_ok-create_grant_table.ensures in
    let message = c.in_ok-create_message_table.ensures in
    let all = then_leads (creates schema_with_grants grant.ends grant.made grant.quiet) (done (creates schema_with_messages message.ends message.made message.quiet)) in
    record { made = all.made; stopped = all.stopped; quiet = all.quiet; ends = all.ends }
