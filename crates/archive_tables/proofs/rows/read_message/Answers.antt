use Rattle.std.proofs.Common.{rules, ◌≡◌}
use Rattle.archive_model.specs.Records.{Message}
use Rattle.archive_tables.specs.Rows.{message_result_row, IsTextReadError}
use Rattle.archive_tables.proofs.ReadLemmas.{first_fault}
use Rattle.archive_tables.proofs.rows.read_message.Goals as goal

pub returns-in_err-get-clause-fault : goal.returns-in_err-get-clause-fault
returns-in_err-get-clause-fault c =
    let fault : (m : Message) → c.args.row.now ≡ message_result_row m → IsTextReadError m.key c.in_err-get.field-0.0 =
    λ m is. first_fault c.args.row.now c.in_err-get.field-0.0 c.in_err-get.ensures.named c.in_err-get.ensures.kind c.in_err-get.ensures.which m.key _ is in
    search rules
