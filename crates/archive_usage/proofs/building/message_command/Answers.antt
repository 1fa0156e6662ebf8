use Rattle.std.proofs.Common.{codes}
use Rattle.archive_usage.specs.Program.{database_app, with_positional}
use Rattle.archive_usage.proofs.building.message_command.Goals as goal

pub returns : goal.returns
returns c =
    let command = database_app c.args.name.now in
    c.with_word-2.ensures (with_positional command (codes "list")) (c.in_ok-listed.ensures command c.in_ok-command.ensures)
