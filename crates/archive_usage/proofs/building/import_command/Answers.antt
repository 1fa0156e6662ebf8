use Rattle.std.proofs.Common.{codes}
use Rattle.archive_usage.specs.Program.{import_app, database_app, with_positional}
use Rattle.archive_usage.proofs.building.import_command.Goals as goal

pub returns : goal.returns
unfolding import_app
returns c =
    let command = database_app (codes "import") in
    c.with_word-2.ensures (with_positional command (codes "list")) (c.in_ok-listed.ensures command c.in_ok-command.ensures)
