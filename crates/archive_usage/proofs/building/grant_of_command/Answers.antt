use Rattle.std.proofs.Common.{codes}
use Rattle.archive_usage.specs.Program.{database_app, with_positional}
use Rattle.archive_usage.proofs.building.grant_of_command.Goals as goal

pub returns : goal.returns
returns c =
    let command = database_app c.args.name.now in
    let named = with_positional command (codes "person") in
    c.with_word-3.ensures (with_positional named (codes "list"))
    (c.in_ok-listed.ensures named (c.in_ok-named.ensures command c.in_ok-command.ensures))
