use Rattle.std.proofs.Common.{codes}
use Rattle.archive_usage.specs.Program.{grant_app, grant_target_app, with_positional}
use Rattle.archive_usage.proofs.building.grant_command.Goals as goal

pub returns : goal.returns
unfolding grant_app
returns c =
    let command = grant_target_app (codes "grant") in
    c.with_word-2.ensures (with_positional command (codes "from")) (c.in_ok-from.ensures command c.in_ok-command.ensures)
