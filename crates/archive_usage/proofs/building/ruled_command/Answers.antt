use Rattle.std.proofs.Common.{codes}
use Rattle.archive_usage.specs.Program.{database_app, with_required_option}
use Rattle.archive_usage.proofs.building.ruled_command.Goals as goal

pub returns : goal.returns
returns c =
    let command = database_app c.args.name.now in
    c.with_option.ensures (with_required_option command (codes "policy")) (c.in_ok-ruled.ensures command c.in_ok-command.ensures)
