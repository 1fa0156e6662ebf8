use Rattle.std.proofs.Common.{codes}
use Rattle.archive_usage.specs.Program.{policy_app, with_option}
use Rattle.archive_usage.proofs.building.ask_command.Goals as goal

pub returns : goal.returns
returns c =
    let command = policy_app c.args.name.now in
    c.with_word.ensures (with_option command (codes "person")) (c.in_ok-asked.ensures command c.in_ok-command.ensures)
