use Rattle.std.proofs.Common.{codes}
use Rattle.archive_usage.specs.Program.{message_app, withdraw_app}
use Rattle.archive_usage.proofs.building.withdraw_command.Goals as goal

pub returns : goal.returns
unfolding withdraw_app
returns c = c.with_word.ensures (message_app (codes "withdraw")) c.in_ok-command.ensures
