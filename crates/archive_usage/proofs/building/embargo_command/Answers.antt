use Rattle.std.proofs.Common.{codes}
use Rattle.archive_usage.specs.Program.{embargo_app, message_app}
use Rattle.archive_usage.proofs.building.embargo_command.Goals as goal

pub returns : goal.returns
unfolding embargo_app
returns c = c.with_word.ensures (message_app (codes "embargo")) c.in_ok-command.ensures
