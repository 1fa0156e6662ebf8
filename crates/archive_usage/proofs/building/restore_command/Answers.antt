use Rattle.archive_usage.specs.Program.{restore_app}
use Rattle.archive_usage.proofs.building.restore_command.Goals as goal

pub returns : goal.returns
unfolding restore_app
returns c = c.message_command.ensures
