use Rattle.archive_usage.specs.Program.{lift_app}
use Rattle.archive_usage.proofs.building.lift_command.Goals as goal

pub returns : goal.returns
unfolding lift_app
returns c = c.message_command.ensures
