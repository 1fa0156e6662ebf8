use Rattle.archive_usage.specs.Program.{export_app}
use Rattle.archive_usage.proofs.building.export_command.Goals as goal

pub returns : goal.returns
unfolding export_app
returns c = c.ask_command.ensures
