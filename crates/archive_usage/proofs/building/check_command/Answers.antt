use Rattle.archive_usage.specs.Program.{check_app}
use Rattle.archive_usage.proofs.building.check_command.Goals as goal

pub returns : goal.returns
unfolding check_app
returns c = c.table_command.ensures
