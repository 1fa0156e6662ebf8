use Rattle.archive_usage.specs.Program.{empty_app}
use Rattle.archive_usage.proofs.building.table_command.Goals as goal

pub returns : goal.returns
returns c = c.with_needed.ensures (empty_app c.args.name.now) c.new_command-command.ensures
