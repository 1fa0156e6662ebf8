use Rattle.std.proofs.Common.{codes}
use Rattle.archive_usage.specs.Program.{list_add_app, database_app}
use Rattle.archive_usage.proofs.building.list_add_command.Goals as goal

pub returns : goal.returns
unfolding list_add_app
returns c = c.with_word.ensures (database_app (codes "list-add")) c.in_ok-command.ensures
