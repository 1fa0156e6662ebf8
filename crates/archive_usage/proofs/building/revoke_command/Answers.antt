use Rattle.archive_usage.specs.Program.{revoke_app}
use Rattle.archive_usage.proofs.building.revoke_command.Goals as goal

pub returns : goal.returns
unfolding revoke_app
returns c = c.grant_of_command.ensures
