use Rattle.archive_usage.specs.Program.{with_command}
use Rattle.archive_usage.proofs.CommandLemmas.{with_subcommand_added}
use Rattle.archive_usage.proofs.building.with_command.Goals as goal

pub returns : goal.returns
unfolding with_command
returns c = with_subcommand_added c.in_ok-more.ensures
