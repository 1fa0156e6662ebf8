use Rattle.std.proofs.Common.{codes}
use Rattle.archive_usage.specs.Program.{reader_query_app, get_app}
use Rattle.archive_usage.proofs.building.get_command.Goals as goal

pub returns : goal.returns
unfolding get_app
returns c = c.with_word.ensures (reader_query_app (codes "get")) c.in_ok-command.ensures
