use Rattle.archive_tables.proofs.WalkLemmas.{walked}
use Rattle.archive_tables.proofs.laws.a_walk_shows_each_message.Goals as goal

pub returns : goal.returns
returns c = walked
