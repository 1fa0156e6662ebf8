use Rattle.archive_tables.proofs.ListedLemmas.{walked_all}
use Rattle.archive_tables.proofs.laws.a_walk_shows_each_message_of_all_lists.Goals as goal

pub returns : goal.returns
returns c = walked_all
