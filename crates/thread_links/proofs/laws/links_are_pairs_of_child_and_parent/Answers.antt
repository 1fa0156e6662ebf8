use Rattle.thread_links.proofs.PairLemmas.{parent_of_pair}
use Rattle.thread_links.proofs.laws.links_are_pairs_of_child_and_parent.Goals as goal

pub returns-clause-back : goal.returns-clause-back
returns-clause-back c = parent_of_pair
