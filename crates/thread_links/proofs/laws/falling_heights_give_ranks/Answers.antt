use Rattle.thread_links.proofs.RankLemmas.{ranked}
use Rattle.thread_links.proofs.laws.falling_heights_give_ranks.Goals as goal

pub returns : goal.returns
returns c = ranked
