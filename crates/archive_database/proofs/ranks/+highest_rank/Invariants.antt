use Rattle.std.proofs.Common.{length}
use Rattle.archive_database.proofs.ranks.+highest_rank.Given as goal

abbrev pub decreases-highest_rank : goal.decreases-highest_rank
decreases-highest_rank l = length l.grants.now
