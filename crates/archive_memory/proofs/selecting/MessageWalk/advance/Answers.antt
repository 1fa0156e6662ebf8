use Rattle.archive_memory.proofs.WalkLemmas.{drop_next}
use Rattle.archive_memory.proofs.selecting.MessageWalk.advance.Goals as goal

pub returns-then-self-len-clause-passed : goal.returns-then-self-len-clause-passed
returns-then-self-len-clause-passed c = drop_next c.args.self.now.places.items c.args.self.now.at
