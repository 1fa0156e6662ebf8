use Rattle.archive_memory.proofs.WalkLemmas.{passes}
use Rattle.archive_memory.proofs.state.MemoryArchiveArchiveStore.pass.Goals as goal

pub returns-clause-passed : goal.returns-clause-passed
returns-clause-passed c = passes c.args.walk.now c.advance.new.self c.advance.ensures.passed
