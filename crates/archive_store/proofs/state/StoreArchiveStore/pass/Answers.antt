use Rattle.archive_store.proofs.StateLemmas.{passes}
use Rattle.archive_store.proofs.state.StoreArchiveStore.pass.Goals as goal

pub returns-clause-passed : goal.returns-clause-passed
returns-clause-passed g c = passes g.S.Store c.args.walk.now c.pass.new.self c.pass.ensures.passed
