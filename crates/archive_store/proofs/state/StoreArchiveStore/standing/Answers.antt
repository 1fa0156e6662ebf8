use Rattle.archive_store.proofs.StateLemmas.{ends}
use Rattle.archive_store.proofs.state.StoreArchiveStore.standing.Goals as goal

pub returns-clause-ends : goal.returns-clause-ends
returns-clause-ends g c = ends g.S.Store c.args.self.now c.standing.new.self _ c.standing.result _ c.standing.ensures.ends
