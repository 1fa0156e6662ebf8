use Rattle.archive_store.proofs.StateLemmas.{ends}
use Rattle.archive_store.proofs.state.StoreArchiveStore.lists.Goals as goal

pub returns-clause-ends : goal.returns-clause-ends
returns-clause-ends g c = ends g.S.Store c.args.self.now c.lists.new.self _ c.lists.result _ c.lists.ensures.ends
