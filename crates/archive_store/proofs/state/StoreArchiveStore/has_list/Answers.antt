use Rattle.archive_store.proofs.StateLemmas.{ends}
use Rattle.archive_store.proofs.state.StoreArchiveStore.has_list.Goals as goal

pub returns-clause-ends : goal.returns-clause-ends
returns-clause-ends g c = ends g.S.Store c.args.self.now c.has_list.new.self _ c.has_list.result _ c.has_list.ensures.ends
