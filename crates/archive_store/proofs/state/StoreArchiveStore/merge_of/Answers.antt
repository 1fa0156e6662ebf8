use Rattle.archive_store.proofs.StateLemmas.{ends}
use Rattle.archive_store.proofs.state.StoreArchiveStore.merge_of.Goals as goal

pub returns-clause-ends : goal.returns-clause-ends
returns-clause-ends g c = ends g.S.Store c.args.self.now c.merge_of.new.self _ c.merge_of.result _ c.merge_of.ensures.ends
