use Rattle.archive_store.proofs.StateLemmas.{ends}
use Rattle.archive_store.proofs.state.StoreArchiveStore.person_of_token.Goals as goal

pub returns-clause-ends : goal.returns-clause-ends
returns-clause-ends g c = ends g.S.Store c.args.self.now c.person_of_token.new.self _ c.person_of_token.result _ c.person_of_token.ensures.ends
