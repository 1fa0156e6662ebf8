use Rattle.archive_store.proofs.StateLemmas.{not_begun}
use Rattle.archive_store.proofs.state.StoreArchiveStore.each_selected.Goals as goal

pub returns-clause-refused : goal.returns-clause-refused
returns-clause-refused g c = not_begun g.S.Store c.args.self.now c.each_selected.new.self c.args.list.now c.each_selected.result c.each_selected.ensures.refused
