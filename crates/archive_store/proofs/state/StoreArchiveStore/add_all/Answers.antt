use Rattle.archive_store.proofs.StateLemmas.{added, batches_crash, ends_as, refuses_item}
use Rattle.archive_store.proofs.state.StoreArchiveStore.add_all.Goals as goal

pub returns-clause-step : goal.returns-clause-step
returns-clause-step g c = added g.S.Store c.args.self.now c.add_all.new.self c.args.list.now c.args.items.now c.add_all.result c.add_all.ensures.step

pub returns-clause-crash : goal.returns-clause-crash
returns-clause-crash g c = batches_crash g.S.Store c.args.self.now c.add_all.new.self c.args.list.now c.args.items.now c.add_all.result c.add_all.ensures.crash

pub returns-clause-ends : goal.returns-clause-ends
returns-clause-ends g c = ends_as g.S.Store c.args.self.now c.add_all.new.self _ _ (refuses_item g.S.Store c.args.self.now c.add_all.new.self _ _) _ _ c.add_all.ensures.ends
