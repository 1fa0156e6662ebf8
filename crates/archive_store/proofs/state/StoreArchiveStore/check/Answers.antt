use Rattle.archive_store.proofs.StateLemmas.{checks, ends_check}
use Rattle.archive_store.proofs.state.StoreArchiveStore.check.Goals as goal

pub returns-clause-checked : goal.returns-clause-checked
returns-clause-checked g c = checks g.S.Store c.args.self.now c.check.new.self c.check.result c.check.ensures.checked

pub returns-clause-ends : goal.returns-clause-ends
returns-clause-ends g c = ends_check g.S.Store c.args.self.now c.check.new.self c.check.result c.check.ensures.ends
