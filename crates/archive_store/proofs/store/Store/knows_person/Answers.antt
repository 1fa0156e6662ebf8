use Rattle.archive_store.proofs.CarryLemmas.{looks_passed}
use Rattle.archive_store.proofs.store.Store.knows_person.Goals as goal

pub returns : goal.returns
returns g c = looks_passed g.S.Store c.pass.ensures.passed c.pass.ensures.kind c.pass.ensures.counted.0 c.has_person-known.ensures
