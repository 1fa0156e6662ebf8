use Rattle.std.proofs.Common.{refl}
use Rattle.archive_store.proofs.CarryLemmas.{puts_passed}
use Rattle.archive_store.proofs.store.Store.write_person.Goals as goal

pub returns : goal.returns
returns g c = λ found.
    puts_passed g.S.Store c.add_person-added.ensures c.pass.ensures.passed c.pass.ensures.kind c.pass.ensures.counted.0 (λ a need. (tt, refl)) (λ db need refused. refused)
