use Rattle.std.proofs.Common.{refl}
use Rattle.archive_model.specs.Commands.{lift, was_there}
use Rattle.archive_store.proofs.CarryLemmas.{called}
use Rattle.archive_store.proofs.store.Store.lift.Goals as goal

pub returns : goal.returns
returns g c =
    let it = called g.S.Store _ _ (lift c.args.list.now c.args.key.now) (λ found. found.embargo) (was_there) c.carry.result c.had_embargo.result
    c.had_embargo.ensures (λ found. refl) c.carry.ensures in
    record { step = it.performs_step; crash = it.crash; ends = it.ends_write }
