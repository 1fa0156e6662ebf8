use Rattle.archive_model.specs.Commands.{add}
use Rattle.archive_port.specs.Words.{new_or_known, added_reply}
use Rattle.archive_store.proofs.CarryLemmas.{called, added_is}
use Rattle.archive_store.proofs.limits.add_limited.Goals as goal

pub returns : goal.returns
returns g c =
    let it = called g.S.Store _ _ (add c.args.list.now c.args.item.now) (λ found. new_or_known found.message) added_reply c.carry_within.result
    c.added.result c.added.ensures (λ found. added_is found.message) c.carry_within.ensures in
    record { step = it.performs_step; crash = it.crash; ends = it.ends_write }
