use Rattle.std.proofs.Common.{refl}
use Rattle.archive_model.specs.Commands.{revoke, was_there}
use Rattle.policy_core.specs.Numbers.{grant_kind_rank}
use Rattle.archive_store.proofs.CarryLemmas.{called}
use Rattle.archive_store.proofs.store.Store.revoke.Goals as goal

pub returns : goal.returns
returns g c =
    let it = called g.S.Store _ _ (revoke c.args.person.now c.args.list.now (grant_kind_rank c.args.kind)) (λ found. found.grant) (was_there) c.carry.result
    c.had_grant.result c.had_grant.ensures (λ found. refl) c.carry.ensures in
    record { step = it.performs_step; crash = it.crash; ends = it.ends_write }
