use Rattle.std.proofs.Common.{◌<◌, arith, ap, length}
use Rattle.policy_core.specs.Numbers.{grant_kind_rank}
use Rattle.archive_model.specs.Machine.{with_grant_days_of}
use Rattle.archive_memory.specs.Entries.{grant_in}
use Rattle.archive_memory.proofs.ChangeLemmas.{change_more}
use Rattle.archive_memory.proofs.changing.set_days.Goals as goal

pub loop-grant-preserved : goal.loop-grant-preserved
loop-grant-preserved c =
    let within : c.loop-grant.grant-index < length c.args.grants.now.items = omega (arith, c.loop-grant-test.true, ap length c.deref_mut-grant-items.ensures.value) in
    change_more grant_in
    (with_grant_days_of (record { person = c.args.person.now; list = c.args.list.now; rank = grant_kind_rank c.args.kind; from_day = c.args.from; until_day = c.args.until }))
    c.args.grants.now.items c.loop-grant.grant-items c.loop-grant.grant-index c.grant-item.result c.set_days.new.self within c.loop-grant.invariant c.grant-item.is c.set_days.ensures
