use Rattle.std.proofs.Common.{arith}
use Rattle.archive_listen.proofs.GatheringLemmas.{rest_passed, rest_size}
use Rattle.archive_listen.proofs.gathered.write_rest.Goals as goal

pub returns-in-Err-clause-fault : goal.returns-in-Err-clause-fault
returns-in-Err-clause-fault g c =
    let e = c.in-Err.ensures.fault in (
      omega (arith, e.0, rest_size c.args.first c.args.last c.args.room.now),
      rest_passed c.args.first c.args.last c.in-Err.fault.written c.args.room.now _ _ c.requires.order e.1,
    )
