use Rattle.std.proofs.Common.{ap}
use Rattle.archive_args.specs.Orders.{order_of}
use Rattle.archive_args.proofs.OrderLemmas.{pair_up}
use Rattle.archive_args.proofs.reading.read_order.Goals as goal

pub returns-in-Some : goal.returns-in-Some
returns-in-Some c =
    let found = pair_up _ _ _ _ c.in-Some.ensures.name c.in-Some.ensures.rows in
    rw (ap order_of found) c.named_order.ensures
