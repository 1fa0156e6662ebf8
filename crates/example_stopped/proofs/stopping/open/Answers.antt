use Rattle.example_stopped.proofs.StopLemmas.{opened_from}
use Rattle.example_stopped.proofs.stopping.open.Goals as goal

pub returns-in-Ok-adopt-clause-opened : goal.returns-in-Ok-adopt-clause-opened
returns-in-Ok-adopt-clause-opened g c =
    opened_from g.met.D.Disk.seen_may_stay c.args.files c.in-Ok.connection c.in-Ok-adopt.store c.in-Ok.ensures.found c.in-Ok.ensures.opened
    c.in-Ok-adopt.ensures.adopted
