use Rattle.archive_model.specs.Machine.{no_command_facts}
use Rattle.archive_store.proofs.CarryLemmas.{looks_then, looks_say, looks_stop}
use Rattle.archive_store.proofs.store.Store.look_grant.Goals as goal

pub returns-in_err-is_known : goal.returns-in_err-is_known
returns-in_err-is_known g c = looks_stop g.S.Store c.from_residual.result c.in_err-is_known.ensures c.from_residual.ensures.1

pub returns-in_err-is_there : goal.returns-in_err-is_there
returns-in_err-is_there g c = looks_stop g.S.Store c.from_residual-in_err-is_there.result
    (looks_then g.S.Store c.in_ok-is_known.ensures c.in_err-is_there.ensures) c.from_residual-in_err-is_there.ensures.1

pub returns-in_err-grant : goal.returns-in_err-grant
returns-in_err-grant g c = looks_stop g.S.Store c.from_residual-in_err-grant.result
    (looks_then g.S.Store (looks_then g.S.Store c.in_ok-is_known.ensures c.in_ok-is_there.ensures) c.in_err-grant.ensures) c.from_residual-in_err-grant.ensures.1

pub returns : goal.returns
returns g c = looks_say g.S.Store (looks_then g.S.Store (looks_then g.S.Store c.in_ok-is_known.ensures c.in_ok-is_there.ensures) c.in_ok-grant.ensures)
    (λ a it. λ i. record no_command_facts { person = it.0.0 i; list = it.0.1 i; grant = it.1 i })
