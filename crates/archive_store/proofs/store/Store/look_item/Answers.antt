use Rattle.std.proofs.Common.{◌∙◌, ap}
use Rattle.archive_model.specs.Questions.{has_message}
use Rattle.archive_model.specs.Machine.{no_command_facts}
use Rattle.archive_store.proofs.CarryLemmas.{looks_then, looks_say, looks_stop}
use Rattle.archive_store.proofs.store.Store.look_item.Goals as goal

pub returns-in_err-is_there : goal.returns-in_err-is_there
returns-in_err-is_there g c = looks_stop g.S.Store c.from_residual.result c.in_err-is_there.ensures c.from_residual.ensures.1

pub returns-in_err-message : goal.returns-in_err-message
returns-in_err-message g c = looks_stop g.S.Store c.from_residual-in_err-message.result
    (looks_then g.S.Store c.in_ok-is_there.ensures c.in_err-message.ensures) c.from_residual-in_err-message.ensures.1

pub returns-in_err-full : goal.returns-in_err-full
returns-in_err-full g c = looks_stop g.S.Store c.from_residual-in_err-full.result
    (looks_then g.S.Store (looks_then g.S.Store c.in_ok-is_there.ensures c.in_ok-message.ensures) c.in_err-full.ensures) c.from_residual-in_err-full.ensures.1

pub returns : goal.returns
returns g c = looks_say g.S.Store (looks_then g.S.Store (looks_then g.S.Store c.in_ok-is_there.ensures c.in_ok-message.ensures) c.in_ok-full.ensures)
    (λ a it. λ i. record no_command_facts { list = it.0.0 i; message = (it.0.1 ∙ ap (has_message a c.args.list.now) c.of.ensures) i; full = it.1 i })
