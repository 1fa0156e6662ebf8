use Rattle.archive_model.specs.Machine.{no_command_facts}
use Rattle.archive_store.proofs.CarryLemmas.{looks_say, looks_stop}
use Rattle.archive_store.proofs.store.Store.look_list.Goals as goal

pub returns-in_err-is_there : goal.returns-in_err-is_there
returns-in_err-is_there g c = looks_stop g.S.Store c.from_residual.result c.in_err-is_there.ensures c.from_residual.ensures.1

pub returns : goal.returns
returns g c = looks_say g.S.Store c.in_ok-is_there.ensures (λ a it. λ i. record no_command_facts { list = it i })
