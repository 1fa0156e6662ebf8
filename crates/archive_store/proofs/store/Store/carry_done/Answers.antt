use Rattle.archive_model.specs.Commands.{done as said_done}
use Rattle.archive_port.specs.Commands.{spec_command}
use Rattle.archive_store.proofs.CarryLemmas.{called}
use Rattle.archive_store.proofs.store.Store.carry_done.Goals as goal

pub returns : goal.returns
returns g c = called g.S.Store _ _ (spec_command c.args.command.now) (λ _. tt) (λ _. said_done) c.carry.result c.done.result c.done.ensures c.requires c.carry.ensures
