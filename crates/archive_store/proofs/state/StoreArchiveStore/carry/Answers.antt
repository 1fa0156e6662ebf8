use Rattle.archive_store.proofs.StateLemmas.{executes}
use Rattle.archive_port.specs.Commands.{spec_command}
use Rattle.archive_store.proofs.state.StoreArchiveStore.carry.Goals as goal

pub returns : goal.returns
returns g c = executes g.S.Store c.args.self.now c.carry.new.self (spec_command c.args.command.now) c.carry.result c.carry.ensures
