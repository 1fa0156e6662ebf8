use Rattle.std.proofs.Common.{subst, sym}
use Rattle.archive_model.specs.Machine.{step}
use Rattle.archive_store.specs.Held.{store_connection}
use Rattle.archive_store.specs.Replies.{PerformsModelStep}
use Rattle.archive_port.specs.Commands.{spec_command}
use Rattle.archive_store.proofs.RunLemmas.{ends_told}
use Rattle.archive_store.proofs.store.Store.carry_out.Goals as goal

pub returns-clause-step : goal.returns-clause-step
returns-clause-step g c =
    subst (λ r. PerformsModelStep g.S.Store (store_connection c.args.self.now) (store_connection c.carry.new.self) (λ a. step a (spec_command c.args.command.now)) r)
    (sym c.outcome_of.ensures.value) c.carry.ensures.performs_step

pub returns-clause-ends : goal.returns-clause-ends
returns-clause-ends g c =
    ends_told g.S.Store c.args.self.now c.carry.new.self (spec_command c.args.command.now) c.carry.result c.outcome_of.result c.outcome_of.ensures.passed _ c.carry.ensures.ends_write
