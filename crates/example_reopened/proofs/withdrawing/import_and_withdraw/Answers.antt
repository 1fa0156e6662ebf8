use Rattle.std.proofs.Common.{arith, Some, Ok, Err}
use Rattle.std.specs.Prelude.{option_map}
use Rattle.archive_model.specs.Commands.{done, refused}
use Rattle.archive_model.specs.Machine.{step}
use Rattle.archive_port.specs.Replies.{refusal_of_fault}
use Rattle.archive_store.proofs.StateLemmas.{lasts, steps}
use Rattle.archive_desk.proofs.ImportLemmas.{import_right}
use Rattle.example_reopened.specs.Withdrawing.{withdraw_command_of}
use Rattle.example_reopened.proofs.WithdrawLemmas.{not_withdrawn, withdrawn}
use Rattle.archive_store.specs.State.{state_of}
use Rattle.example_reopened.proofs.withdrawing.import_and_withdraw.Goals as goal

pub returns-in-Ok-withdraw-clause-done : goal.returns-in-Ok-withdraw-clause-done
returns-in-Ok-withdraw-clause-done g c =
    withdrawn (state_of g.S.Store) c.args.store.now c.import.new.store c.withdraw.new.self c.args.withdrawal.now c.in-Ok.report
    (import_right (state_of g.S.Store) c.args.store.now c.import.new.store c.args.withdrawal.now.list.now c.args.withdrawal.now.mbox.now (Ok c.in-Ok.report) c.in-Ok.ensures.imports)
    (lasts g.S.Store c.import.new.store c.withdraw.new.self c.in-Ok-withdraw.ensures.ends.remains_open) c.a_withdrawn_message_might_never_have_arrived.ensures
    (steps g.S.Store c.import.new.store c.withdraw.new.self (λ a. step a (withdraw_command_of c.args.withdrawal.now)) (Some done) c.in-Ok-withdraw.ensures.step)

pub returns-in-Err-withdraw-clause-stopped : goal.returns-in-Err-withdraw-clause-stopped
returns-in-Err-withdraw-clause-stopped g c =
    not_withdrawn (state_of g.S.Store) c.args.store.now c.import.new.store c.withdraw.new.self c.args.withdrawal.now c.in-Ok.report
    (import_right (state_of g.S.Store) c.args.store.now c.import.new.store c.args.withdrawal.now.list.now c.args.withdrawal.now.mbox.now (Ok c.in-Ok.report) c.in-Ok.ensures.imports)
    (lasts g.S.Store c.import.new.store c.withdraw.new.self c.in-Err-withdraw.ensures.ends.remains_open) c.in-Err-withdraw.fault
    (steps g.S.Store c.import.new.store c.withdraw.new.self (λ a. step a (withdraw_command_of c.args.withdrawal.now)) (option_map refused (refusal_of_fault c.in-Err-withdraw.fault))
    c.in-Err-withdraw.ensures.step)

pub returns-in-Ok-withdraw-clause-counted : goal.returns-in-Ok-withdraw-clause-counted
returns-in-Ok-withdraw-clause-counted g c = let first = c.in-Ok.ensures.ends.refusals_counted.0 in let then = c.in-Ok-withdraw.ensures.ends.refusals_counted.0 in (omega (arith, first, then), tt)

pub returns-in-Err-withdraw-clause-counted : goal.returns-in-Err-withdraw-clause-counted
returns-in-Err-withdraw-clause-counted g c =
    let first = c.in-Ok.ensures.ends.refusals_counted.0 in
    let then = c.in-Err-withdraw.ensures.ends.refusals_counted in
    let grown = then.0 in (omega (arith, first, grown), (λ want. let more = then.1 want in omega (arith, first, more)))

pub returns-in-Err-clause-stopped : goal.returns-in-Err-clause-stopped
returns-in-Err-clause-stopped g c =
    import_right (state_of g.S.Store) c.args.store.now c.import.new.store c.args.withdrawal.now.list.now c.args.withdrawal.now.mbox.now (Err c.in-Err.stop) c.in-Err.ensures.imports

pub returns-in-Err-clause-counted : goal.returns-in-Err-clause-counted
returns-in-Err-clause-counted g c = c.in-Err.ensures.ends.refusals_counted
