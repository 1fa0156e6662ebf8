use Rattle.archive_model.specs.Records.{Archive}
use Rattle.example_reopened.specs.Withdrawing.{ImportsAndWithdraws}
use Rattle.example_reopened.proofs.PublishLemmas.{left_with}
use Rattle.example_reopened.proofs.ReopenLemmas.{leads_to, leads_on, leads_again}
use Rattle.example_reopened.proofs.publishing.withdraw_and_reopen.Goals as goal

pub returns-in-Err-import_and_withdraw-clause-stopped : goal.returns-in-Err-import_and_withdraw-clause-stopped
returns-in-Err-import_and_withdraw-clause-stopped g c =
    left_with c.args.files c.in-Ok.store c.import_and_withdraw.new.store (leads_to c.args.files c.in-Ok.store c.in-Ok.ensures.opened)
    c.args.withdrawal.now c.in-Err-import_and_withdraw.stop c.in-Err-import_and_withdraw.ensures.stopped

pub returns-in-Ok-reopen-clause-withdrawn : goal.returns-in-Ok-reopen-clause-withdrawn
returns-in-Ok-reopen-clause-withdrawn g c =
    let R : Archive → Archive → Type 0 = λ a b. ImportsAndWithdraws c.args.withdrawal.now a b c.in-Ok-import_and_withdraw.report in
    leads_again c.args.files c.import_and_withdraw.new.store c.in-Ok-reopen.again R
    (leads_on c.args.files c.in-Ok.store c.import_and_withdraw.new.store R (leads_to c.args.files c.in-Ok.store c.in-Ok.ensures.opened)
    c.in-Ok-import_and_withdraw.ensures.done)
    c.in-Ok-reopen.ensures.same
