use Rattle.policy_core.specs.Numbers.{withdrawn_by_number}
use Rattle.archive_model.specs.Commands.{withdraw}
use Rattle.archive_model.specs.Machine.{step}
use Rattle.archive_port.specs.Replies.{reply_if_done}
use Rattle.archive_store.proofs.RightLemmas.{step_right}
use Rattle.example_stopped.proofs.StopLemmas.{stopped_in}
use Rattle.example_stopped.proofs.stopping.withdraw_stop_and_reopen.Goals as goal

pub returns-in-Ok-stop_and_reopen-clause-stopped : goal.returns-in-Ok-stop_and_reopen-clause-stopped
returns-in-Ok-stop_and_reopen-clause-stopped g c =
    let list = c.args.list.now in
    let key = c.args.key.now in
    let party = withdrawn_by_number c.args.by in
    stopped_in g.met.D.Disk.seen_may_stay c.args.files c.in-Ok.store c.withdraw-answer.new.self c.in-Ok-stop_and_reopen.again
    (λ a. step a (withdraw list key party)) (reply_if_done c.withdraw-answer.result) (λ a right. step_right (withdraw list key party) a right)
    c.in-Ok.ensures.opened c.withdraw-answer.ensures.ends.remains_open.disk_was_clean c.withdraw-answer.ensures.step c.withdraw-answer.ensures.crash
    c.in-Ok-stop_and_reopen.ensures.found
