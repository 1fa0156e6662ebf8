use Rattle.std.proofs.Common.{◌≡◌, rules}
use Rattle.archive_model.specs.Questions.{messages_in}
use Rattle.archive_desk.specs.Causes.{HasUnreadableMessage}
use Rattle.archive_desk.proofs.AskLemmas.{is_list_fault}
use Rattle.archive_desk.proofs.EndLemmas.{handed_on}
use Rattle.archive_desk.proofs.viewing.read_list.Goals as goal

pub returns-in_err-rows-clause-ends : goal.returns-in_err-rows-clause-ends
returns-in_err-rows-clause-ends g c =
    let ask = c.args.ask.now in
    let list : c.ask.inside.list.now ≡ ask.list = search rules in
    handed_on g.S.ArchiveState c.args.store.now c.rows.new.self (λ a. HasUnreadableMessage (messages_in a ask.list)) c.in_err-rows.field-0.0
    (is_list_fault _ c.in_err-rows.ensures.ends.refusal_is_possible) (λ cause. cause) (rw list at c.in_err-rows.ensures.ends) c.from_residual.result c.from_residual.ensures.1
