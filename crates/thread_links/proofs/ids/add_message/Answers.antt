use Rattle.std.proofs.Common.{Some, sym, ap, ◌∙◌}
use Rattle.std.specs.HashMap.{get_by}
use Rattle.mail_core.specs.MsgIds.{MessageId}
use Rattle.thread_links.specs.Containers.{same_id}
use Rattle.thread_links.proofs.IdLemmas.{message_without, message_with}
use Rattle.thread_links.proofs.ids.add_message.Goals as goal

pub returns-in-None : goal.returns-in-None
returns-in-None c before at was id = was id ∙ sym (message_without before c.args.entry.now id c.in-None.is)

pub returns-in_ok-add-in-Some : goal.returns-in_ok-add-in-Some
returns-in_ok-add-in-Some c before at was id =
    message_with before c.args.entry.now c.borrowed.result id c.args.place (λ o. get_by (same_id o) c.args.numbers.now) (λ o. get_by (same_id o) c.add.new.numbers) at
    (c.in-Some.is ∙ ap (λ (own : MessageId). Some own) (sym c.borrowed.ensures)) was c.in_ok-add-in-Some.ensures.numbers
