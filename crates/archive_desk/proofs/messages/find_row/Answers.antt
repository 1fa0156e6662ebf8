use Rattle.std.proofs.Common.{◌≡◌, rules}
use Rattle.archive_desk.specs.Causes.{IsMessageUnreadable}
use Rattle.archive_desk.proofs.AskLemmas.{is_list_fault}
use Rattle.archive_desk.proofs.EndLemmas.{ask_handed_on}
use Rattle.archive_desk.proofs.messages.find_row.Goals as goal

pub returns-in_err-row-clause-ends : goal.returns-in_err-row-clause-ends
returns-in_err-row-clause-ends g c =
    let ask = c.args.ask.now in
    let list : c.ask.inside.list.now ≡ ask.list = search rules in
    ask_handed_on g.S.ArchiveState c.args.store.now c.row.new.self (λ a. IsMessageUnreadable a ask c.args.key.now) c.in_err-row.field-0.0
    (is_list_fault _ c.in_err-row.ensures.ends.refusal_is_possible) (λ cause. cause) (rw list at c.in_err-row.ensures.ends) c.from_residual.result c.from_residual.ensures.1
    c.in_err-row.ensures.was_open
