use Rattle.std.proofs.Common.{◌∙◌, ◌∷◌, [], ◌++◌, Err, inr, sym, subst}
use Rattle.archive_port.specs.Messages.{IsReadable}
use Rattle.archive_store.specs.Walking.{WalksOver, walk_over_store}
use Rattle.archive_store.proofs.FindLemmas.{passed_on, blames_read}
use Rattle.archive_store.proofs.WalkingLemmas.{passed_next}
use Rattle.archive_store.proofs.walking.MessageWalk.next.Goals as goal

pub returns-in_default-clause-given : goal.returns-in_default-clause-given
returns-in_default-clause-given g c = λ returned list all a given w. rw c.in_default.is at (c.in_ok-row.ensures.given returned list all a given w)

pub returns-clause-given : goal.returns-clause-given
returns-clause-given g c = λ returned list all a given w.
    let next = rw c.in-Some.is at (c.in_ok-row.ensures.given returned list all a given w) in
    let read = rw c.in_ok-message.ensures.passed at c.checked_message.ensures.read in
    subst (λ m. WalksOver g.S.Store list all a (given ++ m ∷ []) (walk_over_store c.take_row.new.store c.pass.new.self)) (sym (read list ∙ next.1.3))
    (passed_next g.S.Store list all a given c.take_row.new.store c.take_row.new.self c.pass.new.self next.1.0 next.1.1 next.0 next.1.2 c.pass.ensures.passed)

pub returns-in_err-row-clause-caused : goal.returns-in_err-row-clause-caused
returns-in_err-row-clause-caused g c = λ returned list all a given w free.
    passed_on c.from_residual.result c.in_err-row.field-0.0 _ c.from_residual.ensures.1 (c.in_err-row.ensures.caused returned list all a given w free)

pub returns-in_err-message-clause-caused : goal.returns-in_err-message-clause-caused
returns-in_err-message-clause-caused g c = λ returned list all a given w free.
    let next = rw c.in-Some.is at (c.in_ok-row.ensures.given returned list all a given w) in
    passed_on c.from_residual-in_err-message.result c.in_err-message.field-0.0 _ c.from_residual-in_err-message.ensures.1
    (blames_read c.checked_message.result (Err c.in_err-message.field-0.0) _ c.in_err-message.ensures.passed c.checked_message.ensures.unread
    (λ e unread is. inr (next.1.0, next.1.1, next.1.2, λ good. unread.1 list (subst IsReadable (sym next.1.3) good))))
