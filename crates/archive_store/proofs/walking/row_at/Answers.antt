use Rattle.std.proofs.Common.{Err, w64, inr, subst}
use Rattle.std.proofs.lemmas.Int.{to_z-of_z}
use Rattle.std.specs.Option.{IsSomeAnd}
use Rattle.sqlite.specs.Held.{state}
use Rattle.archive_tables.specs.Rows.{message_at}
use Rattle.archive_tables.proofs.RunLemmas.{on_fault}
use Rattle.archive_port.specs.Messages.{IsReadable}
use Rattle.archive_store.proofs.FindLemmas.{passed_on, blames_passed, passed_rows, passed_no_rows, unread_row}
use Rattle.archive_store.proofs.walking.row_at.Goals as goal

pub returns-in_err-row-clause-shown : goal.returns-in_err-row-clause-shown
returns-in_err-row-clause-shown g c = λ clean kept.
    on_fault _ _ c.from_residual.result c.from_residual.ensures.1 (passed_no_rows _ _ c.message_at-found.ensures c.in_err-row.ensures.passed clean kept)

pub returns-in-Some-clause-shown : goal.returns-in-Some-clause-shown
returns-in-Some-clause-shown g c = λ clean kept.
    let itself = to_z-of_z w64 c.args.place c.ranges.place in
    rw (itself, c.in-Some.is) at (passed_rows c.message_at-found.ensures c.in_ok-row.ensures.passed clean kept)

pub returns-in-None-clause-shown : goal.returns-in-None-clause-shown
returns-in-None-clause-shown g c = λ clean kept up.
    let held = rw c.in-None.is at (passed_rows c.message_at-found.ensures c.in_ok-row.ensures.passed clean kept) in
    (held.1, held.2)

pub returns-in_err-row-clause-caused : goal.returns-in_err-row-clause-caused
returns-in_err-row-clause-caused g c = λ clean kept free.
    let itself = to_z-of_z w64 c.args.place c.ranges.place in
    passed_on c.from_residual.result c.in_err-row.field-0.0 _ c.from_residual.ensures.1
    (λ it. unread_row (message_at (state g.S.Store c.args.store.now.conn).now.trees c.args.place)
    (rw itself at (blames_passed g.S.Store c.args.store.now.conn c.message_at-found.new.conn c.message_at-found.result (Err c.in_err-row.field-0.0) _
    c.in_err-row.ensures.passed c.message_at-found.ensures.fault_has_cause clean kept free it)))

pub returns-in-None-clause-caused : goal.returns-in-None-clause-caused
returns-in-None-clause-caused g c = λ clean kept free it.
    let itself = to_z-of_z w64 c.args.place c.ranges.place in
    let held = rw (itself, c.in-None.is) at (passed_rows c.message_at-found.ensures c.in_ok-row.ensures.passed clean kept) in
    inr (λ some. subst (λ o. IsSomeAnd o IsReadable) held.0 some)
