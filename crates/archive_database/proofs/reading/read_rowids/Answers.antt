use Rattle.std.proofs.Common.{[], ◌∷◌, ◌++◌, ap, ◌∙◌, arith, w64}
use Rattle.std.proofs.lemmas.Int.{to_z-of_z}
use Rattle.std.specs.Prelude.{⊤}
use Rattle.archive_tables.specs.Rows.{rowid_result_row}
use Rattle.archive_database.proofs.ReadingLemmas.{read_none, read_row, read_every, shown_at, wanted}
use Rattle.archive_database.proofs.reading.read_rowids.Goals as goal

pub loop-row-preserved : goal.loop-row-preserved
loop-row-preserved c = λ places e.
    let fits = rw c.in_ok-place.was at c.read_rowid.type_inv in
    let itself = to_z-of_z w64 c.in_ok-place.place (record { sfits = assumption fits }) in
    read_row rowid_result_row c.loop-row.found.items _ c.args.rows.now c.loop-row.row-index c.row-item.result places
    c.in_ok-place.place (c.loop-row.invariant places e) (omega (arith, c.loop-row-test.true))
    (λ n here. c.in_ok-place.ensures.read n (c.row-item.is ∙ here))
    (c.in_ok-push.ensures.items ∙ ap (λ p. c.loop-row.found.items ++ p ∷ []) itself)

pub returns-clause-read : goal.returns-clause-read
returns-clause-read c = λ places e.
    read_every rowid_result_row _ c.args.rows.now c.loop-row.row-index places (c.loop-row.invariant places e) c.loop-row-test.false

pub loop-row-init : goal.loop-row-init
loop-row-init c = λ places e. rw c.in_ok-found.ensures.items (read_none rowid_result_row c.args.rows.now places e)

pub returns-in_err-place-clause-unread : goal.returns-in_err-place-clause-unread
returns-in_err-place-clause-unread c =
    wanted c.from_residual-in_err-place.result c.in_err-place.field-0.0 _ c.from_residual-in_err-place.ensures.1
    (λ places e.
    let it = shown_at rowid_result_row (λ _. ⊤) places c.args.rows.now c.loop-row.row-index c.row-item.result e (omega (arith, c.loop-row-test.true)) in
    c.in_err-place.ensures.fault it.0 (c.row-item.is ∙ it.1))
