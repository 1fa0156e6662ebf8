use Rattle.std.proofs.Common.{[], ◌∷◌, map, ap, ◌∙◌, arith}
use Rattle.std.specs.Prelude.{string_bytes, IsUtf8}
use Rattle.std.proofs.lemmas.List.{map-append}
use Rattle.archive_tables.specs.Rows.{name_result_row}
use Rattle.archive_database.proofs.ReadingLemmas.{read_none, read_row, read_every, shown_at, unread_by, no_good_text}
use Rattle.archive_database.proofs.reading.read_names.Goals as goal

pub loop-row-preserved : goal.loop-row-preserved
loop-row-preserved c = λ names e.
    read_row name_result_row (map string_bytes c.loop-row.found.items) _ c.args.rows.now c.loop-row.row-index c.row-item.result names
    (string_bytes c.in_ok-name.name) (c.loop-row.invariant names e) (omega (arith, c.loop-row-test.true))
    (λ n here. c.in_ok-name.ensures.read n (c.row-item.is ∙ here))
    (ap (map string_bytes) c.in_ok-push.ensures.items ∙ map-append string_bytes c.loop-row.found.items (c.in_ok-name.name ∷ []))

pub returns-clause-read : goal.returns-clause-read
returns-clause-read c = λ names e.
    read_every name_result_row _ c.args.rows.now c.loop-row.row-index names (c.loop-row.invariant names e) c.loop-row-test.false

pub loop-row-init : goal.loop-row-init
loop-row-init c = λ names e. rw c.in_ok-found.ensures.items (read_none name_result_row c.args.rows.now names e)

pub returns-in_err-name-clause-unread : goal.returns-in_err-name-clause-unread
returns-in_err-name-clause-unread c =
    unread_by c.from_residual-in_err-name.result c.in_err-name.field-0.0 _ c.from_residual-in_err-name.ensures.1
    (λ bad names e all.
    let it = shown_at name_result_row IsUtf8 names c.args.rows.now c.loop-row.row-index c.row-item.result e (omega (arith, c.loop-row-test.true)) in
    no_good_text it.0 c.in_err-name.field-0.0 (it.2 all) (c.in_err-name.ensures.fault it.0 (c.row-item.is ∙ it.1)) bad)
