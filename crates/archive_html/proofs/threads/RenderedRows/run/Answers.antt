use Rattle.std.proofs.Common.{◌≡◌, ◌∙◌, ap, length, max, rules, take}
use Rattle.archive_html.specs.Rows.{rows_text, tree_row}
use Rattle.archive_results.specs.Results.{tree_line, elements_in_range}
use Rattle.archive_html.proofs.RowTextLemmas.{run_is}
use Rattle.archive_html.proofs.threads.RenderedRows.run.Goals as goal

pub returns : goal.returns
returns c = λ list lines rows are.
    let from = c.start-from.result in
    let to = c.start-to.result in
    let upto : c.max.result ≡ max c.args.end c.args.first = search rules in
    c.elements_in_range.ensures ∙ ap (elements_in_range (from, to)) c.deref.ensures.value
    ∙ run_is (λ row. tree_row list (tree_line lines row)) rows c.args.first c.args.end from to c.args.self.now.bytes.items are.is_rows_text (c.start-from.ensures ∙ are.starts_are_lengths c.args.first)
    (c.start-to.ensures ∙ are.starts_are_lengths c.max.result ∙ ap (λ m. length (rows_text list lines (take m rows))) upto)
