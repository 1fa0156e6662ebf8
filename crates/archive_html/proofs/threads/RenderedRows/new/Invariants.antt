use Rattle.std.proofs.Common.{◌≡◌, length, take}
use Rattle.archive_html.specs.Rows.{rows_text, tree_row}
use Rattle.archive_results.specs.Results.{tree_line}
use Rattle.archive_html.proofs.RowTextLemmas.{Begin}
use Rattle.archive_html.proofs.threads.RenderedRows.new.Given as goal

-- the rows so far, and where each of them begins
abbrev pub invariant-loop-row : goal.invariant-loop-row
invariant-loop-row l = record {
  text : l.bytes.items ≡ rows_text l.list l.lines (take l.row-index l.rows);
  count : length l.starts.items ≡ l.row-index;
  begin : Begin (λ row. tree_row l.list (tree_line l.lines row)) l.rows l.starts.items l.row-index;
}
