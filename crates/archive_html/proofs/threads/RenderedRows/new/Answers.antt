use Rattle.std.proofs.Common.{List, ap, ◌∙◌}
use Rattle.std.proofs.lemmas.List.{take_all}
use Rattle.thread_core.specs.declared.row.Row.{Row}
use Rattle.archive_html.specs.Rows.{rows_text, tree_row}
use Rattle.archive_results.specs.Results.{tree_line}
use Rattle.archive_html.proofs.RowTextLemmas.{begin_all}
use Rattle.archive_html.proofs.threads.RenderedRows.new.Goals as goal

pub returns : goal.returns
returns c = record {
  is_rows_text = c.loop-row.invariant.text ∙ ap (λ (rs : List Row). rows_text c.args.list.now c.args.lines.now rs) (take_all c.loop-row.row-index c.args.rows.now c.loop-row-test.false);
  starts_are_lengths = begin_all (λ row. tree_row c.args.list.now (tree_line c.args.lines.now row)) c.args.rows.now c.loop-row.starts.items c.loop-row.bytes.items c.loop-row.row-index
      c.loop-row.invariant.count c.loop-row-test.false c.loop-row.invariant.text c.loop-row.invariant.begin;
}
