use Rattle.std.proofs.Common.{refl, sym}
use Rattle.archive_results.specs.Results.{tree_line}
use Rattle.archive_html.proofs.RowLemmas.{tree_row_some, tree_row_none}
use Rattle.archive_html.proofs.threads.push_row.Goals as goal

pub returns-in-Some : goal.returns-in-Some
returns-in-Some c =
    rw (tree_row_some c.args.list.now (tree_line c.args.lines.now c.args.row.now) _ _ _ refl (sym (rw c.in-Some.is at c.line_at.ensures)))
    c.push_message.ensures

pub returns-in-None : goal.returns-in-None
returns-in-None c =
    rw (tree_row_none c.args.list.now (tree_line c.args.lines.now c.args.row.now) _ _ refl (sym (rw c.in-None.is at c.line_at.ensures)))
    c.push_missing.ensures
