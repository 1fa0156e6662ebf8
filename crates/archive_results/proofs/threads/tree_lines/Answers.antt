use Rattle.std.proofs.Common.{◌∙◌, List, ap}
use Rattle.thread_core.specs.Threads.{threads_of}
use Rattle.thread_links.specs.declared.entry.Entry.{Entry}
use Rattle.archive_results.proofs.IndexLemmas.{lines_are, rows_are, trees_are}
use Rattle.archive_results.proofs.threads.tree_lines.Goals as goal

pub returns : goal.returns
returns g c = λ view e.
    trees_are c.args.merge view c.in_ok-columns.columns.lines.items c.in_ok-rows.rows.items c.lines_at.result
    (lines_are view c.args.headers.items _ e c.in_ok-columns.ensures.lines)
    (rows_are c.args.merge view c.args.headers.items _ _ e c.in_ok-columns.ensures.entries (c.in_ok-rows.ensures ∙ ap (λ (es : List Entry). threads_of es c.args.merge) c.deref.ensures.value))
    c.deref-2.result.now c.deref-3.result.now c.deref-2.ensures.value c.deref-3.ensures.value c.lines_at.ensures
