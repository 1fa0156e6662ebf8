use Rattle.std.proofs.Common.{List, map, ap, ◌∙◌}
use Rattle.thread_core.specs.Threads.{threads_of}
use Rattle.thread_links.specs.declared.entry.Entry.{Entry}
use Rattle.archive_results.specs.Shown.{shown_message}
use Rattle.archive_results.proofs.IndexLemmas.{lines_are, rows_are}
use Rattle.archive_cache.proofs.OutlineLemmas.{made_as, made_of}
use Rattle.archive_cache.proofs.list_indexes.outline_of.Goals as goal

pub returns : goal.returns
returns g c = λ view e. made_as c.outline_with.result (
    made_of c.args.list.now c.args.merge (map shown_message view) _ _
    (lines_are view c.args.headers.items _ e c.in_ok-columns.ensures.lines)
    (rows_are c.args.merge view c.args.headers.items _ _ e c.in_ok-columns.ensures.entries
    (c.in_ok-rows.ensures ∙ ap (λ (es : List Entry). threads_of es c.args.merge) c.deref.ensures.value)))
    c.outline_with.ensures
