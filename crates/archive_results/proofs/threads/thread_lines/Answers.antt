use Rattle.std.proofs.Common.{◌∙◌, List, ap, map}
use Rattle.thread_core.specs.Threads.{threads_of}
use Rattle.thread_core.specs.TopThread.{top_thread_of}
use Rattle.thread_core.specs.declared.row.Row.{Row}
use Rattle.thread_links.specs.declared.entry.Entry.{Entry}
use Rattle.archive_results.specs.Results.{place_of_key, elements_in_range, tree_line}
use Rattle.archive_results.specs.Shown.{Line}
use Rattle.archive_results.proofs.IndexLemmas.{lines_are, rows_are, no_place, no_thread, one_thread}
use Rattle.archive_results.proofs.threads.thread_lines.Goals as goal

pub returns-in_default : goal.returns-in_default
returns-in_default g c = λ view e.
    no_place c.args.merge c.args.key.now view c.in_ok-columns.columns.lines.items (lines_are view c.args.headers.items _ e c.in_ok-columns.ensures.lines)
    (c.in_default.ensures ∙ ap (place_of_key c.args.key.now) c.deref.ensures.value)

pub returns-in_default-thread_of : goal.returns-in_default-thread_of
returns-in_default-thread_of g c = λ view e.
    no_thread c.args.merge c.args.key.now view c.in_ok-columns.columns.lines.items c.in_ok-all.all.items c.in-Some.place
    (lines_are view c.args.headers.items _ e c.in_ok-columns.ensures.lines)
    (rows_are c.args.merge view c.args.headers.items _ _ e c.in_ok-columns.ensures.entries (c.in_ok-all.ensures ∙ ap (λ (es : List Entry). threads_of es c.args.merge) c.deref-2.ensures.value))
    (c.in-Some.ensures ∙ ap (place_of_key c.args.key.now) c.deref.ensures.value)
    (c.in_default-thread_of.ensures ∙ ap (λ (rows : List Row). top_thread_of rows c.in-Some.place) c.deref-3.ensures.value)

pub returns : goal.returns
returns g c = λ view e.
    one_thread c.args.merge c.args.key.now view c.in_ok-columns.columns.lines.items c.in_ok-all.all.items c.elements_in_range.result.now c.in-Some.place
    (c.in-Some-thread_of.first, c.in-Some-thread_of.end) _
    (lines_are view c.args.headers.items _ e c.in_ok-columns.ensures.lines)
    (rows_are c.args.merge view c.args.headers.items _ _ e c.in_ok-columns.ensures.entries (c.in_ok-all.ensures ∙ ap (λ (es : List Entry). threads_of es c.args.merge) c.deref-2.ensures.value))
    (c.in-Some.ensures ∙ ap (place_of_key c.args.key.now) c.deref.ensures.value)
    (c.in-Some-thread_of.ensures ∙ ap (λ (rows : List Row). top_thread_of rows c.in-Some.place) c.deref-3.ensures.value)
    (c.elements_in_range.ensures ∙ ap (elements_in_range (c.in-Some-thread_of.first, c.in-Some-thread_of.end)) c.deref-5.ensures.value)
    (c.in_ok-shown.ensures ∙ ap (λ (ls : List Line). map (tree_line ls) c.elements_in_range.result.now) c.deref-4.ensures.value)
