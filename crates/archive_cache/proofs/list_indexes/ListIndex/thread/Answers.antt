use Rattle.std.proofs.Common.{◌≡◌, ◌∙◌, Some, option_map, rules}
use Rattle.std.specs.Prelude.{string_bytes}
use Rattle.archive_results.specs.Results.{place_of_key}
use Rattle.thread_core.specs.TopThread.{top_thread_of}
use Rattle.archive_cache.specs.ListIndexes.{ListIndex, rendered_rows, thread_rows_of_key}
use Rattle.archive_cache.proofs.OutlineLemmas.{one_thread, text_shown}
use Rattle.archive_cache.proofs.list_indexes.ListIndex.thread.Goals as goal

pub returns-clause-shown : goal.returns-clause-shown
returns-clause-shown c = λ list merge view is.
    let key = c.args.key.now in
    let outline : ListIndex = record { list = string_bytes c.self.inside.list; lines = c.self.inside.lines; rows = c.self.inside.rows } in
    let there : place_of_key key c.self.inside.lines ≡ Some c.in_ok-place.place = search rules in
    let found : top_thread_of c.self.inside.rows c.in_ok-place.place ≡ Some (c.in_ok-first.first, c.in_ok-first.end) = search rules in
    let text : Some c.run.result.now ≡ option_map (rendered_rows outline) (thread_rows_of_key outline key) =
    one_thread outline key c.in_ok-place.place c.in_ok-first.first c.in_ok-first.end c.run.result.now there found (c.run.ensures _ _ _ c.self.invariant) in
    text ∙ text_shown outline key list merge view (c.self.view_is ∙ is)
