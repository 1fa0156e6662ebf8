use Rattle.std.proofs.Common.{◌≡◌, map, rules, subst}
use Rattle.archive_results.specs.Index.{HoldsForEachView}
use Rattle.archive_results.specs.Shown.{shown_message}
use Rattle.archive_desk.proofs.ListLemmas.{listed_from}
use Rattle.archive_cache.specs.ListIndexes.{index_of_view}
use Rattle.archive_cache.proofs.finding.read_threads.Goals as goal

pub returns-in-Ok-outline_of-clause-made : goal.returns-in-Ok-outline_of-clause-made
returns-in-Ok-outline_of-clause-made g c =
    let ask = c.args.ask.now in
    let outline = c.in-Ok-outline_of.outline in
    let list : c.ask.inside.list.now ≡ ask.list = search rules in
    listed_from g.S.ArchiveState c.args.store.now c.read_view_summaries.new.store ask c.in-Ok.index.headers.items c.in-Ok.index.merge c.in-Ok.ensures.held
    (λ merge view. outline ≡ index_of_view ask.list merge (map shown_message view))
    (subst (λ l. HoldsForEachView c.in-Ok.index.headers.items (λ view. outline ≡ index_of_view l c.in-Ok.index.merge (map shown_message view))) list c.in-Ok-outline_of.ensures)
