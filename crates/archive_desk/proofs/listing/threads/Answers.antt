use Rattle.std.proofs.Common.{◌≡◌, map}
use Rattle.archive_results.specs.Results.{tree_lines}
use Rattle.archive_results.specs.Shown.{shown_message}
use Rattle.archive_desk.proofs.ListLemmas.{listed_from}
use Rattle.archive_desk.proofs.listing.threads.Goals as goal

pub returns-in-Ok-tree_lines-clause-listed : goal.returns-in-Ok-tree_lines-clause-listed
returns-in-Ok-tree_lines-clause-listed g c =
    listed_from g.S.ArchiveState c.args.store.now c.read_view_summaries.new.store c.args.ask.now c.in-Ok.index.headers.items c.in-Ok.index.merge c.in-Ok.ensures.held
    (λ merge view. c.in-Ok-tree_lines.rows.items ≡ tree_lines merge (map shown_message view)) c.in-Ok-tree_lines.ensures
