use Rattle.archive_html.proofs.RowLemmas.{start_is}
use Rattle.archive_html.proofs.rows.push_start.Goals as goal

pub returns : goal.returns
returns c = start_is _ c.args.page.now.items _ _ _ c.in_ok-extend_from_slice.ensures.items c.in_ok-push_depth.ensures c.in_ok-extend_from_slice-2.ensures.items
