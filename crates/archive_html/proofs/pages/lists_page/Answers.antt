use Rattle.std.specs.Prelude.{string_bytes}
use Rattle.archive_html.specs.Rows.{list_row}
use Rattle.archive_html.proofs.PageLemmas.{page_is, flat_map-map}
use Rattle.archive_html.proofs.pages.lists_page.Goals as goal

pub returns : goal.returns
returns c = page_is _ _ _ _ _ _ _ c.in_ok-page.ensures c.in_ok-push_lists.ensures c.in_ok-push_foot.ensures (flat_map-map _ _ list_row string_bytes c.args.names.now)
