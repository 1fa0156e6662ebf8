use Rattle.std.proofs.Common.{◌∙◌, refl}
use Rattle.archive_html.proofs.PageLemmas.{page_is}
use Rattle.archive_html.proofs.pages.rows_page.Goals as goal

pub returns : goal.returns
returns c = page_is _ _ _ _ _ _ _ (c.reserve.ensures.items ∙ c.in_ok-page.ensures) c.in_ok-extend_from_slice.ensures.items c.in_ok-push_foot.ensures refl
