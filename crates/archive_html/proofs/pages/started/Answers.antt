use Rattle.archive_html.proofs.PageLemmas.{page_head_is}
use Rattle.archive_html.proofs.pages.started.Goals as goal

pub returns : goal.returns
returns c = page_head_is c.args.title.now c.new-page.result.items _ _ _ _ _ c.new-page.ensures.items c.in_ok-extend_from_slice.ensures.items
    c.in_ok-extend_from_slice-2.ensures.items c.in_ok-extend_from_slice-3.ensures.items c.in_ok-extend_from_slice-4.ensures.items c.in_ok-extend_from_slice-5.ensures.items
