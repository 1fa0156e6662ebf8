use Rattle.archive_html.proofs.LinkLemmas.{month_link_is}
use Rattle.archive_html.proofs.links.push_month_link.Goals as goal

pub returns : goal.returns
returns c = month_link_is c.args.list.now c.text-text.result c.args.page.now.items _ _ _ _ _ c.args.sent c.text-text.ensures
    c.in_ok-push_start.ensures c.in_ok-extend_from_slice.ensures.items c.in_ok-extend_from_slice-2.ensures.items c.in_ok-extend_from_slice-3.ensures.items c.in_ok-extend_from_slice-4.ensures.items
