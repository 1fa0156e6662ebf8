use Rattle.std.proofs.Common.{sym}
use Rattle.archive_html.proofs.RowLemmas.{message_row_is}
use Rattle.archive_html.proofs.rows.push_message.Goals as goal

pub returns : goal.returns
returns c = message_row_is c.args.list.now c.args.depth c.args.line.now _ c.line.inside.sent _ _ c.as_str-key.result.now c.deref.result.now c.deref-2.result.now
    c.args.page.now.items _ _ _ _ _ _ _ _ _ (sym c.line.view_is) c.as_str-key.ensures c.deref.ensures.value c.deref-2.ensures.value
    c.in_ok-push_start.ensures c.in_ok-push_month_link.ensures c.in_ok-push.ensures.items c.in_ok-push_author_link.ensures c.in_ok-push-2.ensures.items
    c.in_ok-push_message_link.ensures c.in_ok-push-3.ensures.items c.in_ok-push_thread_link.ensures c.in_ok-extend_from_slice.ensures.items
