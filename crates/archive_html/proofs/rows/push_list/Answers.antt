use Rattle.archive_html.proofs.RowLemmas.{list_row_is}
use Rattle.archive_html.proofs.rows.push_list.Goals as goal

pub returns : goal.returns
returns c = list_row_is c.args.list.now c.args.page.now.items _ _ _ _ _ _ _ c.in_ok-extend_from_slice.ensures.items
    (rw c.as_bytes.ensures.value at c.in_ok-extend_from_slice-2.ensures.items) c.in_ok-extend_from_slice-3.ensures.items
    (rw c.as_bytes-2.ensures.value at c.in_ok-extend_from_slice-4.ensures.items) c.in_ok-extend_from_slice-5.ensures.items
    (rw c.as_bytes-3.ensures.value at c.in_ok-extend_from_slice-6.ensures.items) c.in_ok-extend_from_slice-7.ensures.items
