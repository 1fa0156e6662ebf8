use Rattle.std.proofs.Common.{append_assoc}
use Rattle.archive_html.proofs.links.push_start.Goals as goal

pub returns : goal.returns
returns c = rw (c.in_ok-extend_from_slice-3.ensures.items, c.in_ok-extend_from_slice-2.ensures.items, c.as_bytes.ensures.value, c.in_ok-extend_from_slice.ensures.items) (simp append_assoc)
