use Rattle.archive_html.proofs.RowLemmas.{missing_is}
use Rattle.archive_html.proofs.rows.push_missing.Goals as goal

pub returns : goal.returns
returns c = rw missing_is c.in_ok-extend_from_slice.ensures.items
