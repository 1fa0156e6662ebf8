use Rattle.archive_html.proofs.LawLemmas.{escapes_are_read}
use Rattle.archive_html.proofs.laws.author_links_round_trip.Goals as goal

pub returns : goal.returns
returns c = escapes_are_read
