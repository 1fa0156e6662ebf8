use Rattle.archive_html.proofs.LawLemmas.{months_are_read}
use Rattle.archive_html.proofs.laws.month_links_round_trip.Goals as goal

pub returns : goal.returns
returns c = months_are_read
