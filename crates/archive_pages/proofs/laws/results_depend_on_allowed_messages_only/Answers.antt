use Rattle.archive_pages.proofs.AccessLaws.{shows}
use Rattle.archive_pages.proofs.laws.results_depend_on_allowed_messages_only.Goals as goal

pub returns : goal.returns
returns c = shows
