use Rattle.archive_pages.proofs.AccessLaws.{serves}
use Rattle.archive_pages.proofs.laws.an_allowed_message_is_served.Goals as goal

pub returns : goal.returns
returns c = serves
