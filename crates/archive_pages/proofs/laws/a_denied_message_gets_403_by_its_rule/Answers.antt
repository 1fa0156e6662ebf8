use Rattle.archive_pages.proofs.AccessLaws.{denies}
use Rattle.archive_pages.proofs.laws.a_denied_message_gets_403_by_its_rule.Goals as goal

pub returns : goal.returns
returns c = denies
