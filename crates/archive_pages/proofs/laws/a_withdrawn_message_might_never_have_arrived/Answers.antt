use Rattle.archive_pages.proofs.PromiseLaws.{promised}
use Rattle.archive_pages.proofs.laws.a_withdrawn_message_might_never_have_arrived.Goals as goal

pub returns : goal.returns
returns c = promised
