use Rattle.archive_import.proofs.RepeatLemmas.{again_read}
use Rattle.archive_import.proofs.laws.messages_read_again_are_known.Goals as goal

pub returns : goal.returns
returns c = again_read
