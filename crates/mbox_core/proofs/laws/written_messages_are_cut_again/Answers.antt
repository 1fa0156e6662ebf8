use Rattle.mbox_core.proofs.WrittenLaws as laws
use Rattle.mbox_core.proofs.laws.written_messages_are_cut_again.Goals as goal

pub returns : goal.returns
returns c = laws.written_messages_are_cut_again
