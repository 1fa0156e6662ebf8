use Rattle.mbox_core.proofs.WrittenLaws as laws
use Rattle.mbox_core.proofs.laws.messages_of_a_division_are_items.Goals as goal

pub returns : goal.returns
returns c = laws.messages_of_a_division_are_items
