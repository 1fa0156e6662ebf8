use Rattle.mbox_stream.proofs.StreamLaws as laws
use Rattle.mbox_stream.proofs.laws.settled_items_begin_each_division.Goals as goal

pub returns : goal.returns
returns c = λ stream more items d. laws.settled_divide stream more items d
