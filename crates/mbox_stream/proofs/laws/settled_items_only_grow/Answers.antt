use Rattle.mbox_stream.proofs.StreamLaws as laws
use Rattle.mbox_stream.proofs.laws.settled_items_only_grow.Goals as goal

pub returns : goal.returns
returns c = laws.settled_items_only_grow
