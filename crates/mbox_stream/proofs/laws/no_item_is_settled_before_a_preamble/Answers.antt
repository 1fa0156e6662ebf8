use Rattle.mbox_stream.proofs.StreamLaws as laws
use Rattle.mbox_stream.proofs.laws.no_item_is_settled_before_a_preamble.Goals as goal

pub returns : goal.returns
returns c = laws.no_item_is_settled_before_a_preamble
