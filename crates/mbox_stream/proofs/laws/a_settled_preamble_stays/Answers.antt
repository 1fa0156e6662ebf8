use Rattle.mbox_stream.proofs.StreamLaws as laws
use Rattle.mbox_stream.proofs.laws.a_settled_preamble_stays.Goals as goal

pub returns : goal.returns
returns c = laws.a_settled_preamble_stays
