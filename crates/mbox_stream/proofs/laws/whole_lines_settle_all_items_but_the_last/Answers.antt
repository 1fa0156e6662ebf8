use Rattle.mbox_stream.proofs.StreamLaws as laws
use Rattle.mbox_stream.proofs.laws.whole_lines_settle_all_items_but_the_last.Goals as goal

pub returns : goal.returns
returns c = laws.settled_all
