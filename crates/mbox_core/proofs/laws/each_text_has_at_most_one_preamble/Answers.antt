use Rattle.mbox_core.proofs.DivisionLaws as laws
use Rattle.mbox_core.proofs.laws.each_text_has_at_most_one_preamble.Goals as goal

pub returns : goal.returns
returns c = laws.each_text_has_at_most_one_preamble
