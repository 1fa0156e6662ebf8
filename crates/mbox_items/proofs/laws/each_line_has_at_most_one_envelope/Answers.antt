use Rattle.mbox_items.proofs.SeparatorLemmas as laws
use Rattle.mbox_items.proofs.laws.each_line_has_at_most_one_envelope.Goals as goal

pub returns : goal.returns
returns c = laws.each_line_has_at_most_one_envelope
