use Rattle.mbox_core.proofs.DivisionLaws as laws
use Rattle.mbox_core.proofs.laws.no_text_has_a_division_and_a_preamble.Goals as goal

pub returns : goal.returns
returns c = λ bytes is offset d p. laws.not_both bytes offset is p d
