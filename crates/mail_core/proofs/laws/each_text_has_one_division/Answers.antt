use Rattle.mail_core.proofs.PieceLemmas.{each_text_has_at_most_one_division, one_list, each_text_has_a_division_or_a_preamble}
use Rattle.mail_core.proofs.laws.each_text_has_one_division.Goals as goal

pub returns : goal.returns
returns c = record { some = each_text_has_a_division_or_a_preamble; one = each_text_has_at_most_one_division; one_list = one_list }
