use Rattle.mbox_items.proofs.ItemLemmas.{whole_none, none_whole}
use Rattle.mbox_items.proofs.laws.a_whole_text_has_the_same_separators.Goals as goal

pub returns-clause-whole : goal.returns-clause-whole
returns-clause-whole c = whole_none

pub returns-clause-text : goal.returns-clause-text
returns-clause-text c = none_whole
