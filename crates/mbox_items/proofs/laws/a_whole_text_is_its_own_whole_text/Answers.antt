use Rattle.mbox_items.proofs.ItemLemmas.{is_whole-whole, whole-whole}
use Rattle.mbox_items.proofs.laws.a_whole_text_is_its_own_whole_text.Goals as goal

pub returns-clause-whole : goal.returns-clause-whole
returns-clause-whole c = is_whole-whole

pub returns-clause-once : goal.returns-clause-once
returns-clause-once c = whole-whole
