use Rattle.mbox_items.specs.Division.{whole}
use Rattle.mbox_items.proofs.ItemLemmas.{whole_none}
use Rattle.mbox_items.proofs.laws.whole_items_stay_items.Goals as goal

pub returns : goal.returns
returns c = λ item is. record { is_envelope = is.is_envelope; no_line_separates = whole_none (whole item.text) is.no_line_separates }
