use Rattle.archive_sound.proofs.ItemLemmas.{never_an_item}
use Rattle.archive_sound.proofs.laws.no_item_is_refused.Goals as goal

pub returns : goal.returns
returns c = λ db list items sound room. never_an_item list items db sound room
