use Rattle.archive_model.specs.Machine.{message_limit}
use Rattle.archive_sound.proofs.CommandLemmas.{never_add}
use Rattle.archive_sound.proofs.laws.a_message_is_never_refused.Goals as goal

pub returns : goal.returns
returns c = λ db list item sound room. never_add message_limit db sound list item room
