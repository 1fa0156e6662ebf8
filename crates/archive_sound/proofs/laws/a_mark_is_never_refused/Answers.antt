use Rattle.archive_model.specs.Machine.{message_limit}
use Rattle.archive_sound.proofs.CommandLemmas.{never_withdraw, never_restore, never_embargo, never_lift}
use Rattle.archive_sound.proofs.laws.a_mark_is_never_refused.Goals as goal

pub returns-clause-withdraw : goal.returns-clause-withdraw
returns-clause-withdraw c = λ db list key party sound room range. never_withdraw message_limit db sound room list key party range

pub returns-clause-restore : goal.returns-clause-restore
returns-clause-restore c = λ db list key sound room. never_restore message_limit db sound room list key

pub returns-clause-embargo : goal.returns-clause-embargo
returns-clause-embargo c = λ db list key until_day sound room range. never_embargo message_limit db sound room list key until_day range

pub returns-clause-lift : goal.returns-clause-lift
returns-clause-lift c = λ db list key sound room. never_lift message_limit db sound room list key
