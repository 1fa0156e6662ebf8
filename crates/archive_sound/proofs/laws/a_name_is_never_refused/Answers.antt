use Rattle.archive_model.specs.Machine.{message_limit}
use Rattle.archive_sound.proofs.CommandLemmas.{never_person_add, never_list_add}
use Rattle.archive_sound.proofs.laws.a_name_is_never_refused.Goals as goal

pub returns-clause-person_add : goal.returns-clause-person_add
returns-clause-person_add c = λ db name token sound number. never_person_add message_limit db sound name token number

pub returns-clause-list_add : goal.returns-clause-list_add
returns-clause-list_add c = λ db name sound room. never_list_add message_limit db sound name room
