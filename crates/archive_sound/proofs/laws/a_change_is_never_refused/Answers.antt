use Rattle.archive_model.specs.Machine.{message_limit}
use Rattle.archive_sound.proofs.CommandLemmas.{never_merge_set, never_revoke, never_grant, never_address_set}
use Rattle.archive_sound.proofs.laws.a_change_is_never_refused.Goals as goal

pub returns-clause-merge_set : goal.returns-clause-merge_set
returns-clause-merge_set c = λ db list merge sound room. never_merge_set message_limit db sound list merge room

pub returns-clause-revoke : goal.returns-clause-revoke
returns-clause-revoke c = λ db person list rank sound. never_revoke message_limit db sound person list rank

pub returns-clause-grant : goal.returns-clause-grant
returns-clause-grant c = λ db person list rank from_day until_day sound range room. never_grant message_limit db sound person list rank from_day until_day range room

pub returns-clause-address_set : goal.returns-clause-address_set
returns-clause-address_set c = λ db person address sound room. never_address_set message_limit db sound person address room
