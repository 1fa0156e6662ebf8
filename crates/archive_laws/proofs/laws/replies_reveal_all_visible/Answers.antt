use Rattle.archive_laws.proofs.TellLemmas.{tells, empty_in_order}
use Rattle.archive_laws.proofs.laws.replies_reveal_all_visible.Goals as goal

pub returns-clause-exactly : goal.returns-clause-exactly
returns-clause-exactly c = tells c.each_message_is_in_one_row.ensures.step_one

pub returns-clause-empty : goal.returns-clause-empty
returns-clause-empty c = empty_in_order

pub returns-clause-commands : goal.returns-clause-commands
returns-clause-commands c = λ archive commands items it. record {
  messages_are_sound = c.commands_keep_soundness.ensures.run archive commands items it.messages_are_sound;
  names_are_unique = c.names_stay_unique.ensures.run archive commands it.names_are_unique;
  has_valid_names = c.names_and_tokens_stay_valid.ensures.run archive commands it.has_valid_names;
}
