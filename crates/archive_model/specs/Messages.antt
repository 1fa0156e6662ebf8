-- What a message of the code means.
use Rattle.std.specs.Prelude.{ℕ, ℤ, pos, List}
use Rattle.policy_core.specs.declared.access.Withdrawn.{Withdrawn}
use Rattle.policy_core.specs.declared.access.Withdrawn.TheVariants.{No, Author, Board}
use Rattle.archive_model.specs.Records.{Message as Remembered}
use Rattle.archive_model.specs.declared.messages.Message.{Message}

-- who withdrew a message, as records and rows have it: 0 nobody, 1 its author, 2 the board (Profile)
abbrev pub withdrawal_number : Withdrawn → ℤ
withdrawal_number No = pos 0
withdrawal_number Author = pos 1
withdrawal_number Board = pos 2

-- what the archive remembers of a message of this list
abbrev pub archived_message : List ℕ → Message → Remembered
archived_message list m = record {
  list = list;
  key = m.key;
  sender = m.item.envelope.sender;
  arrival = m.item.envelope.arrival;
  text = m.item.text;
  withdrawn = withdrawal_number m.withdrawn;
  embargo = m.embargo_until;
}
