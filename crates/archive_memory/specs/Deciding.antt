-- What answers a command before it is carried out.
use Rattle.std.specs.Prelude.{List, [], ◌∷◌, Option, Some, None, option_map, if◌then◌else◌}
use Rattle.archive_model.specs.Commands.{CommandReply, already_known, refused}
use Rattle.archive_model.specs.Machine.{GuardedReply}
use Rattle.archive_port.specs.Replies.{refusal_of_fault}
use Rattle.archive_memory.specs.declared.deciding.Settled.{Settled}
use Rattle.archive_memory.specs.declared.deciding.Settled.TheVariants.{Refused, Known}

-- the answer of the first test that is so
abbrev pub first_passing_reply : List GuardedReply → Option CommandReply
first_passing_reply [] = None
first_passing_reply (test ∷ tests) = if test.0 then Some test.1 else first_passing_reply tests

-- the answer of a command that changes nothing
abbrev pub reply_without_change : Settled → Option CommandReply
reply_without_change (Refused fault) = option_map refused (refusal_of_fault fault)
reply_without_change Known = Some already_known
