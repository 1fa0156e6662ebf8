-- The numbers that stand for words.
use Rattle.std.specs.Prelude.{ℤ, pos, Bool, true, false}
use Rattle.policy_core.specs.declared.access.Standing.{Standing}
use Rattle.policy_core.specs.declared.access.Standing.TheVariants.{Public, Member, Subscriber, Moderator}
use Rattle.archive_model.specs.Commands.{CommandReply, taken_in, already_known}
use Rattle.archive_port.specs.declared.words.Added.{Added}
use Rattle.archive_port.specs.declared.words.Added.TheVariants.{New, Known}

-- the rank of a standing: that of its grant, and 0 for the public
abbrev pub standing_rank : Standing → ℤ
standing_rank Public = pos 0
standing_rank Member = pos 1
standing_rank Subscriber = pos 2
standing_rank Moderator = pos 3

abbrev pub added_reply : Added → CommandReply
added_reply New = taken_in
added_reply Known = already_known

-- what became of it, by whether the list held it
abbrev pub new_or_known : Bool → Added
new_or_known true = Known
new_or_known false = New
