-- The numbers under which an archive keeps what is granted and who withdraws. (Profile)
use Rattle.std.specs.Prelude.{ℤ, pos}
use Rattle.policy_core.specs.declared.access.GrantKind.{GrantKind}
use Rattle.policy_core.specs.declared.access.GrantKind.TheVariants.{Member, Subscriber, Moderator}
use Rattle.policy_core.specs.declared.access.WithdrawnBy.{WithdrawnBy}
use Rattle.policy_core.specs.declared.access.WithdrawnBy.TheVariants.{Author, Board}

-- the rank of a kind of grant: that of the standing which it gives
abbrev pub grant_kind_rank : GrantKind → ℤ
grant_kind_rank Member = pos 1
grant_kind_rank Subscriber = pos 2
grant_kind_rank Moderator = pos 3

-- the number of who withdraws a message; 0 is that of a message which nobody withdrew
abbrev pub withdrawn_by_number : WithdrawnBy → ℤ
withdrawn_by_number Author = pos 1
withdrawn_by_number Board = pos 2
