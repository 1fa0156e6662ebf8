-- What is asked of a policy: may this reader read this message on this day. (profile: the archive's own rules of access)
use Rattle.std.specs.Prelude.{ℕ, ℤ, List, Bool, true, false, int_lt, ◌-ℤ◌, Option, Some, None}
use Rattle.policy_core.specs.declared.access.Standing.{Standing}
use Rattle.policy_core.specs.declared.access.Standing.TheVariants.{Public, Member, Subscriber, Moderator}
use Rattle.policy_core.specs.declared.access.Withdrawn.{Withdrawn}
use Rattle.policy_core.specs.declared.access.Withdrawn.TheVariants.{No, Author, Board}

-- days are day numbers from 1970-01-01
pub record Facts : Type 0 where
  pub list : List ℕ
  pub standing : Standing
  pub day : ℤ
  pub arrival_day : ℤ
  pub withdrawn : Withdrawn
  pub embargo_until : Option ℤ
  -- the message is the reader's own: the reader is a person with an address, and that is the message's author key
  pub own : Bool

-- the embargo is on up to the day before its until day
abbrev pub is_before_until : ℤ → Option ℤ → Bool
is_before_until day None = false
is_before_until day (Some until) = int_lt day until

-- Profile: on the reading day the message has its embargo on; on its until day it is off, as where it has none
abbrev pub is_embargoed : Facts → Bool
is_embargoed f = is_before_until f.day f.embargo_until

-- how old the message is on the reading day, in days; negative where it arrives after that day
abbrev pub age : Facts → ℤ
age f = f.day -ℤ f.arrival_day

-- the longest age that can be asked for, in days
abbrev pub max_age_days : ℕ
max_age_days = 36_500

-- the order of standings, from the least to the most
abbrev pub rank_of_standing : Standing → ℕ
rank_of_standing Public = 0
rank_of_standing Member = 1
rank_of_standing Subscriber = 2
rank_of_standing Moderator = 3

abbrev pub same_standing : Standing → Standing → Bool
same_standing Public Public = true
same_standing Member Member = true
same_standing Subscriber Subscriber = true
same_standing Moderator Moderator = true
same_standing _ _ = false

abbrev pub same_withdrawal : Withdrawn → Withdrawn → Bool
same_withdrawal No No = true
same_withdrawal Author Author = true
same_withdrawal Board Board = true
same_withdrawal _ _ = false
