-- The rules of a policy, and where one fits.
use Rattle.std.specs.Prelude.{ℕ, ℤ, pos, List, [], codes, Bool, true, false, int_le, bytes_eq}
use Rattle.std.specs.List.{list_all, list_any}
use Rattle.policy_core.specs.declared.access.Standing.{Standing}
use Rattle.policy_core.specs.declared.access.Withdrawn.{Withdrawn}
use Rattle.policy_core.specs.Facts.{Facts, is_embargoed, age, same_standing, same_withdrawal}

-- What a rule asks of the list, the reader, the message or the reading day.
pub data Condition : Type 0 where
  lists : List (List ℕ) → Condition
  standings : List Standing → Condition
  withdrawn : List Withdrawn → Condition
  embargo : Bool → Condition
  age_min : ℕ → Condition
  from : ℤ → Condition
  until : ℤ → Condition
  own : Bool → Condition

-- A rule, with the conditions that it states.
pub record Rule : Type 0 where
  pub name : List ℕ
  pub allows : Bool
  pub conditions : List Condition

abbrev pub same_bool : Bool → Bool → Bool
same_bool true b = b
same_bool false true = false
same_bool false false = true

-- the condition holds
abbrev pub condition_holds : Condition → Facts → Bool
condition_holds (lists names) f = list_any (λ name. bytes_eq name f.list) names
condition_holds (standings among) f = list_any (λ standing. same_standing standing f.standing) among
condition_holds (withdrawn among) f = list_any (λ withdrawal. same_withdrawal withdrawal f.withdrawn) among
condition_holds (embargo on) f = same_bool on (is_embargoed f)
condition_holds (age_min least) f = int_le (pos least) (age f)
condition_holds (from first) f = int_le first f.day
condition_holds (until last) f = int_le f.day last
condition_holds (own stated) f = same_bool stated f.own

-- all conditions that the rule states hold
abbrev pub fits : Rule → Facts → Bool
fits r f = list_all (λ condition. condition_holds condition f) r.conditions

-- a condition that a message is the reader's own, or that it is not
abbrev pub is_own_condition : Condition → Bool
is_own_condition (own stated) = true
is_own_condition _ = false

-- a rule of these asks whether a message is the reader's own, or whether it is not
abbrev pub has_own_condition : List Rule → Bool
has_own_condition rules = list_any (λ r. list_any is_own_condition r.conditions) rules

-- the one rule of the policy that lets everybody read everything
abbrev pub open_rule : Rule
open_rule = record { name = codes "open"; allows = true; conditions = [] }
