-- The condition that a rule of the program states.
use Rattle.std.specs.Prelude.{map, string_bytes}
use Rattle.policy_core.specs.declared.conditions.Condition.{Condition as Held}
use Rattle.policy_core.specs.declared.conditions.Condition.TheVariants.{Lists, Standings, Withdrawn, Embargo, AgeMin, From, Until, Own}
use Rattle.policy_core.specs.Rules.{Condition, lists, standings, withdrawn, embargo, age_min, from, until, own}

abbrev pub stated_condition : Held → Condition
stated_condition (Lists names) = lists (map string_bytes names.items)
stated_condition (Standings among) = standings among.items
stated_condition (Withdrawn among) = withdrawn among.items
stated_condition (Embargo on) = embargo on
stated_condition (AgeMin least) = age_min least
stated_condition (From first) = from first
stated_condition (Until last) = until last
stated_condition (Own is) = own is
