-- Worked examples of written policies, as trees and as texts.
use Rattle.std.proofs.Common.{◌≡◌, ℕ, zero, suc, pos, [], ◌∷◌, Ok, Err, true, false, refl, codes}
use Rattle.toml.specs.Data.{string, integer, array, table, Items, no_items, item, Members, no_members, member}
use Rattle.toml.proofs.OnLiterals.{toml_on_literals}
use Rattle.policy_core.specs.declared.access.Standing.TheVariants.{Public}
use Rattle.policy_core.specs.declared.access.Withdrawn.TheVariants.{Author, Board}
use Rattle.policy_core.specs.declared.faults.PolicyFault.TheVariants.{NotToml, UnknownKey, WrongType, BadName, DuplicateName, BadValue, TooManyRules}
use Rattle.policy_core.specs.Names.{is_name}
use Rattle.policy_core.specs.Rules.{lists, standings, withdrawn, embargo, age_min, own, open_rule}
use Rattle.policy_core.specs.Written.{policy_of, written_policy}
use Rattle.policy_core.proofs.OnTrees.{on_trees}
use Rattle.civil_time.specs.Calendar.{days_before_year, days_in_first_months}

-- the tree of one rule with these keys
abbrev one : Members → Members
one keys = member (codes "rule") (array (item (table keys) no_items)) no_members

-- a tree without keys: a policy without rules
no_keys : policy_of no_members ≡ Ok []
unfolding on_trees
no_keys = refl

a_name : is_name (codes "a-2") ≡ true
a_name = refl

no_capitals : is_name (codes "Soc") ≡ false
no_capitals = refl

allowing : policy_of (one (member (codes "effect") (string (codes "allow")) (member (codes "name") (string (codes "a")) no_members)))
    ≡ Ok (record open_rule { name = codes "a" } ∷ [])
unfolding on_trees
allowing = refl

no_effect : policy_of (one (member (codes "name") (string (codes "a")) no_members)) ≡ Err (BadValue 1)
unfolding on_trees
no_effect = refl

not_an_array : policy_of (member (codes "rule") (integer (pos 3)) no_members) ≡ Err (WrongType 0)
unfolding on_trees
not_an_array = refl

text_open : written_policy (codes "rules = 1") ≡ Err (UnknownKey 0)
unfolding toml_on_literals on_trees
text_open = refl

text_not : written_policy (codes "a =") ≡ Err NotToml
unfolding toml_on_literals on_trees
text_not = refl

-- ---- texts

text_empty : written_policy [] ≡ Ok []
unfolding toml_on_literals on_trees
text_empty = refl

text_of_one_rule : written_policy (codes "[[rule]]\nname = 'a'\neffect = 'allow'\nage_min = 30\nembargo = false")
    ≡ Ok (record open_rule { name = codes "a"; conditions = embargo false ∷ age_min 30 ∷ [] } ∷ [])
unfolding toml_on_literals on_trees
text_of_one_rule = refl

text_with_arrays : written_policy (codes "[[rule]]\nname = 'a'\neffect = 'deny'\nlists = ['soc', 'dev']\nstandings = ['public']\nwithdrawn = ['author', 'board']")
    ≡ Ok (record open_rule {
      name = codes "a";
      allows = false;
      conditions = lists (codes "soc" ∷ codes "dev" ∷ []) ∷ standings (Public ∷ []) ∷ withdrawn (Author ∷ Board ∷ []) ∷ [];
    } ∷ [])
unfolding toml_on_literals on_trees
text_with_arrays = refl

text_unknown_key : written_policy (codes "[[rule]]\nname = 'A'\ncolour = 1") ≡ Err (UnknownKey 1)
unfolding toml_on_literals on_trees
text_unknown_key = refl

text_bad_name : written_policy (codes "[[rule]]\nname = 'A'") ≡ Err (BadName 1)
unfolding toml_on_literals on_trees
text_bad_name = refl

text_default : written_policy (codes "[[rule]]\nname = 'default'\neffect = 'deny'") ≡ Err (DuplicateName 1)
unfolding toml_on_literals on_trees
text_default = refl

text_twice : written_policy (codes "[[rule]]\nname = 'a'\neffect = 'deny'\n[[rule]]\nname = 'a'\neffect = 'allow'") ≡ Err (DuplicateName 2)
unfolding toml_on_literals on_trees
text_twice = refl

text_date : written_policy (codes "[[rule]]\nname = 'a'\neffect = 'deny'\nfrom = 2003-03-04") ≡ Err (WrongType 1)
unfolding toml_on_literals on_trees
text_date = refl

text_list_name : written_policy (codes "[[rule]]\nname = 'a'\neffect = 'deny'\nlists = ['Soc']") ≡ Err (BadValue 1)
unfolding toml_on_literals on_trees
text_list_name = refl

text_type_first : written_policy (codes "[[rule]]\nname = 'a'\neffect = 'deny'\nlists = ['Soc', 1]") ≡ Err (WrongType 1)
unfolding toml_on_literals on_trees
text_type_first = refl

text_no_lists : written_policy (codes "[[rule]]\nname = 'a'\neffect = 'deny'\nlists = []") ≡ Err (BadValue 1)
unfolding toml_on_literals on_trees
text_no_lists = refl

text_too_old : written_policy (codes "[[rule]]\nname = 'a'\neffect = 'deny'\nage_min = 36501") ≡ Err (BadValue 1)
unfolding toml_on_literals on_trees
text_too_old = refl

text_backwards : written_policy (codes "[[rule]]\nname = 'a'\neffect = 'deny'\nfrom = '2003-03-05'\nuntil = '2003-03-04'") ≡ Err (BadValue 1)
unfolding toml_on_literals on_trees days_before_year days_in_first_months
text_backwards = refl

text_own : written_policy (codes "[[rule]]\nname = 'a'\neffect = 'allow'\nown = true") ≡ Ok (record open_rule { name = codes "a"; conditions = own true ∷ [] } ∷ [])
unfolding toml_on_literals on_trees
text_own = refl

-- `own` is no number, and is looked at before the two days together
text_own_number : written_policy (codes "[[rule]]\nname = 'a'\neffect = 'allow'\nown = 1") ≡ Err (WrongType 1)
unfolding toml_on_literals on_trees
text_own_number = refl

text_own_before_days : written_policy (codes "[[rule]]\nname = 'a'\neffect = 'deny'\nfrom = '2003-03-05'\nuntil = '2003-03-04'\nown = 1") ≡ Err (WrongType 1)
unfolding toml_on_literals on_trees days_before_year days_in_first_months
text_own_before_days = refl

-- ---- many rules

empty_tables : ℕ → Items
empty_tables zero = no_items
empty_tables (suc n) = item (table no_members) (empty_tables n)

too_many : policy_of (member (codes "rule") (array (empty_tables 201)) no_members) ≡ Err TooManyRules
unfolding on_trees empty_tables
too_many = refl

not_too_many : policy_of (member (codes "rule") (array (empty_tables 200)) no_members) ≡ Err (BadValue 1)
unfolding on_trees empty_tables
not_too_many = refl
