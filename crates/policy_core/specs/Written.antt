-- What a written policy says: the rules that the tree of a TOML text (TOML 1.1) holds, or the first refusal.
-- (profile: the keys, their values and the order of the refusals are this project's, and docs/POLICY.md lists them)
use Rattle.std.specs.Prelude.{ℕ, suc, ℤ, pos, List, [], ◌∷◌, ◌++◌, length, map, unwrap_or, codes, bytes_eq, nat_lt, int_le, int_lt, unsigned_abs, filter_map, Bool, true}
use Rattle.std.specs.Prelude.{false, not, ◌&&◌, ◌||◌, if◌then◌else◌, Option, Some, None, is_some, is_none, option_map, option_and_then, Result, Ok, Err}
use Rattle.std.specs.List.{list_all, list_any}
use Rattle.toml.specs.Data.{Data, Items, no_items, item, Members, no_members, member, get_member, as_str, as_integer, as_bool, as_array, as_table, array}
use Rattle.toml.specs.Parse.{parse_document}
use Rattle.civil_time.specs.Calendar.{day_of_text}
use Rattle.policy_core.specs.declared.access.Standing.{Standing}
use Rattle.policy_core.specs.declared.access.Standing.TheVariants.{Public, Member, Subscriber, Moderator}
use Rattle.policy_core.specs.declared.access.Withdrawn.{Withdrawn as Withdrawal}
use Rattle.policy_core.specs.declared.access.Withdrawn.TheVariants.{No, Author, Board}
use Rattle.policy_core.specs.declared.faults.PolicyFault.{PolicyFault}
use Rattle.policy_core.specs.declared.faults.PolicyFault.TheVariants.{NotToml, UnknownKey, WrongType, BadName, DuplicateName, BadValue, TooManyRules}
use Rattle.policy_core.specs.Facts.{max_age_days}
use Rattle.policy_core.specs.Names.{is_name}
use Rattle.policy_core.specs.declared.keys.Key.{Key}
use Rattle.policy_core.specs.declared.keys.Key.TheVariants.{Lists, Standings, Withdrawn, Embargo, AgeMin, From, Until, Own}
use Rattle.policy_core.specs.Rules.{Condition, lists, standings, withdrawn, embargo, age_min, from, until, own, Rule}

-- ---- the tree

abbrev pub member_keys : Members → List (List ℕ)
member_keys no_members = []
member_keys (member key d ms) = key ∷ member_keys ms

abbrev pub item_values : Items → List Data
item_values no_items = []
item_values (item d ds) = d ∷ item_values ds

-- the members of an array; none for another value
abbrev pub array_values : Data → List Data
array_values (array ds) = item_values ds
array_values _ = []

-- the texts among the members of an array
abbrev pub array_texts : Data → List (List ℕ)
array_texts d = filter_map as_str (array_values d)

-- ---- words

-- Profile: the standing by its word in a policy, in lower case; None for any other word
abbrev pub standing_named : List ℕ → Option Standing
standing_named word =
    if bytes_eq word (codes "public") then Some Public
    else if bytes_eq word (codes "member") then Some Member
    else if bytes_eq word (codes "subscriber") then Some Subscriber
    else if bytes_eq word (codes "moderator") then Some Moderator
    else None

abbrev pub withdrawal_named : List ℕ → Option Withdrawal
withdrawal_named word =
    if bytes_eq word (codes "no") then Some No
    else if bytes_eq word (codes "author") then Some Author
    else if bytes_eq word (codes "board") then Some Board
    else None

-- whether the effect allows
abbrev pub effect_named : List ℕ → Option Bool
effect_named word =
    if bytes_eq word (codes "allow") then Some true else if bytes_eq word (codes "deny") then Some false else None

-- ---- refusals: each with what brings it about, in the order in which they are tested

-- a refusal, where what brings it about is there
abbrev pub refusal_if : PolicyFault → Bool → Option PolicyFault
refusal_if fault found = if found then Some fault else None

-- the first that is there
abbrev pub first_refusal : List (Option PolicyFault) → Option PolicyFault
first_refusal [] = None
first_refusal (None ∷ rest) = first_refusal rest
first_refusal (Some fault ∷ rest) = Some fault

-- there is a value, and it passes the test
abbrev pub is_some_and_passes : {A : Type 0} → (A → Bool) → Option A → Bool
is_some_and_passes test None = false
is_some_and_passes test (Some a) = test a

-- there is a value, and it fails the test
abbrev pub is_some_and_fails : {A : Type 0} → (A → Bool) → Option A → Bool
is_some_and_fails test None = false
is_some_and_fails test (Some a) = not (test a)

abbrev pub is_text_value : Data → Bool
is_text_value d = is_some (as_str d)

abbrev pub is_table_value : Data → Bool
is_table_value d = is_some (as_table d)

abbrev pub is_array_of : (Data → Bool) → Data → Bool
is_array_of test d = is_some (as_array d) && list_all test (array_values d)

abbrev pub has_any_member : List Data → Bool
has_any_member [] = false
has_any_member (d ∷ ds) = true

-- an array of texts has one member or more, and each passes the test
abbrev pub has_texts_and_all_pass : (List ℕ → Bool) → Data → Bool
has_texts_and_all_pass test d = has_any_member (array_values d) && list_all test (array_texts d)

unfoldable pub name_refusal : ℕ → List (List ℕ) → Option Data → Option PolicyFault
name_refusal n earlier given = first_refusal (
    refusal_if (WrongType n) (is_some_and_fails is_text_value given)
    ∷ refusal_if (BadValue n) (is_none given)
    ∷ refusal_if (BadName n) (is_some_and_fails (λ d. is_some_and_passes is_name (as_str d)) given)
    ∷ refusal_if (DuplicateName n) (is_some_and_passes (λ d. is_some_and_passes (λ name. list_any (bytes_eq name) (codes "default" ∷ earlier)) (as_str d)) given)
    ∷ [])

unfoldable pub effect_refusal : ℕ → Option Data → Option PolicyFault
effect_refusal n given = first_refusal (
    refusal_if (WrongType n) (is_some_and_fails is_text_value given)
    ∷ refusal_if (BadValue n) (is_none given)
    ∷ refusal_if (BadValue n) (is_some_and_fails (λ d. is_some_and_passes (λ word. is_some (effect_named word)) (as_str d)) given)
    ∷ [])

-- ---- the keys of conditions

-- what is made of the texts in an array of one or more, where each passes the test
abbrev pub value_from_texts : {A : Type 0} → (List ℕ → Bool) → (List (List ℕ) → A) → Data → Option A
value_from_texts test made d = if has_texts_and_all_pass test d then Some (made (array_texts d)) else None

-- names
abbrev pub names_of_value : Data → Option (List (List ℕ))
names_of_value d = value_from_texts is_name (λ names. names) d

-- what words mean
abbrev pub meanings_of_value : {A : Type 0} → (List ℕ → Option A) → Data → Option (List A)
meanings_of_value named d = value_from_texts (λ word. is_some (named word)) (filter_map named) d

-- whole days, from 0 to the longest age
abbrev pub is_age_in_days : ℤ → Bool
is_age_in_days z = int_le (pos 0) z && int_le z (pos max_age_days)

abbrev pub age_of_integer : ℤ → Option ℕ
age_of_integer z = if is_age_in_days z then Some (unsigned_abs z) else None

abbrev pub age_of_value : Data → Option ℕ
age_of_value d = option_and_then age_of_integer (as_integer d)

abbrev pub day_of_value : Data → Option ℤ
day_of_value d = option_and_then day_of_text (as_str d)

abbrev pub is_boolean_value : Data → Bool
is_boolean_value d = is_some (as_bool d)

abbrev pub is_integer_value : Data → Bool
is_integer_value d = is_some (as_integer d)

abbrev pub is_text_array : Data → Bool
is_text_array d = is_array_of is_text_value d

-- A row of the table of keys: the word, the type of its values, what they mean, and the condition that they state.
-- A value of the type that means nothing is none that the key has.
pub record KeyRow : Type 1 where
  pub Meaning : Type 0
  pub word : List ℕ
  pub is_typed : Data → Bool
  pub read : Data → Option Meaning
  pub condition : Meaning → Condition

abbrev pub make_key_row : {A : Type 0} → List ℕ → (Data → Bool) → (Data → Option A) → (A → Condition) → KeyRow
make_key_row {A = A} word is_typed read condition = record { Meaning = A; word = word; is_typed = is_typed; read = read; condition = condition }

-- Profile: the table of keys
abbrev pub key_row : Key → KeyRow
key_row Lists = make_key_row (codes "lists") is_text_array names_of_value lists
key_row Standings = make_key_row (codes "standings") is_text_array (meanings_of_value standing_named) standings
key_row Withdrawn = make_key_row (codes "withdrawn") is_text_array (meanings_of_value withdrawal_named) withdrawn
key_row Embargo = make_key_row (codes "embargo") is_boolean_value as_bool embargo
key_row AgeMin = make_key_row (codes "age_min") is_integer_value age_of_value age_min
key_row From = make_key_row (codes "from") is_text_value day_of_value from
key_row Until = make_key_row (codes "until") is_text_value day_of_value until
key_row Own = make_key_row (codes "own") is_boolean_value as_bool own

-- the keys of conditions, in the order in which they are tested
abbrev pub condition_keys : List Key
condition_keys = Lists ∷ Standings ∷ Withdrawn ∷ Embargo ∷ AgeMin ∷ From ∷ Until ∷ Own ∷ []

-- the key of a condition
abbrev pub is_condition_key : List ℕ → Bool
is_condition_key word = list_any (λ key. bytes_eq word (key_row key).word) condition_keys

-- a key that a rule has
abbrev pub is_rule_key : List ℕ → Bool
is_rule_key word = bytes_eq word (codes "name") || bytes_eq word (codes "effect") || is_condition_key word

-- what is wrong with a value: it is of another type, or it says nothing
unfoldable pub value_refusal : {A : Type 0} → ℕ → (Data → Bool) → (Data → Option A) → Data → Option PolicyFault
value_refusal n is_typed read d = first_refusal (
    refusal_if (WrongType n) (not (is_typed d))
    ∷ refusal_if (BadValue n) (is_none (read d))
    ∷ [])

-- what is wrong with the value at a key, where there is one, and the condition that it states
abbrev pub key_refusal : ℕ → Members → Key → Option PolicyFault
key_refusal n rule key = option_and_then (value_refusal n (key_row key).is_typed (key_row key).read) (get_member (key_row key).word rule)

abbrev pub condition_of_value : Key → Data → Option Condition
condition_of_value key d = option_map (key_row key).condition ((key_row key).read d)

abbrev pub condition_at_key : Members → Key → Option Condition
condition_at_key rule key = option_and_then (condition_of_value key) (get_member (key_row key).word rule)

unfoldable pub conditions_refusal : ℕ → Members → List Key → Option PolicyFault
conditions_refusal n rule keys = first_refusal (map (key_refusal n rule) keys)

unfoldable pub conditions_of : Members → List Key → List Condition
conditions_of rule keys = filter_map (condition_at_key rule) keys

-- the one condition begins after the day on which the other ends
abbrev pub begins_after_end_of : Condition → Condition → Bool
begins_after_end_of (from first) (until last) = int_lt last first
begins_after_end_of _ _ = false

-- no day is within all of these conditions
abbrev pub has_no_day : List Condition → Bool
has_no_day conditions = list_any (λ first. list_any (begins_after_end_of first) conditions) conditions

unfoldable pub rule_refusal : ℕ → List (List ℕ) → Members → Option PolicyFault
rule_refusal n earlier rule = first_refusal (
    refusal_if (UnknownKey n) (not (list_all is_rule_key (member_keys rule)))
    ∷ name_refusal n earlier (get_member (codes "name") rule)
    ∷ effect_refusal n (get_member (codes "effect") rule)
    ∷ conditions_refusal n rule condition_keys
    ∷ refusal_if (BadValue n) (has_no_day (conditions_of rule condition_keys))
    ∷ [])

-- ---- the rules

-- the text at a key, or nothing
abbrev pub text_at_key : List ℕ → Members → List ℕ
text_at_key key rule = unwrap_or (option_and_then as_str (get_member key rule)) []

-- the effect allows
abbrev pub effect_allows : Members → Bool
effect_allows rule = is_some_and_passes (λ allows. allows) (effect_named (text_at_key (codes "effect") rule))

unfoldable pub rule_of : Members → Rule
rule_of rule = record { name = text_at_key (codes "name") rule; allows = effect_allows rule; conditions = conditions_of rule condition_keys }

-- ---- the policy

-- the first refusal of some rules, of which the first has the number n and comes after rules of these names
unfoldable pub rules_refusal : ℕ → List (List ℕ) → List Members → Option PolicyFault
rules_refusal n earlier [] = None
rules_refusal n earlier (rule ∷ rules) = first_refusal (
    rule_refusal n earlier rule
    ∷ rules_refusal (suc n) (earlier ++ text_at_key (codes "name") rule ∷ []) rules
    ∷ [])

-- the values of the array `rule`, and the tables among them; none where it is missing
abbrev pub rule_values : Option Data → List Data
rule_values None = []
rule_values (Some d) = array_values d

abbrev pub rule_tables : Option Data → List Members
rule_tables given = filter_map as_table (rule_values given)

unfoldable pub tree_refusal : Members → Option PolicyFault
tree_refusal tree = first_refusal (
    refusal_if (UnknownKey 0) (not (list_all (λ key. bytes_eq key (codes "rule")) (member_keys tree)))
    ∷ refusal_if (WrongType 0) (is_some_and_fails (is_array_of is_table_value) (get_member (codes "rule") tree))
    ∷ refusal_if TooManyRules (nat_lt 200 (length (rule_values (get_member (codes "rule") tree))))
    ∷ rules_refusal 1 [] (rule_tables (get_member (codes "rule") tree))
    ∷ [])

abbrev pub rules_unless_refused : Option PolicyFault → List Rule → Result (List Rule) PolicyFault
rules_unless_refused None rules = Ok rules
rules_unless_refused (Some fault) rules = Err fault

abbrev pub policy_of : Members → Result (List Rule) PolicyFault
policy_of tree = rules_unless_refused (tree_refusal tree) (map rule_of (rule_tables (get_member (codes "rule") tree)))

-- the policy of a text that is a TOML document
abbrev pub policy_of_document : Option Members → Result (List Rule) PolicyFault
policy_of_document None = Err NotToml
policy_of_document (Some tree) = policy_of tree

-- Profile: the rules of a policy's TOML text, in its order, or the first refusal; in it rules count from 1, and 0 is outside of them
abbrev pub written_policy : List ℕ → Result (List Rule) PolicyFault
written_policy text = policy_of_document (parse_document text)
