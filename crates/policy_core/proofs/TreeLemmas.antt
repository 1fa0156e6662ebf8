-- A tree's values beside those of the program.
use Rattle.std.proofs.Common.{◌≡◌, ℕ, suc, ◌+◌, ◌<◌, ◌≤◌, ◌++◌, get_or, drop, append_assoc, arith, Bool, true, false, not, ◌&&◌, List, []}
use Rattle.std.proofs.Common.{◌∷◌, Option, Some, None, Result, Ok, Err, String, Global, refl, sym, ◌∙◌, ap, map, length, string_bytes}
use Rattle.std.proofs.lemmas.Bool.{lt-ltb}
use Rattle.std.proofs.lemmas.Bool.Decides.{nat_tests}
use Rattle.std.proofs.lemmas.List.{drop_more, length-map, length-append, map-append}
use Rattle.std.specs.Prelude.{codes, bytes_eq, nat_lt, ◌||◌, if◌then◌else◌, is_none, option_map}
use Rattle.std.specs.List.{list_all, list_any}
use Rattle.policy_core.specs.Names.{is_name}
use Rattle.toml.specs.Data.{Data, Members, string, integer, float, boolean, datetime, array, table, Items, get_member, as_array, as_str, as_table}
use Rattle.toml.specs.View.{view, items_view, members_view}
use Rattle.toml.specs.declared.value.Value.{Value}
use Rattle.policy_core.specs.declared.faults.PolicyFault.{PolicyFault}
use Rattle.policy_core.specs.declared.faults.PolicyFault.TheVariants.{WrongType, BadName, DuplicateName, BadValue, TooManyRules}
use Rattle.policy_core.specs.declared.keys.Key.{Key}
use Rattle.policy_core.specs.Reading.{ReadsRefusesOrLacksMemory, text_array_refusal, texts_of_values, tables_of_values, rule_names}
use Rattle.policy_core.specs.Rules.{Condition, Rule}
use Rattle.policy_core.specs.declared.conditions.Condition.{Condition as Held}
use Rattle.policy_core.specs.Stated.{stated_condition}
use Rattle.policy_core.specs.Written.{member_keys, item_values, rule_values, rule_tables, is_text_value, is_table_value, is_array_of, refusal_if, is_some_and_fails, first_refusal}
use Rattle.policy_core.specs.Written.{name_refusal, effect_refusal, is_rule_key, condition_keys, has_no_day, has_any_member}
use Rattle.policy_core.specs.Written.{array_values, array_texts, is_text_array, value_from_texts, value_refusal, key_row}
use Rattle.policy_core.specs.Written.{condition_of_value, conditions_refusal, conditions_of, text_at_key, rule_refusal, rules_refusal, rule_of, tree_refusal}

-- the keys of a map, and those of its tree
pub keys_of-view : (test : List ℕ → Bool) (es : List (String Global × Value))
    → list_all (λ s. test (string_bytes s)) (map (λ e. e.0) es) ≡ list_all test (member_keys (members_view es))
keys_of-view test [] = refl
keys_of-view test (e ∷ es) = ap (λ b. test (string_bytes e.0) && b) (keys_of-view test es)

pub values_of-view : (vs : List Value) → item_values (items_view vs) ≡ map view vs
values_of-view [] = refl
values_of-view (v ∷ vs) = ap (λ ds. view v ∷ ds) (values_of-view vs)

pub as_array-Some : (d : Data) (ds : Items) → as_array d ≡ Some ds → d ≡ array ds
as_array-Some (string s) ds h = cc
as_array-Some (integer z) ds h = cc
as_array-Some (float x) ds h = cc
as_array-Some (boolean b) ds h = cc
as_array-Some (datetime t) ds h = cc
as_array-Some (array es) ds h = cc
as_array-Some (table ms) ds h = cc

pub first_of-one : (refusal : Option PolicyFault) → first_refusal (refusal ∷ []) ≡ refusal
first_of-one None = refl
first_of-one (Some fault) = refl

-- ---- an array of texts

pub no_array : (n : ℕ) (d : Data) → as_array d ≡ None → text_array_refusal n d ≡ Some (WrongType n)
no_array n d none = rw none refl

pub no_texts : (n : ℕ) (d : Data) (vs : List Value) → d ≡ array (items_view vs) → list_all is_text_value (map view vs) ≡ false → text_array_refusal n d ≡ Some (WrongType n)
no_texts n d vs is none = rw (is, values_of-view vs, none) refl

pub empty_texts : (n : ℕ) (d : Data) (vs : List Value) → d ≡ array (items_view vs) → length vs ≡ 0 → text_array_refusal n d ≡ Some (BadValue n)
empty_texts n d [] is none = rw is refl
empty_texts n d (v ∷ vs) is none = absurd (omega arith)

pub text_array : (n : ℕ) (d : Data) (vs : List Value) → d ≡ array (items_view vs) → list_all is_text_value (map view vs) ≡ true → 0 < length vs
    → (text_array_refusal n d ≡ None) × (texts_of_values vs ≡ array_texts d)
text_array n d [] is all some = absurd (omega arith)
text_array n d (v ∷ vs) is all some = (rw (is, values_of-view vs, all) refl, rw (is, values_of-view vs) refl)

-- what is refused of an array of texts, and what is made of it
pub array_refused : {A : Type 0} (n : ℕ) (test : List ℕ → Bool) (made : List (List ℕ) → A) (d : Data) (fault : PolicyFault) → text_array_refusal n d ≡ Some fault
    → value_refusal n is_text_array (value_from_texts test made) d ≡ Some fault
unfolding value_refusal
array_refused {A = A} n test made d fault = by (is_text_array d) (has_any_member (array_values d)) (list_all test (array_texts d))
  where
    by : (typed some all : Bool) → first_refusal (refusal_if (WrongType n) (not typed) ∷ refusal_if (BadValue n) (not some) ∷ []) ≡ Some fault
        → first_refusal (refusal_if (WrongType n) (not typed) ∷ refusal_if (BadValue n) (is_none (if some && all then Some (made (array_texts d)) else None)) ∷ []) ≡ Some fault
    by false some all is = is
    by true false all is = is
    by true true all is = absurd (cc)

pub texts_refused : {A : Type 0} (n : ℕ) (test : List ℕ → Bool) (made : List (List ℕ) → A) (d : Data) → text_array_refusal n d ≡ None
    → value_refusal n is_text_array (value_from_texts test made) d ≡ refusal_if (BadValue n) (not (list_all test (array_texts d)))
unfolding value_refusal
texts_refused {A = A} n test made d = by (is_text_array d) (has_any_member (array_values d)) (list_all test (array_texts d))
  where
    by : (typed some all : Bool) → first_refusal (refusal_if (WrongType n) (not typed) ∷ refusal_if (BadValue n) (not some) ∷ []) ≡ None
        → first_refusal (refusal_if (WrongType n) (not typed) ∷ refusal_if (BadValue n) (is_none (if some && all then Some (made (array_texts d)) else None)) ∷ [])
        ≡ refusal_if (BadValue n) (not all)
    by false some all is = absurd (cc)
    by true false all is = absurd (cc)
    by true true true is = refl
    by true true false is = refl

pub texts_made : {A : Type 0} (n : ℕ) (test : List ℕ → Bool) (made : List (List ℕ) → A) (d : Data) → text_array_refusal n d ≡ None
    → refusal_if (BadValue n) (not (list_all test (array_texts d))) ≡ None → value_from_texts test made d ≡ Some (made (array_texts d))
texts_made {A = A} n test made d = by (is_text_array d) (has_any_member (array_values d)) (list_all test (array_texts d))
  where
    by : (typed some all : Bool) → first_refusal (refusal_if (WrongType n) (not typed) ∷ refusal_if (BadValue n) (not some) ∷ []) ≡ None
        → refusal_if (BadValue n) (not all) ≡ None → (if some && all then Some (made (array_texts d)) else None) ≡ Some (made (array_texts d))
    by false some all is none = absurd (cc)
    by true false all is none = absurd (cc)
    by true true true is none = refl
    by true true false is none = absurd (cc)

-- what is read of the texts of an array
pub texts_read : {A T : Type 0} (n : ℕ) (test : List ℕ → Bool) (made : List (List ℕ) → A) (d : Data) (result : Result T PolicyFault) (texts_of_values : List (List ℕ)) (seen : T → A)
    → (text_array_refusal n d ≡ None) × (texts_of_values ≡ array_texts d)
    → ReadsRefusesOrLacksMemory result (refusal_if (BadValue n) (not (list_all test texts_of_values))) (λ t. seen t ≡ made texts_of_values)
    → ReadsRefusesOrLacksMemory result (value_refusal n is_text_array (value_from_texts test made) d) (λ t. value_from_texts test made d ≡ Some (seen t))
texts_read n test made d (Ok t) texts_of_values seen is reads =
    let none : refusal_if (BadValue n) (not (list_all test (array_texts d))) ≡ None = rw (← is.1) reads.0 in
    (texts_refused n test made d is.0 ∙ none, texts_made n test made d is.0 none ∙ ap (λ texts_of_values. Some (made texts_of_values)) (sym is.1) ∙ ap Some (sym reads.1))
texts_read n test made d (Err fault) texts_of_values seen is reads = λ memory. texts_refused n test made d is.0 ∙ rw (← is.1) (reads memory)

-- ---- the keys of conditions

-- what a value means, and the condition that it states
pub as_stated : {A : Type 0} {read : Option A} {refusal : Option PolicyFault} {meaning : A} (condition : A → Condition)
    → (refusal ≡ None) × (read ≡ Some meaning) → (refusal ≡ None) × (option_map condition read ≡ Some (condition meaning))
as_stated condition is = (is.0, ap (option_map condition) is.1)

-- one more key is looked up
pub key_missing : (n : ℕ) (rule : Members) (keys : List Key) (i : ℕ) (key : Key) (word : List ℕ) → i < length keys → word ≡ (key_row (get_or keys i key)).word
    → None ≡ get_member word rule
    → (conditions_refusal n rule (drop i keys) ≡ conditions_refusal n rule (drop (i + 1) keys)) × (conditions_of rule (drop i keys) ≡ conditions_of rule (drop (i + 1) keys))
unfolding conditions_refusal conditions_of
key_missing n rule keys i key word within is none = rw (drop_more keys i key within, ← is, ← none) (refl, refl)

pub key_refused : (n : ℕ) (rule : Members) (keys : List Key) (i : ℕ) (key : Key) (word : List ℕ) (d : Data) (fault : PolicyFault) → i < length keys
    → word ≡ (key_row (get_or keys i key)).word → Some d ≡ get_member word rule
    → value_refusal n (key_row (get_or keys i key)).is_typed (key_row (get_or keys i key)).read d ≡ Some fault → conditions_refusal n rule (drop i keys) ≡ Some fault
unfolding conditions_refusal
key_refused n rule keys i key word d fault within is there some = rw (drop_more keys i key within, ← is, ← there, some) refl

pub key_read : (n : ℕ) (rule : Members) (keys : List Key) (i : ℕ) (key : Key) (word : List ℕ) (d : Data) (condition : Condition) → i < length keys
    → word ≡ (key_row (get_or keys i key)).word → Some d ≡ get_member word rule
    → (value_refusal n (key_row (get_or keys i key)).is_typed (key_row (get_or keys i key)).read d ≡ None) × (condition_of_value (get_or keys i key) d ≡ Some condition)
    → (conditions_refusal n rule (drop i keys) ≡ conditions_refusal n rule (drop (i + 1) keys))
    × (conditions_of rule (drop i keys) ≡ condition ∷ conditions_of rule (drop (i + 1) keys))
unfolding conditions_refusal conditions_of
key_read n rule keys i key word d condition within is there reads =
    (rw (drop_more keys i key within, ← is, ← there, reads.0) refl, rw (drop_more keys i key within, ← is, ← there, reads.1) refl)

-- one more condition is read
pub more_conditions : (all : List Condition) (conditions : List Held) (condition : Held) (rest : List Condition) (after : List Held)
    → all ≡ map stated_condition conditions ++ stated_condition condition ∷ rest → after ≡ conditions ++ condition ∷ [] → all ≡ map stated_condition after ++ rest
more_conditions all conditions condition rest after before more =
    rw (more, map-append stated_condition conditions (condition ∷ [])) (before ∙ sym (append_assoc (map stated_condition conditions) (stated_condition condition ∷ []) rest))

-- a rule whose keys are read, but for the days of its conditions
pub rule_rest : (n : ℕ) (earlier : List (List ℕ)) (rule : Members) (conditions : List Condition) (found : Bool) → list_all is_rule_key (member_keys rule) ≡ true
    → name_refusal n earlier (get_member (codes "name") rule) ≡ None → effect_refusal n (get_member (codes "effect") rule) ≡ None
    → (conditions_refusal n rule condition_keys ≡ None) × (conditions ≡ conditions_of rule condition_keys) → found ≡ has_no_day conditions
    → rule_refusal n earlier rule ≡ refusal_if (BadValue n) found
unfolding rule_refusal
rule_rest n earlier rule conditions found keys name effect read is =
    let last : has_no_day (conditions_of rule condition_keys) ≡ found = ap has_no_day (sym read.1) ∙ sym is in
    rw (keys, name, effect, read.0, last) (first_of-one _)

-- ---- a rule's name

pub named : (n : ℕ) (earlier : List (List ℕ)) (given : Option Data) (d : Data) (name : List ℕ) → given ≡ Some d → as_str d ≡ Some name
    → name_refusal n earlier given
    ≡ first_refusal (refusal_if (BadName n) (not (is_name name)) ∷ refusal_if (DuplicateName n) (bytes_eq name (codes "default") || list_any (bytes_eq name) earlier) ∷ [])
unfolding name_refusal
named n earlier given d name is text = rw (is, text) refl

-- ---- the array of rules

pub no_tables : (given : Option Data) (vs : List Value) → given ≡ Some (array (items_view vs)) → list_all is_table_value (map view vs) ≡ false
    → refusal_if (WrongType 0) (is_some_and_fails (is_array_of is_table_value) given) ≡ Some (WrongType 0)
no_tables given vs is none = rw (is, values_of-view vs, none) refl

pub all_tables : (given : Option Data) (vs : List Value) → given ≡ Some (array (items_view vs)) → list_all is_table_value (map view vs) ≡ true
    → refusal_if (WrongType 0) (is_some_and_fails (is_array_of is_table_value) given) ≡ None
all_tables given vs is all = rw (is, values_of-view vs, all) refl

pub values_are : (given : Option Data) (vs : List Value) → given ≡ Some (array (items_view vs)) → map view vs ≡ rule_values given
values_are given vs is = rw is (sym (values_of-view vs))

-- ---- a rule after others

pub rules_step : (n : ℕ) (earlier : List (List ℕ)) (rule : Members) (rules : List Members) → rule_refusal n earlier rule ≡ None
    → rules_refusal n earlier (rule ∷ rules) ≡ rules_refusal (suc n) (earlier ++ text_at_key (codes "name") rule ∷ []) rules
unfolding rules_refusal
rules_step n earlier rule rules none = rw none (first_of-one _)

pub rules_stop : (n : ℕ) (earlier : List (List ℕ)) (rule : Members) (rules : List Members) (fault : PolicyFault) → rule_refusal n earlier rule ≡ Some fault
    → rules_refusal n earlier (rule ∷ rules) ≡ Some fault
unfolding rules_refusal
rules_stop n earlier rule rules fault some = rw some refl

-- ---- the tables among some values

pub tables_at : (vs : List Value) (i : ℕ) (v : Value) (keys : Members) → i < length vs → v ≡ get_or vs i v → as_table (view v) ≡ Some keys
    → tables_of_values (drop i vs) ≡ keys ∷ tables_of_values (drop (i + 1) vs)
tables_at vs i v keys within is some = rw (drop_more vs i v within, ← is, some) refl

pub tables_over : (vs : List Value) (i : ℕ) (v : Value) → i < length vs → v ≡ get_or vs i v → as_table (view v) ≡ None
    → tables_of_values (drop i vs) ≡ tables_of_values (drop (i + 1) vs)
tables_over vs i v within is none = rw (drop_more vs i v within, ← is, none) refl

-- one more rule is read
pub more_refusals : (refusal : Option PolicyFault) (rules : List Rule) (rule : Rule) (keys : Members) (rest : List Members) (after : List Rule)
    → refusal ≡ rules_refusal (suc (length rules)) (rule_names rules) (keys ∷ rest) → rule_refusal (suc (length rules)) (rule_names rules) keys ≡ None
    → rule ≡ rule_of keys → after ≡ rules ++ rule ∷ [] → refusal ≡ rules_refusal (suc (length after)) (rule_names after) rest
unfolding rule_of
more_refusals refusal rules rule keys rest after before none is more =
    let count : length after ≡ suc (length rules) = ap length more ∙ length-append rules (rule ∷ []) ∙ omega arith in
    let names : rule_names after ≡ rule_names rules ++ rule.name ∷ [] = ap rule_names more ∙ map-append (λ r. r.name) rules (rule ∷ []) in
    before ∙ rules_step _ _ _ _ none ∙ rw (count, names, is) refl

pub more_rules : (all : List Rule) (rules : List Rule) (rule : Rule) (keys : Members) (rest : List Members) (after : List Rule)
    → all ≡ rules ++ map rule_of (keys ∷ rest) → rule ≡ rule_of keys → after ≡ rules ++ rule ∷ [] → all ≡ after ++ map rule_of rest
more_rules all rules rule keys rest after before is more = rw (more, is) (before ∙ sym (append_assoc rules (rule_of keys ∷ []) (map rule_of rest)))

-- ---- the tree

pub too_many : (tree : Members) (vs : List Value) → list_all (λ key. bytes_eq key (codes "rule")) (member_keys tree) ≡ true
    → refusal_if (WrongType 0) (is_some_and_fails (is_array_of is_table_value) (get_member (codes "rule") tree)) ≡ None
    → map view vs ≡ rule_values (get_member (codes "rule") tree) → 200 < length vs → tree_refusal tree ≡ Some TooManyRules
unfolding tree_refusal
too_many tree vs only tables_of_values are many =
    let count : length (rule_values (get_member (codes "rule") tree)) ≡ length vs = ap length (sym are) ∙ length-map vs view in
    rw (only, tables_of_values, count, lt-ltb 200 (length vs) many) refl

pub tree_rules : (tree : Members) (vs : List Value) → list_all (λ key. bytes_eq key (codes "rule")) (member_keys tree) ≡ true
    → refusal_if (WrongType 0) (is_some_and_fails (is_array_of is_table_value) (get_member (codes "rule") tree)) ≡ None
    → map view vs ≡ rule_values (get_member (codes "rule") tree) → length vs ≤ 200
    → tree_refusal tree ≡ rules_refusal 1 [] (rule_tables (get_member (codes "rule") tree))
unfolding tree_refusal
tree_rules tree vs only tables_of_values are few =
    let count : length (rule_values (get_member (codes "rule") tree)) ≡ length vs = ap length (sym are) ∙ length-map vs view in
    let within : nat_lt 200 (length vs) ≡ false = grind (arith, nat_tests) in
    rw (only, tables_of_values, count, within) (first_of-one _)
