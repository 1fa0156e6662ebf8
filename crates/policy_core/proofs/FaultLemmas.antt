-- No tree is refused as no TOML.
use Rattle.std.proofs.Common.{◌≡◌, ◌≢◌, ℕ, suc, Bool, true, false, ◌&&◌, List, [], ◌∷◌, ◌++◌, Option, Some, None, Err, refl, codes}
use Rattle.std.specs.Prelude.{not, length, map, bytes_eq, nat_lt, is_some, is_none, option_and_then}
use Rattle.std.specs.List.{list_all, list_any}
use Rattle.toml.specs.Data.{Data, Members, get_member, as_str}
use Rattle.toml.specs.Parse.{parse_document}
use Rattle.policy_core.specs.declared.faults.PolicyFault.{PolicyFault}
use Rattle.policy_core.specs.declared.faults.PolicyFault.TheVariants.{NotToml, UnknownKey, WrongType, BadName, DuplicateName, BadValue, TooManyRules, Memory}
use Rattle.std.proofs.lemmas.Bool.{false≢true}
use Rattle.policy_core.specs.Rules.{Rule}
use Rattle.policy_core.specs.declared.keys.Key.{Key}
use Rattle.policy_core.specs.Names.{is_name}
use Rattle.policy_core.specs.Written.{refusal_if, first_refusal, is_some_and_fails, is_some_and_passes, is_text_value, is_table_value}
use Rattle.policy_core.specs.Written.{is_array_of, is_rule_key, member_keys, effect_named, rule_values, rule_tables}
use Rattle.policy_core.specs.Written.{name_refusal, effect_refusal, key_row, condition_keys, value_refusal, key_refusal, conditions_refusal, conditions_of, has_no_day}
use Rattle.policy_core.specs.Written.{rule_refusal, rules_refusal, text_at_key, tree_refusal, rules_unless_refused, policy_of_document, written_policy}

-- nothing, or the refusal of a tree
is_tree_fault : Option PolicyFault → Bool
is_tree_fault (Some NotToml) = false
is_tree_fault _ = true

one : (fault : PolicyFault) (found : Bool) → is_tree_fault (Some fault) ≡ true → is_tree_fault (refusal_if fault found) ≡ true
unfolding is_tree_fault
one fault true h = h
one fault false h = refl

first : (faults : List (Option PolicyFault)) → list_all is_tree_fault faults ≡ true → is_tree_fault (first_refusal faults) ≡ true
unfolding is_tree_fault
first [] h = refl
first (None ∷ faults) h = first faults h
first (Some NotToml ∷ faults) h = h
first (Some (UnknownKey n) ∷ faults) h = refl
first (Some (WrongType n) ∷ faults) h = refl
first (Some (BadName n) ∷ faults) h = refl
first (Some (DuplicateName n) ∷ faults) h = refl
first (Some (BadValue n) ∷ faults) h = refl
first (Some TooManyRules ∷ faults) h = refl
first (Some Memory ∷ faults) h = refl

both : (a b : Bool) → a ≡ true → b ≡ true → (a && b) ≡ true
both a b h k = rw (h, k) refl

nothing : is_tree_fault None ≡ true
unfolding is_tree_fault
nothing = refl

unknown : (n : ℕ) (b : Bool) → is_tree_fault (refusal_if (UnknownKey n) b) ≡ true
unfolding is_tree_fault
unknown n b = one (UnknownKey n) b refl

typed : (n : ℕ) (b : Bool) → is_tree_fault (refusal_if (WrongType n) b) ≡ true
unfolding is_tree_fault
typed n b = one (WrongType n) b refl

valued : (n : ℕ) (b : Bool) → is_tree_fault (refusal_if (BadValue n) b) ≡ true
unfolding is_tree_fault
valued n b = one (BadValue n) b refl

named : (n : ℕ) (b : Bool) → is_tree_fault (refusal_if (BadName n) b) ≡ true
unfolding is_tree_fault
named n b = one (BadName n) b refl

twice : (n : ℕ) (b : Bool) → is_tree_fault (refusal_if (DuplicateName n) b) ≡ true
unfolding is_tree_fault
twice n b = one (DuplicateName n) b refl

many : (b : Bool) → is_tree_fault (refusal_if TooManyRules b) ≡ true
unfolding is_tree_fault
many b = one TooManyRules b refl

name-fault : (n : ℕ) (earlier : List (List ℕ)) (given : Option Data) → is_tree_fault (name_refusal n earlier given) ≡ true
unfolding name_refusal
name-fault n earlier given =
    first (
    refusal_if (WrongType n) (is_some_and_fails is_text_value given)
    ∷ refusal_if (BadValue n) (is_none given)
    ∷ refusal_if (BadName n) (is_some_and_fails (λ d. is_some_and_passes is_name (as_str d)) given)
    ∷ refusal_if (DuplicateName n) (is_some_and_passes (λ d. is_some_and_passes (λ name. list_any (bytes_eq name) (codes "default" ∷ earlier)) (as_str d)) given)
    ∷ [])
    (both _ _ (typed n _) (both _ _ (valued n _) (both _ _ (named n _) (both _ _ (twice n _) refl))))

effect-fault : (n : ℕ) (given : Option Data) → is_tree_fault (effect_refusal n given) ≡ true
unfolding effect_refusal
effect-fault n given =
    first (
    refusal_if (WrongType n) (is_some_and_fails is_text_value given)
    ∷ refusal_if (BadValue n) (is_none given)
    ∷ refusal_if (BadValue n) (is_some_and_fails (λ d. is_some_and_passes (λ word. is_some (effect_named word)) (as_str d)) given)
    ∷ [])
    (both _ _ (typed n _) (both _ _ (valued n _) (both _ _ (valued n _) refl)))

value-fault : {A : Type 0} (n : ℕ) (is_typed : Data → Bool) (read : Data → Option A) (given : Option Data)
    → is_tree_fault (option_and_then (value_refusal n is_typed read) given) ≡ true
unfolding value_refusal
value-fault n is_typed read None = nothing
value-fault n is_typed read (Some d) =
    first (refusal_if (WrongType n) (not (is_typed d)) ∷ refusal_if (BadValue n) (is_none (read d)) ∷ [])
    (both _ _ (typed n _) (both _ _ (valued n _) refl))

key-faults : (n : ℕ) (rule : Members) (keys : List Key) → list_all is_tree_fault (map (key_refusal n rule) keys) ≡ true
key-faults n rule [] = refl
key-faults n rule (key ∷ keys) =
    both _ _ (value-fault n (key_row key).is_typed (key_row key).read (get_member (key_row key).word rule)) (key-faults n rule keys)

conditions-fault : (n : ℕ) (rule : Members) (keys : List Key) → is_tree_fault (conditions_refusal n rule keys) ≡ true
unfolding conditions_refusal
conditions-fault n rule keys = first (map (key_refusal n rule) keys) (key-faults n rule keys)

rule-fault : (n : ℕ) (earlier : List (List ℕ)) (rule : Members) → is_tree_fault (rule_refusal n earlier rule) ≡ true
unfolding rule_refusal
rule-fault n earlier rule =
    first (
    refusal_if (UnknownKey n) (not (list_all is_rule_key (member_keys rule)))
    ∷ name_refusal n earlier (get_member (codes "name") rule)
    ∷ effect_refusal n (get_member (codes "effect") rule)
    ∷ conditions_refusal n rule condition_keys
    ∷ refusal_if (BadValue n) (has_no_day (conditions_of rule condition_keys))
    ∷ [])
    (both _ _ (unknown n _)
    (both _ _ (name-fault n earlier (get_member (codes "name") rule))
    (both _ _ (effect-fault n (get_member (codes "effect") rule))
    (both _ _ (conditions-fault n rule condition_keys)
    (both _ _ (valued n _) refl)))))

rules-fault : (n : ℕ) (earlier : List (List ℕ)) (rules : List Members) → is_tree_fault (rules_refusal n earlier rules) ≡ true
unfolding rules_refusal
rules-fault n earlier [] = nothing
rules-fault n earlier (rule ∷ rules) =
    first (rule_refusal n earlier rule ∷ rules_refusal (suc n) (earlier ++ text_at_key (codes "name") rule ∷ []) rules ∷ [])
    (both _ _ (rule-fault n earlier rule) (both _ _ (rules-fault (suc n) (earlier ++ text_at_key (codes "name") rule ∷ []) rules) refl))

tree-fault : (tree : Members) → is_tree_fault (tree_refusal tree) ≡ true
unfolding tree_refusal
tree-fault tree =
    first (
    refusal_if (UnknownKey 0) (not (list_all (λ key. bytes_eq key (codes "rule")) (member_keys tree)))
    ∷ refusal_if (WrongType 0) (is_some_and_fails (is_array_of is_table_value) (get_member (codes "rule") tree))
    ∷ refusal_if TooManyRules (nat_lt 200 (length (rule_values (get_member (codes "rule") tree))))
    ∷ rules_refusal 1 [] (rule_tables (get_member (codes "rule") tree))
    ∷ [])
    (both _ _ (unknown 0 _) (both _ _ (typed 0 _) (both _ _ (many _) (both _ _ (rules-fault 1 [] (rule_tables (get_member (codes "rule") tree))) refl))))

refused : (refusal : Option PolicyFault) (rules : List Rule) → is_tree_fault refusal ≡ true → rules_unless_refused refusal rules ≢ Err NotToml
unfolding is_tree_fault
refused None rules h is = cc
refused (Some NotToml) rules h is = absurd (false≢true h)
refused (Some (UnknownKey n)) rules h is = cc
refused (Some (WrongType n)) rules h is = cc
refused (Some (BadName n)) rules h is = cc
refused (Some (DuplicateName n)) rules h is = cc
refused (Some (BadValue n)) rules h is = cc
refused (Some TooManyRules) rules h is = cc
refused (Some Memory) rules h is = cc

in_tree : (tree : Option Members) → policy_of_document tree ≡ Err NotToml → tree ≡ None
in_tree None is = refl
in_tree (Some tree) is = absurd (refused _ _ (tree-fault tree) is)

-- a text is refused as no TOML only where it writes no tree
pub no_tree : (text : List ℕ) → written_policy text ≡ Err NotToml → parse_document text ≡ None
no_tree text is = in_tree (parse_document text) is
