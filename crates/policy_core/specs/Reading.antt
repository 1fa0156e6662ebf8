-- What a reader of a key's value answers, beside the definitions of `Written`.
use Rattle.std.specs.Prelude.{◌≡◌, ◌≢◌, ℕ, List, not, [], ◌∷◌, map, filter_map, Option, Some, None, Result, MatchResult}
use Rattle.toml.specs.Data.{Data, Members, as_str, as_table}
use Rattle.toml.specs.View.{view}
use Rattle.toml.specs.declared.value.Value.{Value}
use Rattle.policy_core.specs.declared.faults.PolicyFault.{PolicyFault}
use Rattle.policy_core.specs.declared.faults.PolicyFault.TheVariants.{WrongType, BadValue, Memory}
use Rattle.policy_core.specs.Rules.{Rule}
use Rattle.policy_core.specs.Written.{has_any_member, array_values, is_text_array, refusal_if, first_refusal}

-- the value where nothing is refused, else the refusal
abbrev pub ReadsOrRefuses : {T : Type 0} → Result T PolicyFault → Option PolicyFault → (T → Type 0) → Type 0
ReadsOrRefuses result refusal IsValue = MatchResult result (λ value. (refusal ≡ None) × IsValue value) (λ fault. refusal ≡ Some fault)

-- the same of a reader that takes memory, the want of which may come in place of either
abbrev pub ReadsRefusesOrLacksMemory : {T : Type 0} → Result T PolicyFault → Option PolicyFault → (T → Type 0) → Type 0
ReadsRefusesOrLacksMemory result refusal IsValue =
    MatchResult result (λ value. (refusal ≡ None) × IsValue value) (λ fault. fault ≢ Memory → refusal ≡ Some fault)

-- the texts among some values
abbrev pub texts_of_values : List Value → List (List ℕ)
texts_of_values values = filter_map as_str (map view values)

-- the tables among some values
abbrev pub tables_of_values : List Value → List Members
tables_of_values values = filter_map as_table (map view values)

abbrev pub rule_names : List Rule → List (List ℕ)
rule_names rules = map (λ r. r.name) rules

-- what is wrong with a value that is to be an array of one text or more
abbrev pub text_array_refusal : ℕ → Data → Option PolicyFault
text_array_refusal n d = first_refusal (
    refusal_if (WrongType n) (not (is_text_array d))
    ∷ refusal_if (BadValue n) (not (has_any_member (array_values d)))
    ∷ [])
