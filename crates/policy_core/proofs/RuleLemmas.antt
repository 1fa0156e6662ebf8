-- The first rule that fits is the head of the rules that fit.
use Rattle.std.proofs.Common.{◌≡◌, ℕ, Bool, true, false, ◌||◌, List, [], ◌∷◌, Option, Some, None, String, Global, refl, ap, map, string_bytes, codes}
use Rattle.std.specs.Prelude.{find, filter, bytes_eq}
use Rattle.std.specs.List.{list_any}
use Rattle.policy_core.specs.Rules.{Rule}
use Rattle.policy_core.specs.Verdict.{Ruling, denied, ruling_of_rule, ruling_of_first_rule}

-- what the rule that was found says, or the denial by `default`
abbrev pub ruling_found : Option Rule → Ruling
ruling_found None = denied (codes "default")
ruling_found (Some r) = ruling_of_rule r

pub head-filter : (test : Rule → Bool) (rules : List Rule) → ruling_of_first_rule (filter test rules) ≡ ruling_found (find test rules)
head-filter test [] = refl
head-filter test (r ∷ rs) = by_test (test r) refl (head-filter test rs)
  where
    by_test : (b : Bool) → test r ≡ b → ruling_of_first_rule (filter test rs) ≡ ruling_found (find test rs)
        → ruling_of_first_rule (filter test (r ∷ rs)) ≡ ruling_found (find test (r ∷ rs))
    by_test true is rest = rw is refl
    by_test false is rest = rw is rest

-- a list among names, and among their bytes
pub any-names : (list : List ℕ) (names : List (String Global))
    → list_any (λ s. bytes_eq (string_bytes s) list) names ≡ list_any (λ name. bytes_eq name list) (map string_bytes names)
any-names list [] = refl
any-names list (s ∷ names) = ap (λ b. bytes_eq (string_bytes s) list || b) (any-names list names)
