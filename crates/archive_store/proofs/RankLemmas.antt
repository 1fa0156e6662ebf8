-- The standing of a person.
use Rattle.std.proofs.Common.{◌≡◌, ℕ, ℤ, true, false, Bool, ◌&&◌, cond, List, [], ◌∷◌, None, refl, sym, ap, ◌∙◌}
use Rattle.std.specs.Prelude.{map, filter}
use Rattle.archive_model.specs.Records.{Archive}
use Rattle.archive_model.specs.Questions.{max_rank, grant_holds_on, is_grant_of, has_person, has_list, standing_of, standing_refusal}
use Rattle.archive_database.specs.Ranks.{highest_rank_on}

kept_twice : {X : Type 0} (b c : Bool) (x : X) (xs ys : List X) (q : X → Bool) → q x ≡ c → filter q xs ≡ ys
    → filter q (cond b (x ∷ xs) xs) ≡ cond (b && c) (x ∷ ys) ys
kept_twice true true x xs ys q e is = rw (e, is) refl
kept_twice true false x xs ys q e is = rw (e, is) refl
kept_twice false c x xs ys q e is = is

filter-filter : {X : Type 0} (p q : X → Bool) (xs : List X) → filter q (filter p xs) ≡ filter (λ x. p x && q x) xs
filter-filter p q [] = refl
filter-filter p q (x ∷ xs) = kept_twice (p x) (q x) x (filter p xs) (filter (λ x. p x && q x) xs) q refl (filter-filter p q xs)

pub standing_is : (person list : List ℕ) (day d rank : ℤ) (a : Archive) → d ≡ day → rank ≡ highest_rank_on d (filter (is_grant_of person list) a.grants)
    → rank ≡ standing_of a person list day
standing_is person list day d rank a e is =
    is ∙ ap (λ d. highest_rank_on d (filter (is_grant_of person list) a.grants)) e
    ∙ ap (λ gs. max_rank (map (λ g. g.rank) gs)) (filter-filter (is_grant_of person list) (grant_holds_on day) a.grants)

pub is_answered : (person list : List ℕ) (a : Archive) → true ≡ has_person a person → true ≡ has_list a list → standing_refusal a person list ≡ None
is_answered person list a p l = rw (sym p, sym l) refl
