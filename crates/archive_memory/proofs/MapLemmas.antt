-- What is found among entries is found among what they stand for.
use Rattle.std.proofs.Common.{◌≡◌, Bool, true, false, ◌||◌, cond, List, [], ◌∷◌, map, filter, refl, ap, sym, ◌∙◌, Some, length}
use Rattle.std.specs.Prelude.{find, option_map}
use Rattle.std.specs.List.{list_any}
use Rattle.std.proofs.lemmas.List.{length-map}

module _ {X Y : Type 0} (p : Y → Bool) (f : X → Y) where
  pub any_map : (xs : List X) → list_any (λ x. p (f x)) xs ≡ list_any p (map f xs)
  any_map [] = refl
  any_map (x ∷ xs) = ap (λ b. p (f x) || b) (any_map xs)

  pub find_map : (xs : List X) → option_map f (find (λ x. p (f x)) xs) ≡ find p (map f xs)
  find_map [] = refl
  find_map (x ∷ xs) = by_test (p (f x)) (find_map xs)
    where
      by_test : (t : Bool) → option_map f (find (λ x. p (f x)) xs) ≡ find p (map f xs)
          → option_map f (cond t (Some x) (find (λ x. p (f x)) xs)) ≡ cond t (Some (f x)) (find p (map f xs))
      by_test true later = refl
      by_test false later = later

  pub filter_map : (xs : List X) → map f (filter (λ x. p (f x)) xs) ≡ filter p (map f xs)
  filter_map [] = refl
  filter_map (x ∷ xs) = by_test (p (f x)) (filter_map xs)
    where
      by_test : (t : Bool) → map f (filter (λ x. p (f x)) xs) ≡ filter p (map f xs)
          → map f (cond t (x ∷ filter (λ x. p (f x)) xs) (filter (λ x. p (f x)) xs)) ≡ cond t (f x ∷ filter p (map f xs)) (filter p (map f xs))
      by_test true later = ap (λ ys. f x ∷ ys) later
      by_test false later = later

  pub count_map : (xs : List X) → length (filter (λ x. p (f x)) xs) ≡ length (filter p (map f xs))
  count_map xs = sym (length-map (filter (λ x. p (f x)) xs) f) ∙ ap length (filter_map xs)
