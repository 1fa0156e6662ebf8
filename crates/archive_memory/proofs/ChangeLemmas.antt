-- Entries that are changed one after the other, by what they stand for.
use Rattle.std.proofs.Common.{◌≡◌, ◌≤◌, ◌<◌, ◌+◌, ℕ, zero, suc, List, [], ◌∷◌, ◌++◌, length, get_or, set, take, drop, map, refl, ap, sym, ◌∙◌, arith}
use Rattle.std.proofs.lemmas.List.{append-nil, drop_all, length-map, take_all}
use Rattle.std.proofs.lemmas.List.Edits.{map_over_more}

module _ {X Y : Type 0} (f : X → Y) where
  map_set : (xs : List X) (i : ℕ) (x : X) → map f (set xs i x) ≡ set (map f xs) i (f x)
  map_set [] i x = refl
  map_set (y ∷ ys) zero x = refl
  map_set (y ∷ ys) (suc i) x = ap (λ l. f y ∷ l) (map_set ys i x)

  read_map : (xs : List X) (i : ℕ) (x : X) → f (get_or xs i x) ≡ get_or (map f xs) i (f x)
  read_map [] i x = refl
  read_map (y ∷ ys) zero x = refl
  read_map (y ∷ ys) (suc i) x = read_map ys i x

  set_same : {A : Type 0} (xs : List A) (i : ℕ) (x : A) → x ≡ get_or xs i x → set xs i x ≡ xs
  set_same [] i x is = refl
  set_same (y ∷ ys) zero x is = ap (λ a. a ∷ ys) is
  set_same (y ∷ ys) (suc i) x is = ap (λ l. y ∷ l) (set_same ys i x is)

  -- one more is changed
  pub change_more : (g : Y → Y) (old items : List X) (i : ℕ) (x made : X) → i < length old → map f items ≡ map g (take i (map f old)) ++ drop i (map f old)
      → x ≡ get_or items i x → f made ≡ g (f (get_or items i x)) → map f (set items i made) ≡ map g (take (i + 1) (map f old)) ++ drop (i + 1) (map f old)
  change_more g old items i x made within so_far is changed =
      map_set items i made ∙ ap (set (map f items) i) (changed ∙ ap (λ y. g (f y)) (sym is))
      ∙ map_over_more g (map f old) (map f items) i (f x) (omega (arith, within, length-map old f)) so_far (ap f is ∙ read_map items i x)

  pub change_all : (g : Y → Y) (old items : List X) (i : ℕ) → length old ≤ i → map f items ≡ map g (take i (map f old)) ++ drop i (map f old) → map f items ≡ map g (map f old)
  change_all g old items i past so_far =
      let end : length (map f old) ≤ i = omega (arith, past, length-map old f) in
      so_far ∙ ap (λ l. map g l ++ drop i (map f old)) (take_all i (map f old) end) ∙ ap (λ l. map g (map f old) ++ l) (drop_all i (map f old) end) ∙ append-nil (map g (map f old))

  -- one is changed in what does not show
  pub same_more : (ys : List Y) (items : List X) (i : ℕ) (x made : X) → map f items ≡ ys → x ≡ get_or items i x → f made ≡ f (get_or items i x) → map f (set items i made) ≡ ys
  same_more ys items i x made so_far is same =
      map_set items i made ∙ ap (set (map f items) i) (same ∙ ap f (sym is)) ∙ set_same (map f items) i (f x) (ap f is ∙ read_map items i x) ∙ so_far
