-- Facts of each element of a list.
use Rattle.std.proofs.Common.{◌≡◌, inl, inr, ℕ, zero, suc, drop, Bool, true, false, cond, List, [], ◌∷◌, ◌++◌, map, filter, find, Some, subst}
use Rattle.std.specs.List.{AllByRecursion}
use Rattle.std.proofs.lemmas.Bool.{cases_Bool}

pub all_map : {A B : Type 0} (f : A → B) (P : B → Type 0) (xs : List A) → AllByRecursion P (map f xs) → AllByRecursion (λ x. P (f x)) xs
all_map f P [] all = tt
all_map f P (x ∷ xs) all = (all.0, all_map f P xs all.1)

pub map_all : {A B : Type 0} (f : A → B) (P : B → Type 0) (xs : List A) → AllByRecursion (λ x. P (f x)) xs → AllByRecursion P (map f xs)
map_all f P [] all = tt
map_all f P (x ∷ xs) all = (all.0, map_all f P xs all.1)

pub all_filter : {A : Type 0} (p : A → Bool) (P : A → Type 0) (xs : List A) → AllByRecursion P xs → AllByRecursion P (filter p xs)
all_filter p P [] all = tt
all_filter p P (x ∷ xs) all = elim (p x) as (λ b. AllByRecursion P (cond b (x ∷ filter p xs) (filter p xs))) [ true ↦ (all.0, all_filter p P xs all.1) | false ↦ all_filter p P xs all.1 ]

-- the one that a filter leaves
pub one_filtered : {A : Type 0} (p : A → Bool) (P : A → Type 0) (xs : List A) (x : A) → AllByRecursion P xs → filter p xs ≡ x ∷ [] → P x
one_filtered p P xs x all is = (subst (AllByRecursion P) is (all_filter p P xs all)).0

pub all_last : {A : Type 0} (P : A → Type 0) (xs : List A) (x : A) → AllByRecursion P xs → P x → AllByRecursion P (xs ++ x ∷ [])
all_last P [] x all last = (last, tt)
all_last P (y ∷ xs) x all last = (all.0, all_last P xs x all.1 last)

-- and it passes
pub filter_passes : {A : Type 0} (p : A → Bool) (xs : List A) (x : A) → filter p xs ≡ x ∷ [] → p x ≡ true
filter_passes {A} p xs x is = (subst (AllByRecursion (λ y. p y ≡ true)) is (all_pass xs)).0
  where
    all_pass : (ys : List A) → AllByRecursion (λ y. p y ≡ true) (filter p ys)
    all_pass [] = tt
    all_pass (y ∷ ys) = elim (cases_Bool (p y)) [ inl kept ↦ rw kept (kept, all_pass ys) | inr left ↦ rw left (all_pass ys) ]

pub each : {A : Type 0} (P : A → Type 0) → ((x : A) → P x) → (xs : List A) → AllByRecursion P xs
each P every [] = tt
each P every (x ∷ xs) = (every x, each P every xs)

-- the first that passes
pub found_all : {A : Type 0} (p : A → Bool) (P : A → Type 0) (xs : List A) (x : A) → AllByRecursion P xs → find p xs ≡ Some x → P x
found_all p P [] x all is = absurd cc
found_all p P (y ∷ xs) x all is = elim (cases_Bool (p y)) [
  | inl here ↦ let first = rw here at is in let same : y ≡ x = cc in subst P same all.0
  | inr other ↦ found_all p P xs x all.1 (rw other at is)
]
