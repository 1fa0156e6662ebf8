-- Pages that grow by a piece for each item of a list.
use Rattle.std.proofs.Common.{◌≡◌, ◌++◌, ◌∷◌, [], ℕ, List, ◌+◌, ◌<◌, ◌≤◌, length, take, get_or, refl, sym, ap, ◌∙◌}
use Rattle.std.specs.Prelude.{flat_map}
use Rattle.std.proofs.lemmas.List.{take_more, take_all, append_assoc, append-nil}
use Rattle.std.proofs.lemmas.List.Concat.{flat_map-append}

pub grown_by : (A : Type 0) (f : A → List ℕ) (none x : A) (start page page' : List ℕ) (xs : List A) (i : ℕ) → i < length xs → page ≡ start ++ flat_map f (take i xs)
    → x ≡ get_or xs i none → page' ≡ page ++ f x → page' ≡ start ++ flat_map f (take (i + 1) xs)
grown_by A f none x start page page' xs i within h is e = e ∙ ap (λ (p : List ℕ). p ++ f x) h
    ∙ append_assoc start (flat_map f (take i xs)) (f x) ∙ ap (λ (y : A). start ++ (flat_map f (take i xs) ++ f y)) is
    ∙ ap (λ (p : List ℕ). start ++ p) (sym (rw (take_more xs i none within, flat_map-append f (take i xs) (get_or xs i none ∷ []), append-nil) refl))

pub grown : (f : ℕ → List ℕ) (start page page' text : List ℕ) (i : ℕ) → i < length text → page ≡ start ++ flat_map f (take i text)
    → page' ≡ page ++ f (get_or text i 0) → page' ≡ start ++ flat_map f (take (i + 1) text)
grown f start page page' text i within h e = grown_by ℕ f 0 (get_or text i 0) start page page' text i within h refl e

pub full_of : (A : Type 0) (f : A → List ℕ) (start page : List ℕ) (xs : List A) (i : ℕ) → length xs ≤ i → page ≡ start ++ flat_map f (take i xs) → page ≡ start ++ flat_map f xs
full_of A f start page xs i past h = h ∙ ap (λ (ys : List A). start ++ flat_map f ys) (take_all i xs past)

pub full : (f : ℕ → List ℕ) (start page text : List ℕ) (i : ℕ) → length text ≤ i → page ≡ start ++ flat_map f (take i text) → page ≡ start ++ flat_map f text
full f start page text i past h = full_of ℕ f start page text i past h
