-- Tokens, one after the other.
use Rattle.std.proofs.Common.{◌≡◌, ℕ, zero, suc, ◌+◌, ◌<◌, ◌≤◌, Bool, true, false, ◌==◌, List, [], ◌∷◌, length, take, drop, get_or, refl, arith, ap, ◌∙◌}
use Rattle.std.proofs.lemmas.List.{drop_more}
use Rattle.std.proofs.lemmas.Bool.{eq-eqb}
use Rattle.mail_core.specs.Lines.{onto_first_line}
use Rattle.mbox_items.specs.Separator.{tokens}

not_it : (b : Bool) → (b ≡ true → ⊥) → b ≡ false
not_it true h = absurd (h refl)
not_it false h = refl

pub tokens-nil : tokens [] ≡ []
unfolding tokens
tokens-nil = refl

pub tokens_none : (xs : List ℕ) → length xs ≡ 0 → tokens xs ≡ []
tokens_none [] h = tokens-nil
tokens_none (x ∷ xs) h = absurd (let bad : suc (length xs) ≡ 0 = h in omega (arith, bad))

after_space : (b : ℕ) (bs : List ℕ) → (b == 32) ≡ true → tokens (b ∷ bs) ≡ tokens bs
unfolding tokens
after_space b bs h = rw h refl

pub space_more : (text : List ℕ) (at : ℕ) → at < length text → get_or text at 0 ≡ 32 → tokens (drop at text) ≡ tokens (drop (at + 1) text)
space_more text at h e = ap tokens (drop_more text at 0 h) ∙ after_space (get_or text at 0) (drop (at + 1) text) (eq-eqb (get_or text at 0) 32 e)

glued : (x y : ℕ) (xs : List ℕ) → (x == 32) ≡ false → (y == 32) ≡ false → tokens (x ∷ y ∷ xs) ≡ onto_first_line x (tokens (y ∷ xs))
unfolding tokens
glued x y xs p q = rw (p, q) refl

-- a token ends before the first space
pub tokens-cut : (xs : List ℕ) (n : ℕ) → 0 < n → n ≤ length xs → ((k : ℕ) → k < n → (get_or xs k 0 == 32) ≡ true → ⊥)
    → (n < length xs → (get_or xs n 0 == 32) ≡ true) → tokens xs ≡ take n xs ∷ tokens (drop n xs)
unfolding tokens
tokens-cut xs zero some h none stop = absurd (omega (arith, some))
tokens-cut [] (suc n) some h none stop = absurd (let bad : suc n ≤ 0 = h in omega (arith, bad))
tokens-cut (x ∷ []) (suc zero) some h none stop = rw (not_it (x == 32) (none 0 (omega arith))) refl
tokens-cut (x ∷ y ∷ xs) (suc zero) some h none stop =
    let space : (y == 32) ≡ true = stop (omega arith) in
    rw (not_it (x == 32) (none 0 (omega arith)), space) refl
tokens-cut (x ∷ []) (suc (suc n)) some h none stop = absurd (let bad : suc (suc n) ≤ 1 = h in omega (arith, bad))
tokens-cut (x ∷ y ∷ xs) (suc (suc n)) some h none stop =
    let other : (y == 32) ≡ false = not_it (y == 32) (none 1 (omega arith)) in
    let later = tokens-cut (y ∷ xs) (suc n) (omega arith) (let g : suc (suc n) ≤ suc (suc (length xs)) = h in let w : suc n ≤ suc (length xs) = omega (arith, g) in w)
    (λ k lt e. none (suc k) (omega (arith, lt)) e)
    (λ lt. stop (let g : suc n < suc (length xs) = lt in let w : suc (suc n) < suc (suc (length xs)) = omega (arith, g) in w)) in
    glued x y xs (not_it (x == 32) (none 0 (omega arith))) other ∙ ap (onto_first_line x) later
