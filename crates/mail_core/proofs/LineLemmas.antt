-- Lines: the first line and the rest.
use Rattle.std.proofs.Common.{◌≡◌, ◌≢◌, ℕ, zero, suc, ◌<◌, Bool, true, false, ◌==◌, List, [], ◌∷◌, length, take, drop, get_or, refl, arith, ap, sym, take_all}
use Rattle.std.proofs.Math.Seq.{drop-length}
use Rattle.mail_core.specs.Lines.{lines}

pub lines-nil : lines [] ≡ []
unfolding lines
lines-nil = refl

-- ---- the first line

not_it : (b : Bool) → (b ≡ true → ⊥) → b ≡ false
not_it true h = absurd (h refl)
not_it false h = refl

-- LF first at place n
pub lines-cut : (xs : List ℕ) (n : ℕ) → n < length xs
    → ((k : ℕ) → k < n → (get_or xs k 0 == 10) ≡ true → ⊥) → (get_or xs n 0 == 10) ≡ true
    → lines xs ≡ take (suc n) xs ∷ lines (drop (suc n) xs)
unfolding lines
lines-cut [] n h none here = absurd (let bad : n < 0 = h in omega (arith, bad))
lines-cut (x ∷ xs) zero h none here = rw here refl
lines-cut (x ∷ xs) (suc n) h none here =
    let other : (x == 10) ≡ false = not_it (x == 10) (none 0 (omega arith)) in
    let later = lines-cut xs n (let g : suc n < suc (length xs) = h in omega (arith, g)) (λ k lt e. none (suc k) (omega (arith, lt)) e) here in
    rw (other, later) refl

-- no LF
pub lines-last : (x : ℕ) (xs : List ℕ) → ((k : ℕ) → k < length (x ∷ xs) → (get_or (x ∷ xs) k 0 == 10) ≡ true → ⊥)
    → lines (x ∷ xs) ≡ (x ∷ xs) ∷ []
unfolding lines
lines-last x [] none = rw (not_it (x == 10) (none 0 (omega arith))) refl
lines-last x (y ∷ xs) none =
    let later = lines-last y xs (λ k lt e. none (suc k) (let g : k < suc (length xs) = lt in let w : suc k < suc (suc (length xs)) = omega (arith, g) in w) e) in
    rw (not_it (x == 10) (none 0 (let w : 0 < suc (suc (length xs)) = omega arith in w)), later) refl

pub lines-whole : (xs : List ℕ) → length xs ≢ 0 → ((k : ℕ) → k < length xs → (get_or xs k 0 == 10) ≡ true → ⊥)
    → lines xs ≡ take (length xs) xs ∷ lines (drop (length xs) xs)
lines-whole [] some none = absurd (some refl)
lines-whole (x ∷ xs) some none =
    let one : take (length xs) xs ≡ xs = take_all (length xs) xs (omega arith) in
    let rest : drop (length xs) xs ≡ [] = drop-length xs in
    rw (lines-last x xs none, one, rest) (ap (λ l. (x ∷ xs) ∷ l) (sym lines-nil))
