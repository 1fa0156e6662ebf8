-- Bytes up to the first of some kind.
use Rattle.std.proofs.Common.{◌≡◌, ◌∙◌, ℕ, ◌+◌, List, [], ◌∷◌, ◌++◌, length, drop, reverse, Bool, true, false, refl, sym, ap, arith}
use Rattle.std.specs.List.{list_all}
use Rattle.std.proofs.lemmas.Bool.{and_parts, true≢false}
use Rattle.std.proofs.lemmas.List.{length-append, drop_at, reverse-append}
use Rattle.std.proofs.lemmas.List.Folds.{list_all-append}

-- ---- tests on all bytes

pub both : (p : ℕ → Bool) (xs ys : List ℕ) → list_all p xs ≡ true → list_all p ys ≡ true → list_all p (xs ++ ys) ≡ true
both p xs ys h k = list_all-append p xs ys ∙ rw (h, k) refl

pub weaker : (p q : ℕ → Bool) → ((b : ℕ) → p b ≡ true → q b ≡ true) → (xs : List ℕ) → list_all p xs ≡ true → list_all q xs ≡ true
weaker p q says [] h = refl
weaker p q says (x ∷ xs) h =
    let parts = and_parts (p x) (list_all p xs) h in
    rw (says x parts.0, weaker p q says xs parts.1) refl

pub backwards : (p : ℕ → Bool) (xs : List ℕ) → list_all p xs ≡ true → list_all p (reverse xs) ≡ true
backwards p [] h = refl
backwards p (x ∷ xs) h =
    let parts = and_parts (p x) (list_all p xs) h in
    let last : list_all p (x ∷ []) ≡ true = rw parts.0 refl in
    ap (list_all p) (reverse-append (x ∷ []) xs) ∙ both p (reverse xs) (x ∷ []) (backwards p xs parts.1) last

-- ---- a byte that is none of those before it

abbrev tail_of : List ℕ → List ℕ
tail_of [] = []
tail_of (x ∷ xs) = xs

abbrev head_of : ℕ → List ℕ → ℕ
head_of d [] = d
head_of d (x ∷ xs) = x

-- two texts that are each cut at their first byte of a kind
pub cut_alike : (p : ℕ → Bool) (c : ℕ) → p c ≡ false → (xs ys r s : List ℕ) → list_all p xs ≡ true → list_all p ys ≡ true
    → xs ++ c ∷ r ≡ ys ++ c ∷ s → (xs ≡ ys) × (r ≡ s)
cut_alike p c none [] [] r s h k e = (refl, ap tail_of e)
cut_alike p c none [] (y ∷ ys) r s h k e =
    let first : c ≡ y = ap (head_of 0) e in
    absurd (true≢false (sym (and_parts (p y) (list_all p ys) k).0 ∙ ap p (sym first) ∙ none))
cut_alike p c none (x ∷ xs) [] r s h k e =
    let first : x ≡ c = ap (head_of 0) e in
    absurd (true≢false (sym (and_parts (p x) (list_all p xs) h).0 ∙ ap p first ∙ none))
cut_alike p c none (x ∷ xs) (y ∷ ys) r s h k e =
    let rest = cut_alike p c none xs ys r s (and_parts (p x) (list_all p xs) h).1 (and_parts (p y) (list_all p ys) k).1 (ap tail_of e) in
    let first : x ≡ y = ap (head_of 0) e in
    (rw (first, rest.0) refl, rest.1)

-- two texts with ends of one length
pub ends_alike : (xs ys r s : List ℕ) → length r ≡ length s → xs ++ r ≡ ys ++ s → r ≡ s
ends_alike xs ys r s long e =
    let all : length xs + length r ≡ length ys + length s = sym (length-append xs r) ∙ ap (λ (l : List ℕ). length l) e ∙ length-append ys s in
    let same : length ys ≡ length xs = omega (arith, all, long) in
    sym (drop_at xs r (length xs) refl) ∙ ap (drop (length xs)) e ∙ drop_at ys s (length xs) same
