-- Pieces of what is written.
use Rattle.std.proofs.Common.{◌≡◌, ℕ, zero, suc, ◌+◌, ◌-◌, ◌^◌, ◌<◌, ◌≤◌, min, List, [], ◌∷◌, ◌++◌, length, take, drop, refl, arith, ap, ◌∙◌, sym, codes, append_assoc, length-append, length-take}
use Rattle.std.proofs.lemmas.List.{take_at}
use Rattle.mbox_items.specs.Written.{AppendsPrefixOfText}

take_front : (x r : List ℕ) (k : ℕ) → k ≡ length x → take k (x ++ r) ≡ x
take_front x r k e = take_at x r k (sym e)

abbrev from : List ℕ
from = codes "From "

-- three pieces, put one behind the other
pub short_is : (s e r a b c : List ℕ) → length e ≡ 26
    → a ≡ codes "From " ++ r
    → b ≡ take 5 a ++ (s ++ drop (5 + length s) a)
    → c ≡ take (5 + length s) b ++ (e ++ drop (5 + length s + length e) b)
    → take (31 + length s) c ≡ codes "From " ++ (s ++ e)
short_is s e r a b c len ea eb ec =
    let fa : take 5 a ≡ from = ap (take 5) ea ∙ take_front from r 5 refl in
    let gb : b ≡ (from ++ s) ++ drop (5 + length s) a = eb ∙ ap (λ x. x ++ (s ++ drop (5 + length s) a)) fa ∙ sym (append_assoc from s (drop (5 + length s) a)) in
    let lb : 5 + length s ≡ length (from ++ s) = omega (arith, length-append from s) in
    let fb : take (5 + length s) b ≡ from ++ s = ap (take (5 + length s)) gb ∙ take_front (from ++ s) (drop (5 + length s) a) (5 + length s) lb in
    let gc : c ≡ ((from ++ s) ++ e) ++ drop (5 + length s + length e) b =
    ec ∙ ap (λ x. x ++ (e ++ drop (5 + length s + length e) b)) fb ∙ sym (append_assoc (from ++ s) e (drop (5 + length s + length e) b)) in
    let lc : 31 + length s ≡ length ((from ++ s) ++ e) = omega (arith, len, lb, length-append (from ++ s) e) in
    ap (take (31 + length s)) gc ∙ take_front ((from ++ s) ++ e) (drop (5 + length s + length e) b) (31 + length s) lc ∙ append_assoc from s e

take_past : (x r : List ℕ) (k : ℕ) → take (length x + k) (x ++ r) ≡ x ++ take k r
take_past [] r k = ap (λ n. take n r) (let z : 0 + k ≡ k = omega arith in z)
take_past (a ∷ x) r k = ap (λ n. take n (a ∷ (x ++ r))) (let z : suc (length x) + k ≡ suc (length x + k) = omega arith in z) ∙ ap (λ l. a ∷ l) (take_past x r k)

-- cut short in the first of two pieces
pub first_short : (before after a b : List ℕ) (n : ℕ) → AppendsPrefixOfText before after a n → AppendsPrefixOfText before after (a ++ b) n
first_short before after a b n h = (
  omega (arith, h.0, length-append a b),
  h.1 ∙ ap (λ x. before ++ x) (sym (take_less a b n h.0)),
)
  where
    take_less : (a b : List ℕ) (n : ℕ) → n ≤ length a → take n (a ++ b) ≡ take n a
    take_less a b zero h = refl
    take_less [] b (suc n) h = absurd (let bad : suc n ≤ 0 = h in omega (arith, bad))
    take_less (x ∷ a) b (suc n) h = ap (λ l. x ∷ l) (take_less a b n (let g : suc n ≤ suc (length a) = h in omega (arith, g)))

-- and in the second
pub second_short : (before mid after a b : List ℕ) (n k : ℕ) → mid ≡ before ++ a → AppendsPrefixOfText mid after b n → k ≡ length a + n → AppendsPrefixOfText before after (a ++ b) k
second_short before mid after a b n k m h e = (
  omega (arith, h.0, e, length-append a b),
  h.1 ∙ ap (λ x. x ++ take n b) m ∙ append_assoc before a (take n b) ∙ ap (λ x. before ++ x) (sym (take_past a b n) ∙ ap (λ j. take j (a ++ b)) (sym e)),
)

-- a count that fits is exact
pub exact_count : (before mid after a b : List ℕ) (n len k : ℕ) → mid ≡ before ++ a → AppendsPrefixOfText mid after b n → len ≡ min (length a) (2 ^ 64 - 1)
    → k ≡ min (len + n) (2 ^ 64 - 1) → length after < 2 ^ 64 → k ≡ length a + n
exact_count before mid after a b n len k m h e s low =
    omega (arith, e, s, low, h.0, ap length m, length-append before a, ap length h.1, length-append mid (take n b), length-take n b)
