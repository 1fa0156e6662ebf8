-- One step of each function that goes over a text.
use Rattle.std.proofs.Common.{◌≡◌, ◌≢◌, ℕ, ◌+◌, ◌<◌, ◌≤◌, Bool, true, false, ◌==◌, List, [], ◌∷◌, length, refl, arith, ap, ◌∙◌, sym, Some, None, drop, get_or}
use Rattle.std.proofs.lemmas.Bool.Decides.{nat_tests}
use Rattle.std.proofs.lemmas.List.{drop_more, drop_all}
use Rattle.std.specs.Char.{to_ascii_lowercase}
use Rattle.subject_core.specs.Removal.{after_literal, after_spaces, after_closing_bracket}

pub is_it : (b k : ℕ) → (b == k) ≡ true → b ≡ k
is_it b k h = grind (arith, nat_tests, h)

pub is_not : (b k : ℕ) → (b == k) ≡ false → b ≢ k
is_not b k h e = grind (arith, nat_tests, h, e)

pub equal : (b k : ℕ) → b ≡ k → (b == k) ≡ true
equal b k h = grind (arith, nat_tests, h)

pub not_equal : (b k : ℕ) → b ≢ k → (b == k) ≡ false
not_equal b k h = go (b == k) refl
  where
    go : (t : Bool) → (b == k) ≡ t → t ≡ false
    go false e = refl
    go true e = absurd (h (is_it b k e))

pub after-nothing : (text : List ℕ) → after_literal [] text ≡ Some text
unfolding after_literal
after-nothing text = refl

pub after-past : (k : ℕ) (ks : List ℕ) → after_literal (k ∷ ks) [] ≡ None
unfolding after_literal
after-past k ks = refl

pub after-same : (k b : ℕ) (ks bs : List ℕ) → to_ascii_lowercase b ≡ k → after_literal (k ∷ ks) (b ∷ bs) ≡ after_literal ks bs
unfolding after_literal
after-same k b ks bs e = rw (equal (to_ascii_lowercase b) k e) refl

pub after-other : (k b : ℕ) (ks bs : List ℕ) → to_ascii_lowercase b ≢ k → after_literal (k ∷ ks) (b ∷ bs) ≡ None
unfolding after_literal
after-other k b ks bs e = rw (not_equal (to_ascii_lowercase b) k e) refl

-- the same at a place of the literal
pub letter-same : (ks text rest : List ℕ) (i b k : ℕ) → i < length ks → k ≡ get_or ks i 0 → text ≡ b ∷ rest → to_ascii_lowercase b ≡ k
    → after_literal (drop i ks) text ≡ after_literal (drop (i + 1) ks) rest
letter-same ks text rest i b k l e t s =
    ap (λ (xs : List ℕ). after_literal xs text) (drop_more ks i 0 l)
    ∙ ap (after_literal (get_or ks i 0 ∷ drop (i + 1) ks)) t
    ∙ after-same (get_or ks i 0) b (drop (i + 1) ks) rest (s ∙ e)

pub letter-other : (ks text rest : List ℕ) (i b k : ℕ) → i < length ks → k ≡ get_or ks i 0 → text ≡ b ∷ rest → to_ascii_lowercase b ≢ k → after_literal (drop i ks) text ≡ None
letter-other ks text rest i b k l e t s =
    ap (λ (xs : List ℕ). after_literal xs text) (drop_more ks i 0 l)
    ∙ ap (after_literal (get_or ks i 0 ∷ drop (i + 1) ks)) t
    ∙ after-other (get_or ks i 0) b (drop (i + 1) ks) rest (λ (h : to_ascii_lowercase b ≡ get_or ks i 0). s (h ∙ sym e))

pub letter-past : (ks text : List ℕ) (i : ℕ) → i < length ks → length text ≡ 0 → after_literal (drop i ks) text ≡ None
letter-past ks [] i l e = ap (λ (xs : List ℕ). after_literal xs []) (drop_more ks i 0 l) ∙ after-past (get_or ks i 0) (drop (i + 1) ks)
letter-past ks (b ∷ bs) i l e = absurd (omega arith)

pub letter-end : (ks text : List ℕ) (i : ℕ) → length ks ≤ i → after_literal (drop i ks) text ≡ Some text
letter-end ks text i l = ap (λ (xs : List ℕ). after_literal xs text) (drop_all i ks l) ∙ after-nothing text

pub spaces-end : after_spaces [] ≡ []
unfolding after_spaces
spaces-end = refl

pub spaces-more : (b : ℕ) (bs : List ℕ) → b ≡ 32 → after_spaces (b ∷ bs) ≡ after_spaces bs
unfolding after_spaces
spaces-more b bs e = rw (equal b 32 e) refl

pub spaces-done : (b : ℕ) (bs : List ℕ) → b ≢ 32 → after_spaces (b ∷ bs) ≡ b ∷ bs
unfolding after_spaces
spaces-done b bs e = rw (not_equal b 32 e) refl

pub closing-end : after_closing_bracket [] ≡ None
unfolding after_closing_bracket
closing-end = refl

pub closing-here : (b : ℕ) (bs : List ℕ) → b ≡ 93 → after_closing_bracket (b ∷ bs) ≡ Some bs
unfolding after_closing_bracket
closing-here b bs e = rw (equal b 93 e) refl

pub closing-opened : (b : ℕ) (bs : List ℕ) → b ≡ 91 → after_closing_bracket (b ∷ bs) ≡ None
unfolding after_closing_bracket
closing-opened b bs e = rw (not_equal b 93 (λ (h : b ≡ 93). omega arith), equal b 91 e) refl

pub closing-more : (b : ℕ) (bs : List ℕ) → b ≢ 91 → b ≢ 93 → after_closing_bracket (b ∷ bs) ≡ after_closing_bracket bs
unfolding after_closing_bracket
closing-more b bs p q = rw (not_equal b 93 q, not_equal b 91 p) refl

pub empty : (t : List ℕ) → length t ≡ 0 → t ≡ []
empty [] h = refl
empty (b ∷ bs) h = absurd (omega (arith, h))
