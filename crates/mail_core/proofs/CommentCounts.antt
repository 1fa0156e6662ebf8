-- The count of depth, by places and by any depth above 0.
use Rattle.std.proofs.Common.{◌≡◌, ◌≢◌, ℕ, zero, suc, ◌+◌, ◌-◌, ◌<◌, ◌≤◌, Bool, true, false, List, length, refl, arith, ap, ◌∙◌, sym, Option, Some, None, drop, get_or}
use Rattle.mail_core.specs.Comments.{after_closing_paren}
use Rattle.mail_core.proofs.CommentLemmas.{closing_rest-done, closing_rest-quoted, closing_rest-opening, closing_rest-closing, closing_rest-backslash}
use Rattle.mail_core.proofs.CommentLemmas.{closing_rest-ordinary, comment_mark-40, comment_mark-41, comment_mark-92, comment_mark-other}
use Rattle.mail_core.proofs.CommentTable.{drop-at, closing_rest-past}

none_at : (n : ℕ) → 1 ≤ n → n ≡ 0 → ⊥
none_at n h e = omega (arith, h, e)

pub count-quoted : (text : List ℕ) (i n : ℕ) → 1 ≤ n → i < length text → after_closing_paren true n (drop i text) ≡ after_closing_paren false n (drop (i + 1) text)
count-quoted text i zero h lt = absurd (none_at 0 h (omega arith))
count-quoted text i (suc d) h lt = ap (after_closing_paren true (suc d)) (drop-at text i (get_or text i 0) lt refl) ∙ closing_rest-quoted d (get_or text i 0) (drop (i + 1) text)

pub count-opening : (text : List ℕ) (i n : ℕ) → 1 ≤ n → i < length text → get_or text i 0 ≡ 40 → after_closing_paren false n (drop i text) ≡ after_closing_paren false (n + 1) (drop (i + 1) text)
count-opening text i zero h lt e = absurd (none_at 0 h (omega arith))
count-opening text i (suc d) h lt e =
    ap (after_closing_paren false (suc d)) (drop-at text i 40 lt e) ∙ closing_rest-opening d 40 (drop (i + 1) text) comment_mark-40
    ∙ ap (λ (m : ℕ). after_closing_paren false m (drop (i + 1) text)) (let k : suc (suc d) ≡ suc d + 1 = omega arith in k)

pub count-closing : (text : List ℕ) (i n : ℕ) → 1 ≤ n → i < length text → get_or text i 0 ≡ 41 → after_closing_paren false n (drop i text) ≡ after_closing_paren false (n - 1) (drop (i + 1) text)
count-closing text i zero h lt e = absurd (none_at 0 h (omega arith))
count-closing text i (suc d) h lt e =
    ap (after_closing_paren false (suc d)) (drop-at text i 41 lt e) ∙ closing_rest-closing d 41 (drop (i + 1) text) comment_mark-41
    ∙ ap (λ (m : ℕ). after_closing_paren false m (drop (i + 1) text)) (let k : d ≡ suc d - 1 = omega arith in k)

pub count-done : (text : List ℕ) (i n : ℕ) → n ≡ 1 → after_closing_paren false (n - 1) (drop i text) ≡ Some (drop i text)
count-done text i n e = ap (λ (m : ℕ). after_closing_paren false m (drop i text)) (let k : n - 1 ≡ 0 = omega (arith, e) in k) ∙ closing_rest-done false (drop i text)

pub count-backslash : (text : List ℕ) (i n : ℕ) → 1 ≤ n → i < length text → get_or text i 0 ≡ 92 → after_closing_paren false n (drop i text) ≡ after_closing_paren true n (drop (i + 1) text)
count-backslash text i zero h lt e = absurd (none_at 0 h (omega arith))
count-backslash text i (suc d) h lt e = ap (after_closing_paren false (suc d)) (drop-at text i 92 lt e) ∙ closing_rest-backslash d 92 (drop (i + 1) text) comment_mark-92

pub count-ordinary : (text : List ℕ) (i n : ℕ) → 1 ≤ n → i < length text → get_or text i 0 ≢ 40 → get_or text i 0 ≢ 41 → get_or text i 0 ≢ 92
    → after_closing_paren false n (drop i text) ≡ after_closing_paren false n (drop (i + 1) text)
count-ordinary text i zero h lt p q r = absurd (none_at 0 h (omega arith))
count-ordinary text i (suc d) h lt p q r =
    ap (after_closing_paren false (suc d)) (drop-at text i (get_or text i 0) lt refl) ∙ closing_rest-ordinary d (get_or text i 0) (drop (i + 1) text) (comment_mark-other (get_or text i 0) p q r)

pub count-past : (text : List ℕ) (q : Bool) (i n : ℕ) → 1 ≤ n → length text ≤ i → after_closing_paren q n (drop i text) ≡ None
count-past text q i zero h le = absurd (none_at 0 h (omega arith))
count-past text q i (suc d) h le = closing_rest-past q d text i le

-- at a flag that is known
pub at-flag : (q r : Bool) (n : ℕ) (text : List ℕ) (o : Option (List ℕ)) → q ≡ r → after_closing_paren q n text ≡ o → after_closing_paren r n text ≡ o
at-flag q r n text o e h = ap (λ (b : Bool). after_closing_paren b n text) (sym e) ∙ h
