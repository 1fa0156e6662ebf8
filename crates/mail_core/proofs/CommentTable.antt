-- The table of the comments that are closed, from the last place back.
use Rattle.std.proofs.Common.{◌≡◌, ℕ, zero, suc, ◌+◌, ◌<◌, ◌≤◌, Bool, true, false, List, [], ◌∷◌, ◌++◌, ◌-◌, nat_lt, length, length-append}
use Rattle.std.proofs.Common.{length-drop, drop-drop, refl, arith, ap, ◌∙◌, sym, None, drop, get_or, drop-cons, add-one}
use Rattle.std.proofs.lemmas.Grind.{common_steps}
use Rattle.std.proofs.lemmas.Bool.Decides.{nat_tests}
use Rattle.std.proofs.lemmas.List.{get_or_at, get_or_append_left}
use Rattle.mail_core.specs.Comments.{CommentByteKind, comment_byte_kind, after_closing_paren}
use Rattle.mail_core.specs.Comments.CommentByteKind.{opening, closing, escape, ordinary}
use Rattle.mail_core.specs.Closings.{closing_count_before, comments_closed_in, comment_closed_flags}
use Rattle.mail_core.proofs.CommentLemmas.{closing_rest-end, closing_rest-quoted, closing_rest-opening, closing_rest-closing, closing_rest-backslash, closing_rest-ordinary}

pub drop-past : (xs : List ℕ) (k : ℕ) → length xs ≤ k → drop k xs ≡ []
drop-past xs k h = grind (arith, common_steps, h)

-- nothing closes from the end on
pub closing_rest-past : (q : Bool) (d : ℕ) (text : List ℕ) (k : ℕ) → length text ≤ k → after_closing_paren q (suc d) (drop k text) ≡ None
closing_rest-past q d text k h = ap (after_closing_paren q (suc d)) (drop-past text k h) ∙ closing_rest-end q d

-- a byte and what follows
pub drop-at : (text : List ℕ) (k b : ℕ) → k < length text → get_or text k 0 ≡ b → drop k text ≡ b ∷ drop (k + 1) text
drop-at text k b h e = rw add-one (drop-cons text k 0 h ∙ ap (λ (x : ℕ). x ∷ drop (suc k) text) e)

-- no text closes more than the count says
pub closed-enough : (q : Bool) (d : ℕ) (text : List ℕ) → comments_closed_in q text ≤ d → after_closing_paren q (suc d) text ≡ None
unfolding comments_closed_in
closed-enough q d [] h = closing_rest-end q d
closed-enough true d (b ∷ bs) h = closing_rest-quoted d b bs ∙ closed-enough false d bs h
closed-enough false d (b ∷ bs) h = go (comment_byte_kind b) d refl h (λ q d. closed-enough q d bs)
  where
    go : (m : CommentByteKind) (d : ℕ) → comment_byte_kind b ≡ m → closing_count_before m (comments_closed_in false bs) (comments_closed_in true bs) ≤ d
        → ((q : Bool) (d : ℕ) → comments_closed_in q bs ≤ d → after_closing_paren q (suc d) bs ≡ None) → after_closing_paren false (suc d) (b ∷ bs) ≡ None
    go opening d e h later = closing_rest-opening d b bs e ∙ later false (suc d) (let g : comments_closed_in false bs - 1 ≤ d = h in omega (arith, g))
    go closing zero e h later = absurd (let g : comments_closed_in false bs + 1 ≤ 0 = h in omega (arith, g))
    go closing (suc d) e h later = closing_rest-closing (suc d) b bs e ∙ later false d (let g : comments_closed_in false bs + 1 ≤ suc d = h in omega (arith, g))
    go escape d e h later = closing_rest-backslash d b bs e ∙ later true d h
    go ordinary d e h later = closing_rest-ordinary d b bs e ∙ later false d h

-- one byte more, from the last place back
pub closed-none : (q : Bool) (text : List ℕ) (k : ℕ) → length text ≤ k → comments_closed_in q (drop k text) ≡ 0
unfolding comments_closed_in
closed-none true text k h = ap (comments_closed_in true) (drop-past text k h)
closed-none false text k h = ap (comments_closed_in false) (drop-past text k h)

pub closed-step : (text : List ℕ) (i k : ℕ) → k ≡ i + 1 → i < length text
    → comments_closed_in false (drop i text) ≡ closing_count_before (comment_byte_kind (get_or text i 0)) (comments_closed_in false (drop k text)) (comments_closed_in true (drop k text))
unfolding comments_closed_in
closed-step text i k e h = rw e (ap (comments_closed_in false) (drop-at text i (get_or text i 0) h refl))

pub closed-quoted : (text : List ℕ) (i k : ℕ) → k ≡ i + 1 → i < length text → comments_closed_in true (drop i text) ≡ comments_closed_in false (drop k text)
unfolding comments_closed_in
closed-quoted text i k e h = rw e (ap (comments_closed_in true) (drop-at text i (get_or text i 0) h refl))

pub closings-none : (text : List ℕ) (k : ℕ) → length text ≤ k → comment_closed_flags (drop k text) ≡ []
unfolding comment_closed_flags
closings-none text k h = ap comment_closed_flags (drop-past text k h)

pub closings-step : (text : List ℕ) (i k : ℕ) → k ≡ i + 1 → i < length text
    → comment_closed_flags (drop i text) ≡ comment_closed_flags (drop k text) ++ nat_lt 0 (comments_closed_in false (drop k text)) ∷ []
unfolding comment_closed_flags
closings-step text i k e h = rw e (ap comment_closed_flags (drop-at text i (get_or text i 0) h refl))

-- a byte of this mark, and the table with one place more
pub closed-byte : (text : List ℕ) (i k next after : ℕ) (m : CommentByteKind) → k ≡ i + 1 → i < length text → comment_byte_kind (get_or text i 0) ≡ m
    → next ≡ comments_closed_in false (drop k text) → after ≡ comments_closed_in true (drop k text) → closing_count_before m next after ≡ comments_closed_in false (drop i text)
closed-byte text i k next after m e h is n a = sym (closed-step text i k e h ∙ rw (is, n, a) refl)

pub closings-pushed : (text : List ℕ) (closed new : List Bool) (i k next : ℕ) → k ≡ i + 1 → i < length text → closed ≡ comment_closed_flags (drop k text)
    → next ≡ comments_closed_in false (drop k text) → new ≡ closed ++ nat_lt 0 next ∷ [] → new ≡ comment_closed_flags (drop i text)
closings-pushed text closed new i k next e h known n pushed =
    pushed ∙ ap (λ (marks : List Bool). marks ++ nat_lt 0 next ∷ []) known ∙ ap (λ (count : ℕ). comment_closed_flags (drop k text) ++ nat_lt 0 count ∷ []) n ∙ sym (closings-step text i k e h)

-- what the table holds
pub closings-length : (text : List ℕ) → length (comment_closed_flags text) ≡ length text
unfolding comment_closed_flags
closings-length [] = refl
closings-length (b ∷ bs) =
    let more = length-append (comment_closed_flags bs) (nat_lt 0 (comments_closed_in false bs) ∷ []) in
    let same = closings-length bs in
    let e : length (comment_closed_flags bs ++ nat_lt 0 (comments_closed_in false bs) ∷ []) ≡ suc (length bs) = omega (arith, more, same) in e

closing-at : (text : List ℕ) (k : ℕ) (other : Bool) → k < length text
    → get_or (comment_closed_flags text) (length text - 1 - k) other ≡ nat_lt 0 (comments_closed_in false (drop (k + 1) text))
unfolding comment_closed_flags
closing-at [] k other h = absurd (let bad : k < 0 = h in omega (arith, bad))
closing-at (b ∷ bs) zero other h =
    let at : suc (length bs) - 1 - 0 ≡ length (comment_closed_flags bs) = omega (arith, closings-length bs) in
    get_or_at (comment_closed_flags bs) (nat_lt 0 (comments_closed_in false bs)) [] other (suc (length bs) - 1 - 0) (sym at)
closing-at (b ∷ bs) (suc k) other h =
    let low : k < length bs = (let g : suc k < suc (length bs) = h in omega (arith, g)) in
    let at : suc (length bs) - 1 - suc k ≡ length bs - 1 - k = omega (arith, low) in
    get_or_append_left (comment_closed_flags bs) (nat_lt 0 (comments_closed_in false bs) ∷ []) other (suc (length bs) - 1 - suc k) (omega (arith, low, closings-length bs))
    ∙ ap (λ (n : ℕ). get_or (comment_closed_flags bs) n other) at
    ∙ closing-at bs k other low
    ∙ ap (λ (rest : List ℕ). nat_lt 0 (comments_closed_in false rest)) (drop-more bs k)
  where
    drop-more : (bs : List ℕ) (k : ℕ) → drop (k + 1) bs ≡ drop (suc k + 1) (b ∷ bs)
    drop-more bs k = sym (ap (λ (n : ℕ). drop n (b ∷ bs)) (let e : suc k + 1 ≡ suc (k + 1) = omega arith in e))

-- where the table of the places from `from` on says that a comment is not closed, it is not
pub not_closed : (text : List ℕ) (closed : List Bool) (from at : ℕ) (other : Bool) → closed ≡ comment_closed_flags (drop from text) → from ≤ at → at < length text
    → get_or closed (length text - 1 - at) other ≡ false → after_closing_paren false 1 (drop (at + 1) text) ≡ None
not_closed text closed from at other e low high none =
    let rest : List ℕ = drop from text in
    let len : length rest ≡ length text - from = length-drop from text in
    let place : length rest - 1 - (at - from) ≡ length text - 1 - at = omega (arith, len, low, high) in
    let behind : drop (at - from + 1) rest ≡ drop (at + 1) text =
    drop-drop (at - from + 1) from text ∙ ap (λ (n : ℕ). drop n text) (let s : from + (at - from + 1) ≡ at + 1 = omega (arith, low) in s) in
    let is : nat_lt 0 (comments_closed_in false (drop (at - from + 1) rest)) ≡ false =
    sym (closing-at rest (at - from) other (omega (arith, len, low, high)))
    ∙ ap (λ (n : ℕ). get_or (comment_closed_flags rest) n other) place
    ∙ ap (λ (marks : List Bool). get_or marks (length text - 1 - at) other) (sym e)
    ∙ none in
    let zero_closed : comments_closed_in false (drop (at + 1) text) ≤ 0 = few (comments_closed_in false (drop (at + 1) text)) (rw behind at is) in
    closed-enough false 0 (drop (at + 1) text) zero_closed
  where
    few : (n : ℕ) → nat_lt 0 n ≡ false → n ≤ 0
    few n h = grind (arith, nat_tests, h)
