-- Texts that are shown a run of plain bytes at a time.
use Rattle.std.proofs.Common.{◌≡◌, ℕ, suc, arith, subst, ◌+◌, ◌==◌, nat_lt, Bool, true, false, not, ◌&&◌, ◌||◌, List, [], ◌∷◌, ◌++◌, take, drop, length, refl, sym, ap, ◌∙◌, if◌then◌else◌, codes}
use Rattle.std.specs.Prelude.{cond}
use Rattle.std.specs.List.{prefix_len}
use Rattle.std.proofs.lemmas.List.{append_assoc, append-nil, nil_from_length}
use Rattle.archive_html.specs.Texts.{is_shown_unchanged, html_escaped_byte, html_escaped_text}

plain_is_shown : (b : ℕ) → is_shown_unchanged b ≡ true → html_escaped_byte b ≡ b ∷ []
plain_is_shown b e = cases (nat_lt b 32 || nat_lt 126 b) (b == 38) (b == 60) (b == 62) (b == 34) e
  where
    cases : (o a l g q : Bool) → (not o && (not a && (not l && (not g && not q)))) ≡ true
        → (if o then codes "?" else if a then codes "&amp;" else if l then codes "&lt;" else if g then codes "&gt;" else if q then codes "&quot;" else b ∷ []) ≡ b ∷ []
    cases true a l g q h = absurd (let bad : false ≡ true = h in cc)
    cases false true l g q h = absurd (let bad : false ≡ true = h in cc)
    cases false false true g q h = absurd (let bad : false ≡ true = h in cc)
    cases false false false true q h = absurd (let bad : false ≡ true = h in cc)
    cases false false false false true h = absurd (let bad : false ≡ true = h in cc)
    cases false false false false false h = refl

-- the plain bytes at the beginning are shown as they are
pub plain_run : (text : List ℕ) → html_escaped_text text ≡ take (prefix_len is_shown_unchanged text) text ++ html_escaped_text (drop (prefix_len is_shown_unchanged text) text)
plain_run [] = refl
plain_run (b ∷ bs) = cases (is_shown_unchanged b) refl (plain_run bs)
  where
    cases : (t : Bool) → is_shown_unchanged b ≡ t
        → html_escaped_text bs ≡ take (prefix_len is_shown_unchanged bs) bs ++ html_escaped_text (drop (prefix_len is_shown_unchanged bs) bs)
        → html_escaped_text (b ∷ bs) ≡ take (cond t (1 + prefix_len is_shown_unchanged bs) 0) (b ∷ bs) ++ html_escaped_text (drop (cond t (1 + prefix_len is_shown_unchanged bs) 0) (b ∷ bs))
    cases false e shorter = refl
    cases true e shorter =
        let n = prefix_len is_shown_unchanged bs in
        let one : suc n ≡ 1 + n = omega arith in
        subst (λ (m : ℕ). html_escaped_text (b ∷ bs) ≡ take m (b ∷ bs) ++ html_escaped_text (drop m (b ∷ bs))) one
        (ap (λ (x : List ℕ). x ++ html_escaped_text bs) (plain_is_shown b e) ∙ ap (λ (x : List ℕ). b ∷ x) shorter)

-- what is left of a text behind a page, and the run and what lies behind it
run_of : (page text : List ℕ) {grown plain behind : List ℕ} {n : ℕ} → n ≡ prefix_len is_shown_unchanged text → plain ≡ take n text → behind ≡ drop n text
    → grown ≡ page ++ plain → grown ++ html_escaped_text behind ≡ page ++ html_escaped_text text
run_of page text {plain = plain} {behind = behind} value front back grows =
    ap (λ (x : List ℕ). x ++ html_escaped_text behind) grows
    ∙ append_assoc page plain (html_escaped_text behind)
    ∙ ap (λ (x : List ℕ). page ++ (x ++ html_escaped_text behind)) (front ∙ ap (λ (m : ℕ). take m text) value)
    ∙ ap (λ (x : List ℕ). page ++ (take (prefix_len is_shown_unchanged text) text ++ html_escaped_text x)) (back ∙ ap (λ (m : ℕ). drop m text) value)
    ∙ ap (λ (x : List ℕ). page ++ x) (sym (plain_run text))

-- A page with what is left of a text to be shown holds the same as one that got a run of it, and a byte.
pub run_and_byte : (page text : List ℕ) {start grown longer plain behind after : List ℕ} {n byte : ℕ} → page ++ html_escaped_text text ≡ start
    → n ≡ prefix_len is_shown_unchanged text → plain ≡ take n text → behind ≡ drop n text → grown ≡ page ++ plain
    → behind ≡ byte ∷ after → longer ≡ grown ++ html_escaped_byte byte → longer ++ html_escaped_text after ≡ start
run_and_byte page text {grown = grown} {after = after} {byte = byte} h value front back grows first longer =
    ap (λ (x : List ℕ). x ++ html_escaped_text after) longer
    ∙ append_assoc grown (html_escaped_byte byte) (html_escaped_text after)
    ∙ ap (λ (x : List ℕ). grown ++ html_escaped_text x) (sym first)
    ∙ run_of page text value front back grows
    ∙ h

-- The same where the run is all that is left.
pub run_to_end : (page text : List ℕ) {start grown plain behind : List ℕ} {n : ℕ} → page ++ html_escaped_text text ≡ start
    → n ≡ prefix_len is_shown_unchanged text → plain ≡ take n text → behind ≡ drop n text → grown ≡ page ++ plain
    → length behind ≡ 0 → grown ≡ start
run_to_end page text {grown = grown} {behind = behind} h value front back grows none =
    sym (append-nil grown)
    ∙ ap (λ (x : List ℕ). grown ++ html_escaped_text x) (sym (nil_from_length behind none))
    ∙ run_of page text value front back grows
    ∙ h
