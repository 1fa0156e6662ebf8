-- Unfolding, angle brackets and trimming, by places of a text.
use Rattle.std.proofs.Common.{◌≡◌, ℕ, zero, suc, ◌+◌, ◌<◌, ◌≤◌, Bool, true, false, ◌==◌, ◌&&◌, ◌||◌, List, [], ◌∷◌, ◌++◌, length, take, drop, get_or, refl, arith, ap, ◌∙◌, sym, Some, None, add-one}
use Rattle.std.proofs.Math.Seq.{take-suc}
use Rattle.mail_core.specs.Fields.{is_wsp, is_lf_before_wsp, is_folding_line_end, unfolded}
use Rattle.mail_core.specs.Author.{after_last_byte, before_byte, trim_end}
use Rattle.mail_core.proofs.CommentTable.{drop-at, drop-past}

pub folds-over : (text : List ℕ) (k : ℕ) → length text ≤ k → is_lf_before_wsp (drop k text) ≡ false
folds-over text k h = ap is_lf_before_wsp (drop-past text k h)

no_more : (b : Bool) → (b && false) ≡ false
no_more true = refl
no_more false = refl

pub folds-last : (text : List ℕ) (k : ℕ) → k < length text → k + 1 ≡ length text → is_lf_before_wsp (drop k text) ≡ false
folds-last text k lt e =
    ap is_lf_before_wsp (drop-at text k (get_or text k 0) lt refl ∙ ap (λ (l : List ℕ). get_or text k 0 ∷ l) (drop-past text (k + 1) (omega (arith, e)))) ∙ no_more (get_or text k 0 == 10)

pub folds-at : (text : List ℕ) (k : ℕ) → k + 1 < length text → is_lf_before_wsp (drop k text) ≡ ((get_or text k 0 == 10) && is_wsp (get_or text (k + 1) 0))
folds-at text k lt =
    ap is_lf_before_wsp (drop-at text k (get_or text k 0) (omega (arith, lt)) refl ∙ ap (λ (l : List ℕ). get_or text k 0 ∷ l) (drop-at text (k + 1) (get_or text (k + 1) 0) lt refl))

pub fold-at : (text : List ℕ) (k : ℕ) → k < length text → is_folding_line_end (drop k text) ≡ (is_lf_before_wsp (drop k text) || ((get_or text k 0 == 13) && is_lf_before_wsp (drop (k + 1) text)))
fold-at text k lt =
    let cut = drop-at text k (get_or text k 0) lt refl in
    ap is_folding_line_end cut ∙ ap (λ (l : List ℕ). is_lf_before_wsp l || ((get_or text k 0 == 13) && is_lf_before_wsp (drop (k + 1) text))) (sym cut)

pub unfolded-drops : (text : List ℕ) (k : ℕ) → k < length text → is_folding_line_end (drop k text) ≡ true → unfolded (drop k text) ≡ unfolded (drop (k + 1) text)
unfolding unfolded
unfolded-drops text k lt h =
    let cut = drop-at text k (get_or text k 0) lt refl in
    ap unfolded cut ∙ rw (sym (ap is_folding_line_end cut) ∙ h, unfolded) refl

pub unfolded-keeps : (text : List ℕ) (k : ℕ) → k < length text → is_folding_line_end (drop k text) ≡ false → unfolded (drop k text) ≡ get_or text k 0 ∷ unfolded (drop (k + 1) text)
unfolding unfolded
unfolded-keeps text k lt h =
    let cut = drop-at text k (get_or text k 0) lt refl in
    ap unfolded cut ∙ rw (sym (ap is_folding_line_end cut) ∙ h, unfolded) refl

pub unfolded-over : (text : List ℕ) (k : ℕ) → length text ≤ k → unfolded (drop k text) ≡ []
unfolding unfolded
unfolded-over text k h = ap unfolded (drop-past text k h)

not_it : (b : Bool) → (b ≡ true → ⊥) → b ≡ false
not_it true h = absurd (h refl)
not_it false h = refl

abbrev NoneFrom : ℕ → ℕ → List ℕ → Type 0
NoneFrom k i xs = (j : ℕ) → i ≤ j → j < length xs → (get_or xs j 0 == k) ≡ true → ⊥

pub after_last-none : (k : ℕ) (xs : List ℕ) → NoneFrom k 0 xs → after_last_byte k xs ≡ None
after_last-none k [] h = refl
after_last-none k (x ∷ xs) h =
    let later = after_last-none k xs (λ j low lt e. h (suc j) (omega arith) (let g : suc j < suc (length xs) = omega (arith, lt) in g) e) in
    let here = not_it (x == k) (h 0 (omega arith) (let g : 0 < suc (length xs) = omega arith in g)) in
    rw (later, here) refl

pub after_last-at : (k : ℕ) (xs : List ℕ) (n : ℕ) → n < length xs → (get_or xs n 0 == k) ≡ true → NoneFrom k (n + 1) xs → after_last_byte k xs ≡ Some (drop (n + 1) xs)
after_last-at k [] n lt e h = absurd (let bad : n < 0 = lt in omega (arith, bad))
after_last-at k (x ∷ xs) zero lt e h =
    let later = after_last-none k xs (λ j low lt e. h (suc j) (omega arith) (let g : suc j < suc (length xs) = omega (arith, lt) in g) e) in
    rw (later, e) refl
after_last-at k (x ∷ xs) (suc n) lt e h =
    let later = after_last-at k xs n (let g : suc n < suc (length xs) = lt in omega (arith, g)) e
    (λ j low lt e. h (suc j) (omega (arith, low)) (let g : suc j < suc (length xs) = omega (arith, lt) in g) e) in
    let next : suc n + 1 ≡ suc (n + 1) = omega arith in
    rw (later, next) refl

pub before_byte-none : (k : ℕ) (xs : List ℕ) → NoneFrom k 0 xs → before_byte k xs ≡ None
before_byte-none k [] h = refl
before_byte-none k (x ∷ xs) h =
    let later = before_byte-none k xs (λ j low lt e. h (suc j) (omega arith) (let g : suc j < suc (length xs) = omega (arith, lt) in g) e) in
    let here = not_it (x == k) (h 0 (omega arith) (let g : 0 < suc (length xs) = omega arith in g)) in
    rw (here, later) refl

pub before_byte-at : (k : ℕ) (xs : List ℕ) (n : ℕ) → n < length xs → (get_or xs n 0 == k) ≡ true → ((j : ℕ) → j < n → (get_or xs j 0 == k) ≡ true → ⊥) → before_byte k xs ≡ Some (take n xs)
before_byte-at k [] n lt e h = absurd (let bad : n < 0 = lt in omega (arith, bad))
before_byte-at k (x ∷ xs) zero lt e h = rw e refl
before_byte-at k (x ∷ xs) (suc n) lt e h =
    let here = not_it (x == k) (h 0 (omega arith)) in
    let later = before_byte-at k xs n (let g : suc n < suc (length xs) = lt in omega (arith, g)) e (λ j lt e. h (suc j) (omega (arith, lt)) e) in
    rw (here, later) refl

-- the text with one byte more at its end
trim-blank : (xs : List ℕ) (b : ℕ) → is_wsp b ≡ true → trim_end (xs ++ b ∷ []) ≡ trim_end xs
trim-blank [] b h = rw h refl
trim-blank (x ∷ xs) b h = rw (trim-blank xs b h) refl

trim-other : (xs : List ℕ) (b : ℕ) → is_wsp b ≡ false → trim_end (xs ++ b ∷ []) ≡ xs ++ b ∷ []
trim-other [] b h = rw h refl
trim-other (x ∷ []) b h = rw (trim-other [] b h, trim_end) refl
trim-other (x ∷ y ∷ xs) b h = rw (trim-other (y ∷ xs) b h, trim_end) refl

snoc : (text : List ℕ) (n m : ℕ) → n ≡ m + 1 → n ≤ length text → take n text ≡ take m text ++ get_or text m 0 ∷ []
snoc text n m e h = rw (e, add-one) (take-suc text m 0 (omega (arith, e, h)))

pub trim-shorter : (text : List ℕ) (n m : ℕ) → n ≡ m + 1 → n ≤ length text → is_wsp (get_or text m 0) ≡ true → trim_end (take n text) ≡ trim_end (take m text)
trim-shorter text n m e h b = ap trim_end (snoc text n m e h) ∙ trim-blank (take m text) (get_or text m 0) b

pub trim-done : (text : List ℕ) (n m : ℕ) → n ≡ m + 1 → n ≤ length text → is_wsp (get_or text m 0) ≡ false → trim_end (take n text) ≡ take n text
trim-done text n m e h b = ap trim_end (snoc text n m e h) ∙ trim-other (take m text) (get_or text m 0) b ∙ sym (snoc text n m e h)

pub trim-nothing : (text : List ℕ) (n : ℕ) → n ≡ 0 → trim_end (take n text) ≡ take n text
trim-nothing text n h = rw h refl
