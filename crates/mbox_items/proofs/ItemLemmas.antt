-- What holds of the text of an item.
use Rattle.std.proofs.Common.{◌≡◌, ◌≢◌, ℕ, suc, ◌-◌, Bool, true, false, ◌==◌, List, [], ◌∷◌, ◌++◌, length, refl, arith, ap, ◌∙◌, sym}
use Rattle.std.proofs.Common.{if◌then◌else◌, Option, Some, None, append-nil, inl, inr, ◌⊎◌, subst, length-append}
use Rattle.std.proofs.lemmas.List.{get_or_at, take_at}
use Rattle.std.proofs.lemmas.Bool.Decides.{nat_tests}
use Rattle.std.specs.Option.{is_some}
use Rattle.mail_core.specs.Lines.{lines, onto_first_line, content, ends_in, without_final_byte}
use Rattle.mbox_items.specs.Separator.{Envelope, IsSeparator}
use Rattle.mbox_items.specs.Division.{is_blank_line, Item, FrontAndItems, IsBlankLine, IsSeparatorLine, NoneSeparates, AreBlocks}
use Rattle.mbox_items.specs.Division.{item_text_of_lines, front_and_items_of_lines, is_empty_or_ends_in_lf, whole, text_before_separator, items_from_separator, items_after_separator}
use Rattle.mbox_items.proofs.LineLemmas.{lines_are, AreLines, are_front, lines-concat, lines-nil}
use Rattle.mbox_items.proofs.SplitLemmas.{Quiet, none_separates, quiet_false, quiet_front, reads, split-quiet, split-nil, last_blank}
use Rattle.mbox_items.proofs.SplitLemmas.{with_lines, last_line, body-blank, body-some, body-nil, concat_snoc}

pub never : (n : ℕ) → (suc n == 0) ≡ false
never n = grind (arith, nat_tests)

-- a text in which no item begins
pub none_in : (t : List ℕ) → items_from_separator t ≡ [] → NoneSeparates (lines t)
none_in t h =
    let r = reads false (lines t) (lines_are t) in
    let z : r.rest ≡ [] = subst (λ (is : List Item). AreBlocks is r.rest) h r.blocks in
    let e : lines t ≡ (front_and_items_of_lines false (lines t)).front = r.are ∙ ap (λ x. (front_and_items_of_lines false (lines t)).front ++ x) z ∙ append-nil
    (front_and_items_of_lines false (lines t)).front in
    subst (λ (ls : List (List ℕ)). NoneSeparates ls) (sym e) (none_separates false (front_and_items_of_lines false (lines t)).front r.quiet)

pub in_none : (t : List ℕ) → NoneSeparates (lines t) → items_from_separator t ≡ []
in_none t h =
    ap (λ (s : FrontAndItems). s.items) (ap (front_and_items_of_lines false) (sym (append-nil (lines t))) ∙ split-quiet false (lines t) [] (quiet_false (lines t) h)
    ∙ ap (with_lines (lines t)) (split-nil (last_blank false (lines t))))

-- the text of the first message of some bytes
quiet_body : (f : List (List ℕ)) → AreLines f → Quiet false f → NoneSeparates (lines (item_text_of_lines f))
quiet_body f are q = cases (last_line f)
  where
    cases : (f ≡ []) ⊎ ((ts : List (List ℕ)) × (b : List ℕ) × (f ≡ ts ++ b ∷ [])) → NoneSeparates (lines (item_text_of_lines f))
    cases (inl z) = let P : List (List ℕ) → Type 0 = λ x. NoneSeparates x in subst P (sym (ap (λ x. lines (item_text_of_lines x)) z ∙ ap lines body-nil ∙ lines-nil)) tt
    cases (inr (ts, b, e)) =
        let A : List (List ℕ) → Type 0 = λ x. AreLines x in
        let P : List (List ℕ) → Type 0 = λ x. NoneSeparates (lines (item_text_of_lines x)) in
        subst P (sym e) (by_last ts b (subst A e are) (subst (Quiet false) e q) (is_blank_line b) refl)
      where
        by_last : (ts : List (List ℕ)) (b : List ℕ) → AreLines (ts ++ b ∷ []) → Quiet false (ts ++ b ∷ []) → (k : Bool) → is_blank_line b ≡ k
            → NoneSeparates (lines (item_text_of_lines (ts ++ b ∷ [])))
        by_last ts b are q true k =
            let N : List (List ℕ) → Type 0 = λ x. NoneSeparates x in
            subst N (sym (ap lines (body-blank ts b k) ∙ lines-concat ts (are_front ts (b ∷ []) are))) (none_separates false ts (quiet_front false ts (b ∷ []) q))
        by_last ts b are q false k =
            let N : List (List ℕ) → Type 0 = λ x. NoneSeparates x in
            subst N (sym (ap lines (body-some ts b k ∙ sym (concat_snoc ts b)) ∙ lines-concat (ts ++ b ∷ []) are)) (none_separates false (ts ++ b ∷ []) q)

pub none_in_text : (bytes : List ℕ) → NoneSeparates (lines (text_before_separator bytes))
none_in_text bytes =
    let s = front_and_items_of_lines false (lines bytes) in
    let r = reads false (lines bytes) (lines_are bytes) in
    let A : List (List ℕ) → Type 0 = λ x. AreLines x in
    quiet_body s.front (are_front s.front r.rest (subst A r.are (lines_are bytes))) r.quiet

-- what a search for the next item says of a whole text
pub none_after : (o : Option Envelope) (rest t : List ℕ) → items_after_separator o rest ≡ items_from_separator t → is_some o ≡ false → NoneSeparates (lines t)
none_after None rest t h e = none_in t (sym h)
none_after (Some v) rest t h e = absurd (cc)

pub some_after : (o : Option Envelope) (rest t : List ℕ) → items_after_separator o rest ≡ items_from_separator t → is_some o ≡ true → ¬ NoneSeparates (lines t)
some_after None rest t h e n = absurd (cc)
some_after (Some v) rest t h e n = let bad : items_after_separator (Some v) rest ≡ [] = h ∙ in_none t n in absurd (cc)

-- ---- the whole text: an LF more at its end changes what no line says

-- the lines with an LF more at the end of the last
abbrev pub on_last : List (List ℕ) → List (List ℕ)
on_last [] = []
on_last (l ∷ []) = (l ++ 10 ∷ []) ∷ []
on_last (l ∷ m ∷ ls) = l ∷ on_last (m ∷ ls)

-- the last line has no LF
abbrev pub LastOpen : List (List ℕ) → Type 0
LastOpen [] = ⊥
LastOpen (l ∷ []) = ends_in 10 l ≡ false
LastOpen (l ∷ m ∷ ls) = LastOpen (m ∷ ls)

last_before : (x : ℕ) (ls : List (List ℕ)) → ls ≢ [] → on_last (onto_first_line x ls) ≡ onto_first_line x (on_last ls)
last_before x [] h = absurd (h refl)
last_before x (l ∷ []) h = refl
last_before x (l ∷ m ∷ ls) h = refl

last_cons : (l : List ℕ) (ls : List (List ℕ)) → ls ≢ [] → on_last (l ∷ ls) ≡ l ∷ on_last ls
last_cons l [] h = absurd (h refl)
last_cons l (m ∷ ls) h = refl

open_some : (ls : List (List ℕ)) → LastOpen ls → ls ≢ []
open_some [] h e = h
open_some (l ∷ ls) h e = cc

open_cons : (l : List ℕ) (ls : List (List ℕ)) → LastOpen ls → LastOpen (l ∷ ls)
open_cons l [] h = absurd h
open_cons l (m ∷ ls) h = h

-- the last byte of a longer text
pub ends_cons : (x y : ℕ) (t : List ℕ) (b : ℕ) → ends_in b (x ∷ y ∷ t) ≡ ends_in b (y ∷ t)
ends_cons x y t b =
    let p : suc (suc (length t)) - 1 ≡ suc (length t) = omega arith in
    let q : suc (length t) - 1 ≡ length t = omega arith in
    rw (p, q) refl

open_before : (x : ℕ) (ls : List (List ℕ)) → AreLines ls → LastOpen ls → LastOpen (onto_first_line x ls)
open_before x [] a h = absurd h
open_before x ([] ∷ []) a h = let bad : [] ≡ [] ∷ [] = sym lines-nil ∙ a in absurd (cc)
open_before x ((y ∷ l) ∷ []) a h = ends_cons x y l 10 ∙ h
open_before x (l ∷ m ∷ ls) a h = h

open_lines : (x : ℕ) (t : List ℕ) → ends_in 10 (x ∷ t) ≡ false → LastOpen (lines (x ∷ t))
unfolding lines
open_lines x [] h = rw h h
open_lines x (y ∷ t) h = cases (x == 10) (open_lines y t (sym (ends_cons x y t 10) ∙ h))
  where
    cases : (c : Bool) → LastOpen (lines (y ∷ t)) → LastOpen (if c then (x ∷ []) ∷ lines (y ∷ t) else onto_first_line x (lines (y ∷ t)))
    cases true g = open_cons (x ∷ []) (lines (y ∷ t)) g
    cases false g = open_before x (lines (y ∷ t)) (lines_are (y ∷ t)) g

lines-lf : (x : ℕ) (t : List ℕ) → ends_in 10 (x ∷ t) ≡ false → lines ((x ∷ t) ++ 10 ∷ []) ≡ on_last (lines (x ∷ t))
unfolding lines
lines-lf x [] h = rw h refl
lines-lf x (y ∷ t) h =
    let g = sym (ends_cons x y t 10) ∙ h in
    cases (x == 10) (lines-lf y t g) (open_some (lines (y ∷ t)) (open_lines y t g))
  where
    cases : (c : Bool) → lines ((y ∷ t) ++ 10 ∷ []) ≡ on_last (lines (y ∷ t)) → lines (y ∷ t) ≢ []
        → (if c then (x ∷ []) ∷ lines ((y ∷ t) ++ 10 ∷ []) else onto_first_line x (lines ((y ∷ t) ++ 10 ∷ [])))
        ≡ on_last (if c then (x ∷ []) ∷ lines (y ∷ t) else onto_first_line x (lines (y ∷ t)))
    cases true e s = ap (λ ls. (x ∷ []) ∷ ls) e ∙ sym (last_cons (x ∷ []) (lines (y ∷ t)) s)
    cases false e s = ap (onto_first_line x) e ∙ sym (last_before x (lines (y ∷ t)) s)

-- an LF more says nothing
pub content-lf : (l : List ℕ) → ends_in 10 l ≡ false → content (l ++ 10 ∷ []) ≡ content l
unfolding content
content-lf l h =
    let n : length (l ++ 10 ∷ []) - 1 ≡ length l = omega (arith, length-append l (10 ∷ [])) in
    let e : ends_in 10 (l ++ 10 ∷ []) ≡ true = rw (n, get_or_at l 10 [] 0 (length l) refl) refl in
    let t : without_final_byte 10 (l ++ 10 ∷ []) ≡ l = rw (e, n, take_at l (10 ∷ []) (length l) refl) refl in
    let u : without_final_byte 10 l ≡ l = rw h refl in
    ap (without_final_byte 13) (t ∙ sym u)

same_says : (l m : List ℕ) → content m ≡ content l → ¬ IsSeparatorLine l → ¬ IsSeparatorLine m
same_says l m e h s = h (s.0, subst (λ (x : List ℕ). IsSeparator x s.0) e s.1)

says_same : (l m : List ℕ) → content m ≡ content l → IsBlankLine m → IsBlankLine l
says_same l m e h = sym e ∙ h

on_last_none : (ls : List (List ℕ)) → LastOpen ls → NoneSeparates ls → NoneSeparates (on_last ls)
on_last_none [] o h = tt
on_last_none (l ∷ []) o h = tt
on_last_none (l ∷ m ∷ []) o h = (λ b. same_says m (m ++ 10 ∷ []) (content-lf m o) (h.0 b), tt)
on_last_none (l ∷ m ∷ k ∷ ls) o h = (h.0, on_last_none (m ∷ k ∷ ls) o h.1)

none_on_last : (ls : List (List ℕ)) → LastOpen ls → NoneSeparates (on_last ls) → NoneSeparates ls
none_on_last [] o h = tt
none_on_last (l ∷ []) o h = tt
none_on_last (l ∷ m ∷ []) o h = (λ b. same_says (m ++ 10 ∷ []) m (sym (content-lf m o)) (h.0 b), tt)
none_on_last (l ∷ m ∷ k ∷ ls) o h = (h.0, none_on_last (m ∷ k ∷ ls) o h.1)

open_text : (t : List ℕ) → is_empty_or_ends_in_lf t ≡ false → LastOpen (lines t) × (lines (t ++ 10 ∷ []) ≡ on_last (lines t))
open_text [] h = absurd (cc)
open_text (x ∷ t) h = let e : ends_in 10 (x ∷ t) ≡ false = rw (never (length t)) at h in (open_lines x t e, lines-lf x t e)

-- the whole text holds no separator line that follows an empty line exactly where the text holds none
pub whole_none : (t : List ℕ) → NoneSeparates (lines t) → NoneSeparates (lines (whole t))
whole_none t h = cases (is_empty_or_ends_in_lf t) refl
  where
    cases : (w : Bool) → is_empty_or_ends_in_lf t ≡ w → NoneSeparates (lines (if w then t else t ++ 10 ∷ []))
    cases true e = h
    cases false e = let o = open_text t e in subst (λ (ls : List (List ℕ)). NoneSeparates ls) (sym o.1) (on_last_none (lines t) o.0 h)

pub none_whole : (t : List ℕ) → NoneSeparates (lines (whole t)) → NoneSeparates (lines t)
none_whole t h = cases (is_empty_or_ends_in_lf t) refl h
  where
    cases : (w : Bool) → is_empty_or_ends_in_lf t ≡ w → NoneSeparates (lines (if w then t else t ++ 10 ∷ [])) → NoneSeparates (lines t)
    cases true e g = g
    cases false e g = let o = open_text t e in none_on_last (lines t) o.0 (subst (λ (ls : List (List ℕ)). NoneSeparates ls) o.1 g)

-- a whole text is whole
lf_at_end : (t : List ℕ) (n : ℕ) → length (t ++ 10 ∷ []) ≡ suc n → length t ≡ n → is_empty_or_ends_in_lf (t ++ 10 ∷ []) ≡ true
lf_at_end t n long h = rw (long, never n, sub_one n, get_or_at t 10 [] 0 n h) refl
  where
    sub_one : (n : ℕ) → suc n - 1 ≡ n
    sub_one n = omega arith

completed : (t : List ℕ) (w : Bool) → is_empty_or_ends_in_lf t ≡ w → is_empty_or_ends_in_lf (if w then t else t ++ 10 ∷ []) ≡ true
completed t true h = h
completed t false h = lf_at_end t (length t) (let long = length-append t (10 ∷ []) in omega (arith, long)) refl

pub is_whole-whole : (t : List ℕ) → is_empty_or_ends_in_lf (whole t) ≡ true
is_whole-whole t = completed t (is_empty_or_ends_in_lf t) refl

pub whole-whole : (t : List ℕ) → whole (whole t) ≡ whole t
whole-whole t = rw (is_whole-whole t) refl
