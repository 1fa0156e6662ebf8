-- A search for the mark that begins a separator line, beside the fold over lines.
use Rattle.std.proofs.Common.{◌≡◌, ◌≢◌, ℕ, suc, ◌+◌, ◌-◌, ◌<◌, ◌≤◌, Bool, true, false, ◌==◌, List, [], ◌∷◌, ◌++◌, length, take, drop, get_or, refl, arith, ap, ◌∙◌, sym}
use Rattle.std.proofs.Common.{if◌then◌else◌, Option, Some, None, append_assoc, append-nil, inl, inr, ◌⊎◌, subst, codes, length-take, length-drop, length-append, get_or-take}
use Rattle.std.proofs.Common.{get_or-drop, take_all}
use Rattle.std.proofs.lemmas.List.{take-append-drop, get_or_append_left, take-take, drop_all, take_more}
use Rattle.std.proofs.lemmas.Bool.{eqb-true, cases_lt}
use Rattle.std.specs.List.{concat, AllByRecursion}
use Rattle.memchr.specs.Find.{OccursAt, Nowhere}
use Rattle.mail_core.specs.Lines.{lines, onto_first_line, content, ends_in, without_final_byte}
use Rattle.mbox_items.specs.Separator.{Envelope, separator_of}
use Rattle.mbox_items.specs.Division.{is_blank_line, FrontAndItems, item_text_of_lines, front_and_items_of_lines, text_before_separator, items_from_separator}
use Rattle.mbox_items.proofs.LineLemmas.{concat-lines, lines-append, lines-nil, lines-cut, lines-whole}
use Rattle.mbox_items.proofs.SeparatorLemmas.{separator_is}
use Rattle.mbox_items.proofs.SplitLemmas.{Quiet, last_blank, last_append, heads, body-blank, body-some, concat_snoc, with_lines, nothing, split-quiet, split-nil}
use Rattle.mbox_items.proofs.PartLemmas.{Front, front_start, front_more, taken_more, State}

-- the mark: an LF, and what a separator line begins with
abbrev pub mark : List ℕ
mark = 10 ∷ codes "From "

abbrev pub IsPlain : List ℕ → Type 0
IsPlain l = separator_of (content l) ≡ None

-- what a line says stands at its front
without_front : (b : ℕ) (t : List ℕ) → (r : List ℕ) × (t ≡ without_final_byte b t ++ r)
without_front b t = cases (ends_in b t)
  where
    cases : (c : Bool) → (r : List ℕ) × (t ≡ (if c then take (length t - 1) t else t) ++ r)
    cases true = (drop (length t - 1) t, sym (take-append-drop (length t - 1) t))
    cases false = ([], sym (append-nil t))

content_front : (l : List ℕ) → (r : List ℕ) × (l ≡ content l ++ r)
unfolding content
content_front l =
    let a = without_front 10 l in
    let b = without_front 13 (without_final_byte 10 l) in
    (b.0 ++ a.0, a.1 ∙ ap (λ x. x ++ a.0) b.1 ∙ append_assoc (without_final_byte 13 (without_final_byte 10 l)) b.0 a.0)

-- a line that says an envelope begins so
begins : (l : List ℕ) (e : Envelope) → separator_of (content l) ≡ Some e → (r : List ℕ) × (l ≡ codes "From " ++ r)
begins l e h =
    let s = separator_is (content l) e h in
    let f = content_front l in
    (s.after_from ++ f.0, f.1 ∙ ap (λ x. x ++ f.0) s.begins_with_from ∙ append_assoc (codes "From ") s.after_from f.0)

occurs_first : (r : List ℕ) → OccursAt (mark ++ r) mark 0
occurs_first r = record {
  fits = omega (arith, length-append mark r);
  reads = λ j lt. ap (λ n. get_or (mark ++ r) n 0) (let z : 0 + j ≡ j = omega arith in z) ∙ get_or_append_left mark r 0 j lt;
}

occurs_later : (b : ℕ) (bs : List ℕ) (k : ℕ) → OccursAt bs mark k → OccursAt (b ∷ bs) mark (suc k)
occurs_later b bs k o = record {
  fits = let f = o.fits in let w : suc k + length mark ≤ suc (length bs) = omega (arith, f) in w;
  reads = λ j lt. ap (λ n. get_or (b ∷ bs) n 0) (let z : suc k + j ≡ suc (k + j) = omega arith in z) ∙ o.reads j lt;
}

abbrev pub later : List (List ℕ) → List (List ℕ)
later [] = []
later (l ∷ ls) = ls

all_of : (ls : List (List ℕ)) → ((l : List ℕ) (ms : List (List ℕ)) → ls ≡ l ∷ ms → IsPlain l) → AllByRecursion IsPlain (later ls) → AllByRecursion IsPlain ls
all_of [] h g = tt
all_of (l ∷ ls) h g = (h l ls refl, g)

plain_by : (l : List ℕ) → ((e : Envelope) → separator_of (content l) ≡ Some e → ⊥) → (o : Option Envelope) → separator_of (content l) ≡ o → IsPlain l
plain_by l h None e = e
plain_by l h (Some v) e = absurd (h v e)

first_plain : (bs : List ℕ) → ¬ OccursAt (10 ∷ bs) mark 0 → (l : List ℕ) (ms : List (List ℕ)) → lines bs ≡ l ∷ ms → IsPlain l
first_plain bs h l ms e = plain_by l (λ v s.
    let b = begins l v s in
    let all : 10 ∷ bs ≡ mark ++ (b.0 ++ concat ms) =
    ap (λ x. 10 ∷ x) (sym (concat-lines bs) ∙ ap concat e ∙ ap (λ x. x ++ concat ms) b.1) in
    let O : List ℕ → Type 0 = λ x. OccursAt x mark 0 in
    h (subst O (sym all) (occurs_first (b.0 ++ concat ms)))) (separator_of (content l)) refl

later_before : (b : ℕ) (ls : List (List ℕ)) → later (onto_first_line b ls) ≡ later ls
later_before b [] = refl
later_before b (l ∷ ls) = refl

-- where the mark does not stand, each line but the first is plain
pub later_plain : (xs : List ℕ) → ((k : ℕ) → ¬ OccursAt xs mark k) → AllByRecursion IsPlain (later (lines xs))
unfolding lines
later_plain [] h = tt
later_plain (b ∷ bs) h = cases (b == 10) refl (later_plain bs (λ k o. h (suc k) (occurs_later b bs k o)))
  where
    cases : (t : Bool) → (b == 10) ≡ t → AllByRecursion IsPlain (later (lines bs))
        → AllByRecursion IsPlain (later (if t then (b ∷ []) ∷ lines bs else onto_first_line b (lines bs)))
    cases true e g =
        let N : ℕ → Type 0 = λ n. ¬ OccursAt (n ∷ bs) mark 0 in
        all_of (lines bs) (first_plain bs (subst N (eqb-true b 10 e) (h 0))) g
    cases false e g = subst (λ (x : List (List ℕ)). AllByRecursion IsPlain x) (sym (later_before b (lines bs))) g

heads_plain : (p : Bool) (l : List ℕ) → IsPlain l → heads p l ≡ None
heads_plain true l h = h
heads_plain false l h = refl

quiet_plain : (p : Bool) (ls : List (List ℕ)) → AllByRecursion IsPlain ls → Quiet p ls
quiet_plain p [] h = tt
quiet_plain p (l ∷ ls) h = (heads_plain p l h.0, quiet_plain (is_blank_line l) ls h.1)

-- the first line begins no item
abbrev pub FirstQuiet : Bool → List (List ℕ) → Type 0
FirstQuiet p [] = Unit {0}
FirstQuiet p (l ∷ ls) = heads p l ≡ None

pub quiet_chunk : (p : Bool) (ls : List (List ℕ)) → FirstQuiet p ls → AllByRecursion IsPlain (later ls) → Quiet p ls
quiet_chunk p [] h g = tt
quiet_chunk p (l ∷ ls) h g = (h, quiet_plain (is_blank_line l) ls g)

-- ---- up to the next mark

-- an occurrence in a front is one in the whole
occurs_front : (here : List ℕ) (n k : ℕ) → OccursAt (take n here) mark k → (k + 6 ≤ n) × OccursAt here mark k
occurs_front here n k o =
    let f : k + 6 ≤ length (take n here) = o.fits in
    let low : k + 6 ≤ n = omega (arith, f, length-take n here) in (
      low,
      record {
        fits = omega (arith, f, length-take n here);
        reads = λ j lt. sym (get_or-take n here (k + j) 0 (let g : j < 6 = lt in omega (arith, low, g))) ∙ o.reads j lt;
      },
    )

-- up to `at` whole lines that begin no item, and the next line begins none
pub record Calm (bytes : List ℕ) (at : ℕ) : Type 0 where
  pub front : Front bytes at (last_blank false (lines (take at bytes)))
  pub first : FirstQuiet (last_blank false (lines (take at bytes))) (lines (drop at bytes))

first_off : (ls : List (List ℕ)) → FirstQuiet false ls
first_off [] = tt
first_off (l ∷ ls) = refl

pub calm_start : (bytes : List ℕ) → Calm bytes 0
calm_start bytes =
    let e : last_blank false (lines []) ≡ false = ap (last_blank false) lines-nil in
    record {
      front = subst (λ (b : Bool). Front bytes 0 b) (sym e) (front_start bytes);
      first = subst (λ (b : Bool). FirstQuiet b (lines bytes)) (sym e) (first_off (lines bytes));
    }

first_of_front : (p : Bool) (a b : List (List ℕ)) → FirstQuiet p (a ++ b) → FirstQuiet p a
first_of_front p [] b h = tt
first_of_front p (l ∷ a) b h = h

module _ (bytes : List ℕ) (at lf : ℕ) (calm : Calm bytes at) (fits : at + (lf + 1) ≤ length bytes)
    (here_lf : get_or (drop at bytes) lf 0 ≡ 10) (none : (k : ℕ) → k < lf → ¬ OccursAt (drop at bytes) mark k) where
  here : List ℕ
  here = drop at bytes

  chunk : List (List ℕ)
  chunk = lines (take (lf + 1) (drop at bytes))

  in_here : lf < length (drop at bytes)
  in_here = omega (arith, fits, length-drop at bytes)

  ends : take (lf + 1) (drop at bytes) ≡ take lf (drop at bytes) ++ 10 ∷ []
  ends = take_more (drop at bytes) lf 0 in_here ∙ ap (λ x. take lf (drop at bytes) ++ x ∷ []) here_lf

  next : lines (drop at bytes) ≡ lines (take (lf + 1) (drop at bytes)) ++ lines (drop (lf + 1) (drop at bytes))
  next = ap lines (sym (take-append-drop (lf + 1) (drop at bytes)) ∙ ap (λ x. x ++ drop (lf + 1) (drop at bytes)) ends
      ∙ append_assoc (take lf (drop at bytes)) (10 ∷ []) (drop (lf + 1) (drop at bytes)))
      ∙ lines-append (take lf (drop at bytes)) (drop (lf + 1) (drop at bytes))
      ∙ ap (λ x. lines x ++ lines (drop (lf + 1) (drop at bytes))) (sym ends)

  quiet : Quiet (last_blank false (lines (take at bytes))) (lines (take (lf + 1) (drop at bytes)))
  quiet =
      let b = last_blank false (lines (take at bytes)) in
      let first = first_of_front b (lines (take (lf + 1) (drop at bytes))) (lines (drop (lf + 1) (drop at bytes))) (subst (FirstQuiet b) next calm.first) in
      quiet_chunk b (lines (take (lf + 1) (drop at bytes))) first
      (later_plain (take (lf + 1) (drop at bytes)) (λ k o. let w = occurs_front (drop at bytes) (lf + 1) k o in none k (omega (arith, w.0)) w.1))

  pub taken : lines (take (at + (lf + 1)) bytes) ≡ lines (take at bytes) ++ lines (take (lf + 1) (drop at bytes))
  taken = taken_more bytes at (lf + 1) (lines (take (lf + 1) (drop at bytes))) fits next (concat-lines (take (lf + 1) (drop at bytes))) calm.front.cut

  pub front_on : Front bytes (at + (lf + 1)) (last_blank false (lines (take (at + (lf + 1)) bytes)))
  front_on =
      let f = front_more bytes at (lf + 1) (last_blank false (lines (take at bytes))) (lines (take (lf + 1) (drop at bytes))) fits next
      (concat-lines (take (lf + 1) (drop at bytes))) calm.front quiet in
      let e : last_blank false (lines (take (at + (lf + 1)) bytes)) ≡ last_blank (last_blank false (lines (take at bytes))) (lines (take (lf + 1) (drop at bytes))) =
      ap (last_blank false) taken ∙ last_append false (lines (take at bytes)) (lines (take (lf + 1) (drop at bytes))) in
      subst (λ (b : Bool). Front bytes (at + (lf + 1)) b) (sym e) f

-- no mark more: all the rest is quiet
module _ (bytes : List ℕ) (at : ℕ) (calm : Calm bytes at) (none : (k : ℕ) → ¬ OccursAt (drop at bytes) mark k) where
  rest_quiet : Quiet (last_blank false (lines (take at bytes))) (lines (drop at bytes))
  rest_quiet = quiet_chunk (last_blank false (lines (take at bytes))) (lines (drop at bytes)) calm.first (later_plain (drop at bytes) none)

  pub split_all : front_and_items_of_lines false (lines bytes) ≡ with_lines (lines bytes) nothing
  split_all =
      let b = last_blank false (lines (take at bytes)) in
      calm.front.split
      ∙ ap (λ ls. with_lines (lines (take at bytes)) (front_and_items_of_lines b ls)) (sym (append-nil (lines (drop at bytes))))
      ∙ ap (with_lines (lines (take at bytes))) (split-quiet b (lines (drop at bytes)) [] rest_quiet ∙ ap (with_lines (lines (drop at bytes))) (split-nil (last_blank b (lines (drop at bytes)))))
      ∙ ap (λ (x : List (List ℕ)). record { front = x; items = [] }) (ap (λ x. lines (take at bytes) ++ x) (append-nil (lines (drop at bytes))) ∙ sym calm.front.cut ∙ sym (append-nil (lines bytes)))

  pub text_all : item_text_of_lines (lines bytes) ≡ text_before_separator bytes
  text_all = sym (ap (λ (x : FrontAndItems). item_text_of_lines x.front) split_all ∙ ap item_text_of_lines (append-nil (lines bytes)))

  pub items_all : items_from_separator bytes ≡ []
  items_all = ap (λ (x : FrontAndItems). x.items) split_all

-- ---- the last line

one_line : (xs : List ℕ) → length xs ≢ 0 → ((k : ℕ) → k < length xs - 1 → (get_or xs k 0 == 10) ≡ true → ⊥)
    → (t : Bool) → (get_or xs (length xs - 1) 0 == 10) ≡ t → lines xs ≡ xs ∷ []
one_line xs some none true e =
    let n = length xs - 1 in
    let h : n < length xs = omega (arith, some) in
    let s : suc n ≡ length xs = omega (arith, some) in
    lines-cut xs n h none e ∙ rw s (ap (λ x. x ∷ lines (drop (length xs) xs)) (take_all (length xs) xs (omega arith)) ∙ ap (λ x. xs ∷ lines x) (drop_all (length xs) xs (omega arith))
    ∙ ap (λ ls. xs ∷ ls) lines-nil)
one_line xs some none false e =
    lines-whole xs some (λ k lt q. at_last k lt q (cases_lt k (length xs - 1)))
    ∙ ap (λ x. x ∷ lines (drop (length xs) xs)) (take_all (length xs) xs (omega arith)) ∙ ap (λ x. xs ∷ lines x) (drop_all (length xs) xs (omega arith)) ∙ ap (λ ls. xs ∷ ls) lines-nil
  where
    at_last : (k : ℕ) → k < length xs → (get_or xs k 0 == 10) ≡ true → (k < length xs - 1) ⊎ (length xs - 1 ≤ k) → ⊥
    at_last k lt q (inl low) = none k low q
    at_last k lt q (inr high) =
        let same : k ≡ length xs - 1 = omega arith in
        let bad : true ≡ false = sym q ∙ ap (λ n. get_or xs n 0 == 10) same ∙ e in absurd (cc)

-- a last line from place p on: no LF from p to the byte before the last, and an LF before p
pub last_lines : (xs : List ℕ) (p : ℕ) → p < length xs → ((k : ℕ) → p ≤ k → k < length xs - 1 → (get_or xs k 0 == 10) ≡ true → ⊥)
    → (p ≡ 0) ⊎ ((q : ℕ) × (p ≡ q + 1) × (get_or xs q 0 ≡ 10)) → lines xs ≡ lines (take p xs) ++ drop p xs ∷ []
last_lines xs p h none at = cases at
  where
    tail : lines (drop p xs) ≡ drop p xs ∷ []
    tail = one_line (drop p xs) (omega (arith, h, length-drop p xs))
        (λ k lt e. none (p + k) (omega arith) (omega (arith, lt, length-drop p xs)) (ap (λ x. x == 10) (sym (get_or-drop p xs k 0)) ∙ e))
        (get_or (drop p xs) (length (drop p xs) - 1) 0 == 10) refl

    cases : (p ≡ 0) ⊎ ((q : ℕ) × (p ≡ q + 1) × (get_or xs q 0 ≡ 10)) → lines xs ≡ lines (take p xs) ++ drop p xs ∷ []
    cases (inl z) = ap lines (ap (λ n. drop n xs) (sym z)) ∙ tail ∙ ap (λ ls. ls ++ drop p xs ∷ []) (sym (ap (λ n. lines (take n xs)) z ∙ lines-nil))
    cases (inr (q, e, lf)) =
        let t : take p xs ≡ take q xs ++ 10 ∷ [] = ap (λ n. take n xs) e ∙ take_more xs q 0 (omega (arith, h, e)) ∙ ap (λ x. take q xs ++ x ∷ []) lf in
        ap lines (sym (take-append-drop p xs) ∙ ap (λ x. x ++ drop p xs) t ∙ append_assoc (take q xs) (10 ∷ []) (drop p xs))
        ∙ lines-append (take q xs) (drop p xs) ∙ ap (λ x. lines x ++ lines (drop p xs)) (sym t) ∙ ap (λ ls. lines (take p xs) ++ ls) tail

pub last-body : (xs line : List ℕ) (p : ℕ) → lines xs ≡ lines (take p xs) ++ line ∷ [] → is_blank_line line ≡ true → item_text_of_lines (lines xs) ≡ take p xs
last-body xs line p e k = ap item_text_of_lines e ∙ body-blank (lines (take p xs)) line k ∙ concat-lines (take p xs)

pub whole-body : (xs line : List ℕ) (p : ℕ) → lines xs ≡ lines (take p xs) ++ line ∷ [] → is_blank_line line ≡ false → item_text_of_lines (lines xs) ≡ xs
whole-body xs line p e k = ap item_text_of_lines e ∙ body-some (lines (take p xs)) line k ∙ sym (concat_snoc (lines (take p xs)) line) ∙ ap concat (sym e) ∙ concat-lines xs

pub last-blank : (xs line : List ℕ) (p : ℕ) → lines xs ≡ lines (take p xs) ++ line ∷ [] → last_blank false (lines xs) ≡ is_blank_line line
last-blank xs line p e = ap (last_blank false) e ∙ last_append false (lines (take p xs)) (line ∷ [])

pub found_state : (bytes line : List ℕ) (at last : ℕ) → Front bytes at (last_blank false (lines (take at bytes)))
    → lines (take at bytes) ≡ lines (take last (take at bytes)) ++ line ∷ [] → is_blank_line line ≡ true → last ≤ at → State bytes at last true
found_state bytes line at last f e k low = record {
  front = subst (λ (b : Bool). Front bytes at b) (last-blank (take at bytes) line last e ∙ k) f;
  stop = low;
  text = last-body (take at bytes) line last e k ∙ take-take last at bytes low;
}

-- the line after the mark begins no item
abbrev pub Refused : List ℕ → List (List ℕ) → Type 0
Refused line ls = (is_blank_line line ≡ false) ⊎ ((l : List ℕ) × (ms : List (List ℕ)) × (ls ≡ l ∷ ms) × IsPlain l)

refused_first : (line : List ℕ) (ls : List (List ℕ)) → Refused line ls → FirstQuiet (is_blank_line line) ls
refused_first line ls (inl h) = subst (λ (b : Bool). FirstQuiet b ls) (sym h) (first_off ls)
refused_first line ls (inr (l, ms, e, h)) = subst (λ (x : List (List ℕ)). FirstQuiet (is_blank_line line) x) (sym e) (heads_plain (is_blank_line line) l h)

pub calm_next : (bytes line : List ℕ) (at last : ℕ) → Front bytes at (last_blank false (lines (take at bytes)))
    → lines (take at bytes) ≡ lines (take last (take at bytes)) ++ line ∷ [] → Refused line (lines (drop at bytes)) → Calm bytes at
calm_next bytes line at last f e h = record {
  front = f;
  first = subst (λ (b : Bool). FirstQuiet b (lines (drop at bytes))) (sym (last-blank (take at bytes) line last e)) (refused_first line (lines (drop at bytes)) h);
}

pub no_mark : (k : ℕ) → ¬ OccursAt [] mark k
no_mark k o = let f : k + 6 ≤ 0 = o.fits in omega (arith, f)

-- from what a search says
pub mark_lf : (hay : List ℕ) (k : ℕ) → OccursAt hay mark k → get_or hay k 0 ≡ 10
mark_lf hay k o = ap (λ n. get_or hay n 0) (let z : k ≡ k + 0 = omega arith in z) ∙ o.reads 0 (omega arith)

pub none_at_all : (hay : List ℕ) → Nowhere (OccursAt hay mark) 0 (length hay + 1) → (k : ℕ) → ¬ OccursAt hay mark k
none_at_all hay h k o = h k (omega arith) (let f : k + 6 ≤ length hay = o.fits in omega (arith, f)) o
