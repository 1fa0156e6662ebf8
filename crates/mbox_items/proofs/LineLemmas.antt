-- Lines, joined and cut.
use Rattle.std.proofs.Common.{◌≡◌, ◌≢◌, ℕ, zero, suc, ◌<◌, Bool, true, false, ◌==◌, List, [], ◌∷◌, ◌++◌, length, take, drop}
use Rattle.std.proofs.Common.{get_or, refl, arith, ap, ◌∙◌, sym, if◌then◌else◌, append-nil, subst, take_all}
use Rattle.std.proofs.Math.Seq.{drop-length}
use Rattle.std.proofs.lemmas.List.{nil_from_length}
use Rattle.std.proofs.lemmas.Bool.{eqb-true}
use Rattle.std.specs.List.{concat}
use Rattle.mail_core.specs.Lines.{lines, onto_first_line, content}
use Rattle.mbox_items.specs.Division.{is_blank_line, IsBlankLine}

pub lines-nil : lines [] ≡ []
unfolding lines
lines-nil = refl

pub blank_says : (l : List ℕ) → is_blank_line l ≡ true → IsBlankLine l
blank_says l h = nil_from_length (content l) (eqb-true (length (content l)) 0 h)

pub says_blank : (l : List ℕ) → IsBlankLine l → is_blank_line l ≡ true
says_blank l h = rw h refl

concat_first : (b : ℕ) (ls : List (List ℕ)) → concat (onto_first_line b ls) ≡ b ∷ concat ls
concat_first b [] = refl
concat_first b (l ∷ ls) = refl

-- the lines, joined, are the text
pub concat-lines : (text : List ℕ) → concat (lines text) ≡ text
unfolding lines
concat-lines [] = refl
concat-lines (b ∷ bs) = cases (b == 10) (concat-lines bs)
  where
    cases : (t : Bool) → concat (lines bs) ≡ bs → concat (if t then (b ∷ []) ∷ lines bs else onto_first_line b (lines bs)) ≡ b ∷ bs
    cases true h = ap (λ l. b ∷ l) h
    cases false h = concat_first b (lines bs) ∙ ap (λ l. b ∷ l) h

-- a line with its LF: whatever follows it begins a line of its own
abbrev pub IsEnded : List ℕ → Type 0
IsEnded l = (x : List ℕ) → lines (l ++ x) ≡ l ∷ lines x

-- lines as a text has them
abbrev pub AreLines : List (List ℕ) → Type 0
AreLines [] = Unit {0}
AreLines (l ∷ []) = lines l ≡ l ∷ []
AreLines (l ∷ m ∷ ls) = IsEnded l × AreLines (m ∷ ls)

ended_one : (l : List ℕ) → IsEnded l → lines l ≡ l ∷ []
ended_one l h = ap lines (sym (append-nil l)) ∙ h [] ∙ ap (λ ls. l ∷ ls) lines-nil

pub are_cons : (l : List ℕ) (ls : List (List ℕ)) → IsEnded l → AreLines ls → AreLines (l ∷ ls)
are_cons l [] h g = ended_one l h
are_cons l (m ∷ ls) h g = (h, g)

pub lf_ended : IsEnded (10 ∷ [])
unfolding lines
lf_ended x = refl

pub lf_first : (x : List ℕ) → lines (10 ∷ x) ≡ (10 ∷ []) ∷ lines x
unfolding lines
lf_first x = refl

pub more_ended : (b : ℕ) (l : List ℕ) → (b == 10) ≡ false → IsEnded l → IsEnded (b ∷ l)
unfolding lines
more_ended b l n h x = rw (n, h x) refl

first_are : (b : ℕ) (ls : List (List ℕ)) → (b == 10) ≡ false → AreLines ls → AreLines (onto_first_line b ls)
unfolding lines
first_are b [] n h = rw n refl
first_are b (l ∷ []) n h = rw (n, h) refl
first_are b (l ∷ m ∷ ls) n h = (more_ended b l n h.0, h.1)

pub lines_are : (text : List ℕ) → AreLines (lines text)
unfolding lines
lines_are [] = tt
lines_are (b ∷ bs) = cases (b == 10) refl (lines_are bs)
  where
    cases : (t : Bool) → (b == 10) ≡ t → AreLines (lines bs) → AreLines (if t then (b ∷ []) ∷ lines bs else onto_first_line b (lines bs))
    cases true e h = let P : ℕ → Type 0 = λ n. IsEnded (n ∷ []) in are_cons (b ∷ []) (lines bs) (subst P (sym (eqb-true b 10 e)) lf_ended) h
    cases false e h = first_are b (lines bs) e h

pub are_front : (a b : List (List ℕ)) → AreLines (a ++ b) → AreLines a
are_front [] b h = tt
are_front (l ∷ []) [] h = h
are_front (l ∷ []) (m ∷ b) h = ended_one l h.0
are_front (l ∷ m ∷ a) b h = (h.0, are_front (m ∷ a) b h.1)

pub are_back : (a b : List (List ℕ)) → AreLines (a ++ b) → AreLines b
are_back [] b h = h
are_back (l ∷ []) [] h = tt
are_back (l ∷ []) (m ∷ b) h = h.1
are_back (l ∷ m ∷ a) b h = are_back (m ∷ a) b h.1

-- lines, joined, have these lines
pub lines-concat : (ls : List (List ℕ)) → AreLines ls → lines (concat ls) ≡ ls
lines-concat [] h = lines-nil
lines-concat (l ∷ []) h = ap lines (append-nil l) ∙ h
lines-concat (l ∷ m ∷ ls) h = h.0 (concat (m ∷ ls)) ∙ ap (λ x. l ∷ x) (lines-concat (m ∷ ls) h.1)

before_append : (b : ℕ) (ls ms : List (List ℕ)) → ls ≢ [] → onto_first_line b (ls ++ ms) ≡ onto_first_line b ls ++ ms
before_append b [] ms h = absurd (h refl)
before_append b (l ∷ ls) ms h = refl

some_lines : (a : List ℕ) (b : ℕ) → lines (a ++ b ∷ []) ≢ []
unfolding lines
some_lines [] b = cases (b == 10)
  where
    cases : (t : Bool) → (if t then (b ∷ []) ∷ [] else (b ∷ []) ∷ []) ≢ []
    cases true e = cc
    cases false e = cc
some_lines (x ∷ a) b = cases (x == 10) (lines (a ++ b ∷ []))
  where
    cases : (t : Bool) (ls : List (List ℕ)) → (if t then (x ∷ []) ∷ ls else onto_first_line x ls) ≢ []
    cases true ls e = cc
    cases false [] e = cc
    cases false (l ∷ ls) e = cc

-- an LF divides the lines of a text
pub lines-append : (a b : List ℕ) → lines (a ++ 10 ∷ b) ≡ lines (a ++ 10 ∷ []) ++ lines b
unfolding lines
lines-append [] b = refl
lines-append (x ∷ a) b = cases (x == 10) (lines-append a b)
  where
    cases : (t : Bool) → lines (a ++ 10 ∷ b) ≡ lines (a ++ 10 ∷ []) ++ lines b → (if t then (x ∷ []) ∷ lines (a ++ 10 ∷ b) else onto_first_line x (lines (a ++ 10 ∷ b)))
        ≡ (if t then (x ∷ []) ∷ lines (a ++ 10 ∷ []) else onto_first_line x (lines (a ++ 10 ∷ []))) ++ lines b
    cases true h = ap (λ ls. (x ∷ []) ∷ ls) h
    cases false h = ap (onto_first_line x) h ∙ before_append x (lines (a ++ 10 ∷ [])) (lines b) (some_lines a 10)

-- ---- the first line

not_it : (b : Bool) → (b ≡ true → ⊥) → b ≡ false
not_it true h = absurd (h refl)
not_it false h = refl

-- LF first at place n
pub lines-cut : (xs : List ℕ) (n : ℕ) → n < length xs
    → ((k : ℕ) → k < n → (get_or xs k 0 == 10) ≡ true → ⊥) → (get_or xs n 0 == 10) ≡ true
    → lines xs ≡ take (suc n) xs ∷ lines (drop (suc n) xs)
unfolding lines
lines-cut [] n h none here = absurd (let bad : n < 0 = h in omega (arith, bad))
lines-cut (x ∷ xs) zero h none here = rw here refl
lines-cut (x ∷ xs) (suc n) h none here =
    let other : (x == 10) ≡ false = not_it (x == 10) (none 0 (omega arith)) in
    let later = lines-cut xs n (let g : suc n < suc (length xs) = h in omega (arith, g)) (λ k lt e. none (suc k) (omega (arith, lt)) e) here in
    rw (other, later) refl

-- no LF
pub lines-last : (x : ℕ) (xs : List ℕ) → ((k : ℕ) → k < length (x ∷ xs) → (get_or (x ∷ xs) k 0 == 10) ≡ true → ⊥)
    → lines (x ∷ xs) ≡ (x ∷ xs) ∷ []
unfolding lines
lines-last x [] none = rw (not_it (x == 10) (none 0 (omega arith))) refl
lines-last x (y ∷ xs) none =
    let later = lines-last y xs (λ k lt e. none (suc k) (let g : k < suc (length xs) = lt in let w : suc k < suc (suc (length xs)) = omega (arith, g) in w) e) in
    rw (not_it (x == 10) (none 0 (let w : 0 < suc (suc (length xs)) = omega arith in w)), later) refl

pub lines-whole : (xs : List ℕ) → length xs ≢ 0 → ((k : ℕ) → k < length xs → (get_or xs k 0 == 10) ≡ true → ⊥)
    → lines xs ≡ take (length xs) xs ∷ lines (drop (length xs) xs)
lines-whole [] some none = absurd (some refl)
lines-whole (x ∷ xs) some none =
    let one : take (length xs) xs ≡ xs = take_all (length xs) xs (omega arith) in
    let rest : drop (length xs) xs ≡ [] = drop-length xs in
    rw (lines-last x xs none, one, rest) (ap (λ l. (x ∷ xs) ∷ l) (sym lines-nil))
