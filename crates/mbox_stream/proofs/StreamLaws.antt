-- What holds of every stream.
use Rattle.std.proofs.Common.{◌≡◌, ℕ, Bool, true, false, ◌&&◌, List, [], ◌∷◌, ◌++◌, length, refl, ap, ◌∙◌, sym, if◌then◌else◌, append_assoc, inl, inr, ◌⊎◌, subst}
use Rattle.std.specs.List.{concat, AllByRecursion}
use Rattle.mail_core.specs.Lines.{lines}
use Rattle.mbox_core.specs.Division.{Item, is_blank_line, IsBlankLine, DividesIntoItems, IsPreamble, front_and_items_of_lines, items_of}
use Rattle.mbox_stream.specs.Stream.{IsBeginning, settled_bytes, all_blank, items_unless_preamble, file_items, all_but_last, settled_items, IsSettledPreamble}
use Rattle.mbox_items.proofs.LineLemmas.{blank_says, says_blank}
use Rattle.mbox_items.proofs.SplitLemmas.{divides_items, first_unblank, Unblank}
use Rattle.mbox_core.proofs.DivisionLaws.{front_divides, preamble_from, not_both}
use Rattle.mbox_stream.proofs.StreamLemmas.{Ended, grown, begin_blank, begin_trans, begin_all_but_last, settled_ended, settled_bytes_begin, settled_bytes_all}

-- whole lines, and what follows them
ended_begin : (a x : List ℕ) → Ended a → IsBeginning (all_but_last (file_items a)) (all_but_last (file_items (a ++ x)))
ended_begin a x h = subst (λ (ls : List (List ℕ)). IsBeginning (all_but_last (file_items a)) (all_but_last (items_unless_preamble (front_and_items_of_lines true ls)))) (sym (h x))
    (begin_blank (all_blank (front_and_items_of_lines true (lines a)).front) (all_blank (front_and_items_of_lines true (lines a ++ lines x)).front)
    (front_and_items_of_lines true (lines a)) (front_and_items_of_lines true (lines a ++ lines x)) refl refl (grown true (lines a) (lines x)))

-- the settled items are a beginning of the items of every continuation
pub settled_begin : (stream more : List ℕ) → IsBeginning (settled_items stream) (file_items (stream ++ more))
settled_begin stream more =
    let all = settled_bytes_all stream in
    let joined : stream ++ more ≡ settled_bytes stream ++ (all.0 ++ more) = ap (λ x. x ++ more) all.1 ∙ append_assoc (settled_bytes stream) all.0 more in
    subst (λ (x : List ℕ). IsBeginning (settled_items stream) (file_items x)) (sym joined)
    (begin_trans (settled_items stream) (all_but_last (file_items (settled_bytes stream ++ (all.0 ++ more)))) (file_items (settled_bytes stream ++ (all.0 ++ more)))
    (ended_begin (settled_bytes stream) (all.0 ++ more) (settled_ended stream))
    (begin_all_but_last (file_items (settled_bytes stream ++ (all.0 ++ more)))))

-- what was settled stays, and more may follow
pub settled_items_only_grow : (stream more : List ℕ) → IsBeginning (settled_items stream) (settled_items (stream ++ more))
settled_items_only_grow stream more =
    let later = settled_bytes_begin stream more in
    subst (λ (x : List ℕ). IsBeginning (settled_items stream) (all_but_last (file_items x))) (sym later.1)
    (ended_begin (settled_bytes stream) later.0 (settled_ended stream))

-- a faulty line stays one
ended_preamble : (a x : List ℕ) (offset : ℕ) → Ended a → IsPreamble a offset → IsPreamble (a ++ x) offset
ended_preamble a x offset h p = record {
  blanks = p.blanks;
  line = p.line;
  lines_after = p.lines_after ++ lines x;
  are_lines = h x ∙ ap (λ ls. ls ++ lines x) p.are_lines ∙ append_assoc p.blanks (p.line ∷ p.lines_after) (lines x);
  all_blank = p.all_blank;
  is_not_blank = p.is_not_blank;
  is_no_separator = p.is_no_separator;
  offset_is = p.offset_is;
}

-- every continuation has the fault
pub a_settled_preamble_stays : (stream more : List ℕ) (offset : ℕ) → IsSettledPreamble stream offset → IsPreamble (stream ++ more) offset
a_settled_preamble_stays stream more offset p =
    let all = settled_bytes_all stream in
    let joined : stream ++ more ≡ settled_bytes stream ++ (all.0 ++ more) = ap (λ x. x ++ more) all.1 ∙ append_assoc (settled_bytes stream) all.0 more in
    subst (λ (x : List ℕ). IsPreamble x offset) (sym joined) (ended_preamble (settled_bytes stream) (all.0 ++ more) offset (settled_ended stream) p)

-- ---- the computed items beside the division

pub all_blank_is : (ls : List (List ℕ)) → AllByRecursion IsBlankLine ls → all_blank ls ≡ true
all_blank_is [] h = refl
all_blank_is (l ∷ ls) h = rw (says_blank l h.0, all_blank_is ls h.1) refl

both_true : (a b : Bool) → (a && b) ≡ true → (a ≡ true) × (b ≡ true)
both_true true true e = (refl, refl)
both_true true false e = absurd (cc)
both_true false b e = absurd (cc)

pub is_all_blank : (ls : List (List ℕ)) → all_blank ls ≡ true → AllByRecursion IsBlankLine ls
is_all_blank [] h = tt
is_all_blank (l ∷ ls) h = let both = both_true (is_blank_line l) (all_blank ls) h in (blank_says l both.0, is_all_blank ls both.1)

split_front : (bytes : List ℕ) (is : List Item) → DividesIntoItems bytes is → AllByRecursion IsBlankLine (front_and_items_of_lines true (lines bytes)).front
split_front bytes is d = cases (first_unblank (front_and_items_of_lines true (lines bytes)).front)
  where
    cases : AllByRecursion IsBlankLine (front_and_items_of_lines true (lines bytes)).front ⊎ Unblank (front_and_items_of_lines true (lines bytes)).front
        → AllByRecursion IsBlankLine (front_and_items_of_lines true (lines bytes)).front
    cases (inl b) = b
    cases (inr u) = absurd (not_both bytes (length (concat u.blanks)) is (preamble_from bytes u) d)

-- the items of a file that has a division are those of the division
pub file_items_divide : (bytes : List ℕ) (is : List Item) → DividesIntoItems bytes is → file_items bytes ≡ is
file_items_divide bytes is d = rw (all_blank_is (front_and_items_of_lines true (lines bytes)).front (split_front bytes is d)) (divides_items bytes is d)

none_or : (b : Bool) (is : List Item) → b ≡ false → (if b then is else []) ≡ []
none_or true is e = absurd (cc)
none_or false is e = refl

-- and none where it has no division
pub file_items_preamble : (bytes : List ℕ) (offset : ℕ) → IsPreamble bytes offset → file_items bytes ≡ []
file_items_preamble bytes offset p = cases (all_blank (front_and_items_of_lines true (lines bytes)).front) refl
  where
    cases : (b : Bool) → all_blank (front_and_items_of_lines true (lines bytes)).front ≡ b → file_items bytes ≡ []
    cases false e = none_or (all_blank (front_and_items_of_lines true (lines bytes)).front) (front_and_items_of_lines true (lines bytes)).items e
    cases true e = absurd (not_both bytes offset (items_of bytes) p (front_divides bytes (is_all_blank (front_and_items_of_lines true (lines bytes)).front e)))

-- the settled items are a beginning of the division of every continuation
pub settled_divide : (stream more : List ℕ) (is : List Item) → DividesIntoItems (stream ++ more) is → IsBeginning (settled_items stream) is
settled_divide stream more is d = subst (λ (x : List Item). IsBeginning (settled_items stream) x) (file_items_divide (stream ++ more) is d) (settled_begin stream more)

nil_begin : {A : Type 0} (a : List A) → IsBeginning a [] → a ≡ []
nil_begin [] h = refl
nil_begin (x ∷ a) (rest, e) = absurd (cc)

-- where some continuation has the fault, nothing is settled
pub no_item_is_settled_before_a_preamble : (stream more : List ℕ) (offset : ℕ) → IsPreamble (stream ++ more) offset → settled_items stream ≡ []
no_item_is_settled_before_a_preamble stream more offset p =
    nil_begin (settled_items stream) (subst (λ (x : List Item). IsBeginning (settled_items stream) x) (file_items_preamble (stream ++ more) offset p) (settled_begin stream more))

pub all_snoc : (is : List Item) (i : Item) → all_but_last (is ++ i ∷ []) ≡ is
unfolding all_but_last
all_snoc [] i = refl
all_snoc (j ∷ []) i = refl
all_snoc (j ∷ k ∷ is) i = ap (λ x. j ∷ x) (all_snoc (k ∷ is) i)

-- nothing is held back: of whole lines that are divided, all items but the last are settled
pub settled_all : (stream : List ℕ) (is : List Item) (last : Item) → settled_bytes stream ≡ stream → DividesIntoItems stream (is ++ last ∷ []) → settled_items stream ≡ is
settled_all stream is last e d = ap (λ x. all_but_last (file_items x)) e ∙ ap all_but_last (file_items_divide stream (is ++ last ∷ []) d) ∙ all_snoc is last

-- of no bytes nothing is settled, and no line is faulty
pub settled_nothing : settled_items [] ≡ []
unfolding settled_bytes all_but_last front_and_items_of_lines lines
settled_nothing = refl

pub no_preamble : (offset : ℕ) → ¬ IsSettledPreamble [] offset
unfolding settled_bytes lines
no_preamble offset p = none p.blanks p.are_lines
  where
    none : (blanks : List (List ℕ)) → [] ≡ blanks ++ p.line ∷ p.lines_after → ⊥
    none [] e = absurd (cc)
    none (b ∷ bs) e = absurd (cc)
