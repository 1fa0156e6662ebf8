-- What holds of every division.
use Rattle.std.proofs.Common.{◌≡◌, ℕ, Bool, true, List, [], ◌∷◌, ◌++◌, length, refl, ap, ◌∙◌, sym, append_assoc, append-nil, inl, inr, ◌⊎◌, subst}
use Rattle.std.specs.List.{concat, AllByRecursion}
use Rattle.mail_core.specs.Lines.{lines}
use Rattle.mbox_items.specs.Division.{is_blank_line, Item, FrontAndItems, IsBlankLine, DividesIntoItems, IsPreamble, with_front_line, front_and_items_of_lines, items_of}
use Rattle.mbox_items.proofs.LineLemmas.{lines_are}
use Rattle.mbox_items.proofs.SplitLemmas.{Quiet, quiet_back, quiet_blanks, last_blanks, last_blank, split-quiet, split-none, heads_any}
use Rattle.mbox_items.proofs.SplitLemmas.{with_lines, none_is, divides_items, reads, first_unblank, Unblank, all_back, blocks_split}

-- no bytes have two divisions
pub each_text_has_at_most_one_division : (bytes : List ℕ) (is js : List Item) → DividesIntoItems bytes is → DividesIntoItems bytes js → is ≡ js
each_text_has_at_most_one_division bytes is js d e = sym (divides_items bytes is d) ∙ divides_items bytes js e

-- the computed items are a division, where what stands in front of them is blank
pub front_divides : (bytes : List ℕ) → AllByRecursion IsBlankLine (front_and_items_of_lines true (lines bytes)).front → DividesIntoItems bytes (items_of bytes)
front_divides bytes b =
    let r = reads true (lines bytes) (lines_are bytes) in
    ((front_and_items_of_lines true (lines bytes)).front, r.rest, r.are, b, r.blocks)

pub preamble_from : (bytes : List ℕ) → (u : Unblank (front_and_items_of_lines true (lines bytes)).front) → IsPreamble bytes (length (concat u.blanks))
preamble_from bytes u =
    let r = reads true (lines bytes) (lines_are bytes) in
    let q = quiet_back true u.blanks (u.line ∷ u.more) (subst (Quiet true) u.are r.quiet) in
    let n = subst (λ (p : Bool). Quiet p (u.line ∷ u.more)) (last_blanks u.blanks u.all_blank) q in
    record {
      blanks = u.blanks;
      line = u.line;
      lines_after = u.more ++ r.rest;
      are_lines = r.are ∙ ap (λ x. x ++ r.rest) u.are ∙ append_assoc u.blanks (u.line ∷ u.more) r.rest;
      all_blank = u.all_blank;
      is_not_blank = u.some;
      is_no_separator = none_is u.line n.0;
      offset_is = refl;
    }

-- bytes have a division, or their first line that is not empty is no separator line
pub each_text_has_a_division_or_a_preamble : (bytes : List ℕ) → ((is : List Item) × DividesIntoItems bytes is) ⊎ ((offset : ℕ) × IsPreamble bytes offset)
each_text_has_a_division_or_a_preamble bytes = cases (first_unblank (front_and_items_of_lines true (lines bytes)).front)
  where
    cases : AllByRecursion IsBlankLine (front_and_items_of_lines true (lines bytes)).front ⊎ Unblank (front_and_items_of_lines true (lines bytes)).front
        → ((is : List Item) × DividesIntoItems bytes is) ⊎ ((offset : ℕ) × IsPreamble bytes offset)
    cases (inl b) = inl (items_of bytes, front_divides bytes b)
    cases (inr u) = inr (length (concat u.blanks), preamble_from bytes u)

-- never both
pub not_both : (bytes : List ℕ) (offset : ℕ) (is : List Item) → IsPreamble bytes offset → DividesIntoItems bytes is → ⊥
not_both bytes offset is p (blanks, rest, e, b, blocks) =
    let here : FrontAndItems = front_and_items_of_lines (last_blank true p.blanks) (p.line ∷ p.lines_after) in
    let f = split-quiet true p.blanks (p.line ∷ p.lines_after) (quiet_blanks true p.blanks p.all_blank) in
    let g = split-none (last_blank true p.blanks) p.line p.lines_after (heads_any (last_blank true p.blanks) p.line p.is_no_separator) in
    let mine : front_and_items_of_lines true (lines bytes) ≡ with_lines p.blanks (with_front_line p.line (front_and_items_of_lines (is_blank_line p.line) p.lines_after)) =
    ap (front_and_items_of_lines true) p.are_lines ∙ f ∙ ap (with_lines p.blanks) g in
    let q = split-quiet true blanks rest (quiet_blanks true blanks b) in
    let r : front_and_items_of_lines (last_blank true blanks) rest ≡ record { front = []; items = is } =
    ap (λ p. front_and_items_of_lines p rest) (last_blanks blanks b) ∙ blocks_split is rest blocks in
    let other : front_and_items_of_lines true (lines bytes) ≡ with_lines blanks (record { front = []; items = is }) =
    ap (front_and_items_of_lines true) e ∙ q ∙ ap (with_lines blanks) r in
    let fronts : p.blanks ++ (p.line ∷ (front_and_items_of_lines (is_blank_line p.line) p.lines_after).front) ≡ blanks ++ [] =
    ap (λ (s : FrontAndItems). s.front) (sym mine ∙ other) in
    let all : AllByRecursion IsBlankLine (p.blanks ++ (p.line ∷ (front_and_items_of_lines (is_blank_line p.line) p.lines_after).front)) =
    subst (λ (x : List (List ℕ)). AllByRecursion IsBlankLine x) (sym (fronts ∙ append-nil blanks)) b in
    p.is_not_blank (all_back p.blanks (p.line ∷ (front_and_items_of_lines (is_blank_line p.line) p.lines_after).front) all).0

same_blanks : (cs bs : List (List ℕ)) (l m : List ℕ) (r s : List (List ℕ)) → cs ++ l ∷ r ≡ bs ++ m ∷ s
    → AllByRecursion IsBlankLine cs → AllByRecursion IsBlankLine bs → ¬ IsBlankLine l → ¬ IsBlankLine m → cs ≡ bs
same_blanks [] [] l m r s e h g u v = refl
same_blanks [] (b ∷ bs) l m r s e h g u v = let first : l ≡ b = cc in absurd (u (subst IsBlankLine (sym first) g.0))
same_blanks (a ∷ cs) [] l m r s e h g u v = let first : a ≡ m = cc in absurd (v (subst IsBlankLine first h.0))
same_blanks (a ∷ cs) (b ∷ bs) l m r s e h g u v =
    let first : a ≡ b = cc in
    let later : cs ++ l ∷ r ≡ bs ++ m ∷ s = cc in
    let same = same_blanks cs bs l m r s later h.1 g.1 u v in cc

-- the first line that is not empty has one offset
pub each_text_has_at_most_one_preamble : (bytes : List ℕ) (a b : ℕ) → IsPreamble bytes a → IsPreamble bytes b → a ≡ b
each_text_has_at_most_one_preamble bytes a b p q =
    p.offset_is ∙ ap (λ ls. length (concat ls)) (same_blanks p.blanks q.blanks p.line q.line p.lines_after q.lines_after
    (sym p.are_lines ∙ q.are_lines) p.all_blank q.all_blank p.is_not_blank q.is_not_blank) ∙ sym q.offset_is
