-- The texts of rows, one after the other: any run of them is one piece.
use Rattle.std.proofs.Common.{◌≡◌, ℕ, ◌+◌, ◌-◌, ◌<◌, ◌≤◌, max, Bool, true, false, List, [], ◌∷◌, ◌++◌, length, take, drop, get_or, refl, sym, ap, ◌∙◌, arith, ltb, ltb-true, ltb-false, append_assoc}
use Rattle.std.specs.Prelude.{flat_map}
use Rattle.std.proofs.Math.Seq.{drop-append_seam, take-append_seam}
use Rattle.std.proofs.lemmas.List.{drop-take, get_or-append_right, get_or_append_left, get_or_past, length-append, take-append-drop, take-take, take_all}
use Rattle.std.proofs.lemmas.List.Concat.{flat_map-append}

module _ {A : Type 0} (f : A → List ℕ) (rows : List A) where
  -- the text of so many rows
  abbrev pub text_of : ℕ → List ℕ
  text_of n = flat_map f (take n rows)

  take_both : (a n : ℕ) → take (a + n) rows ≡ take a rows ++ take n (drop a rows)
  take_both a n = sym (take-append-drop a (take (a + n) rows)) ∙ ap (λ (xs : List A). xs ++ drop a (take (a + n) rows)) (take-take a (a + n) rows (omega arith))
      ∙ ap (λ (xs : List A). take a rows ++ xs) (drop-take a n rows)

  text_both : (a n : ℕ) → text_of (a + n) ≡ text_of a ++ flat_map f (take n (drop a rows))
  text_both a n = ap (flat_map f) (take_both a n) ∙ flat_map-append f (take a rows) (take n (drop a rows))

  text_parts : (a n : ℕ) → flat_map f rows ≡ text_of a ++ (flat_map f (take n (drop a rows)) ++ flat_map f (drop (a + n) rows))
  text_parts a n = ap (flat_map f) (sym (take-append-drop (a + n) rows)) ∙ flat_map-append f (take (a + n) rows) (drop (a + n) rows)
      ∙ ap (λ (xs : List ℕ). xs ++ flat_map f (drop (a + n) rows)) (text_both a n)
      ∙ append_assoc (text_of a) (flat_map f (take n (drop a rows))) (flat_map f (drop (a + n) rows))

  -- a run of rows is one piece of the text
  pub run_is : (a b from to : ℕ) (bytes : List ℕ) → bytes ≡ flat_map f rows → from ≡ length (text_of a) → to ≡ length (text_of (max b a))
      → take (to - from) (drop from bytes) ≡ flat_map f (take (b - a) (drop a rows))
  run_is a b from to bytes whole first last =
      let n = b - a in
      let one = text_of a in
      let run = flat_map f (take n (drop a rows)) in
      let rest = flat_map f (drop (a + n) rows) in
      let upto : max b a ≡ a + (b - a) = omega arith in
      let size : to ≡ length one + length run = last ∙ ap (λ m. length (text_of m)) upto ∙ ap (λ (xs : List ℕ). length xs) (text_both a n) ∙ length-append one run in
      let count : to - from ≡ length run = omega (arith, size, first) in
      ap (λ m. take m (drop from bytes)) count
      ∙ ap (λ m. take (length run) (drop m bytes)) first
      ∙ ap (λ (bs : List ℕ). take (length run) (drop (length one) bs)) (whole ∙ text_parts a n)
      ∙ ap (take (length run)) (drop-append_seam one (run ++ rest))
      ∙ take-append_seam run rest

  -- where each of the first rows begins
  abbrev pub Begin : (starts : List ℕ) → ℕ → Type 0
  Begin starts count = (i d : ℕ) → i < count → get_or starts i d ≡ length (text_of i)

  pub begin_more : (starts longer bytes : List ℕ) (count : ℕ) → length starts ≡ count → longer ≡ starts ++ length bytes ∷ [] → bytes ≡ text_of count
      → Begin starts count → Begin longer (count + 1)
  begin_more starts longer bytes count size is text begin i d less = ap (λ (xs : List ℕ). get_or xs i d) is ∙ by_test (ltb i count) refl
    where
      by_test : (t : Bool) → ltb i count ≡ t → get_or (starts ++ length bytes ∷ []) i d ≡ length (text_of i)
      by_test true e =
          let before = ltb-true _ _ e in
          get_or_append_left starts (length bytes ∷ []) d i (omega (arith, before, size)) ∙ begin i d before
      by_test false e =
          let past = ltb-false _ _ e in
          let here : i ≡ count = omega (arith, past, less, size) in
          let none : i - count ≡ 0 = omega (arith, here) in
          get_or-append_right starts (length bytes ∷ []) count i d size past ∙ ap (λ j. get_or (length bytes ∷ []) j d) none
          ∙ ap (λ (xs : List ℕ). length xs) text ∙ ap (λ j. length (text_of j)) (sym here)

  pub begin_all : (starts bytes : List ℕ) (count : ℕ) → length starts ≡ count → length rows ≤ count → bytes ≡ text_of count → Begin starts count
      → (i : ℕ) → get_or starts i (length bytes) ≡ length (text_of i)
  begin_all starts bytes count size past text begin i = by_test (ltb i count) refl
    where
      by_test : (t : Bool) → ltb i count ≡ t → get_or starts i (length bytes) ≡ length (text_of i)
      by_test true e = begin i (length bytes) (ltb-true _ _ e)
      by_test false e =
          let behind = ltb-false _ _ e in
          get_or_past starts i (length bytes) (omega (arith, behind, size)) ∙ ap (λ (xs : List ℕ). length xs) text
          ∙ ap (λ (xs : List A). length (flat_map f xs)) (take_all count rows past ∙ sym (take_all i rows (omega (arith, past, behind))))
