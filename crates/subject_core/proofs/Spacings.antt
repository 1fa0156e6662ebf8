-- Runs of white space, from the left.
use Rattle.std.proofs.Common.{◌≡◌, ℕ, ◌+◌, ◌<◌, ◌≤◌, Bool, true, false, List, [], ◌∷◌, ◌++◌, length, refl, ap, ap₂, ◌∙◌, sym, drop, get_or, append_assoc, if◌then◌else◌}
use Rattle.std.proofs.lemmas.List.{drop_more, drop_all, append-nil}
use Rattle.subject_core.specs.Spaces.{is_space_or_tab, begins_with_space_or_tab, with_single_spaces}

-- the text with runs as one space, behind white space or not
unfoldable pub spaced_behind : Bool → List ℕ → List ℕ
spaced_behind p [] = []
spaced_behind p (b ∷ bs) = if is_space_or_tab b then (if p then spaced_behind true bs else 32 ∷ spaced_behind true bs) else b ∷ spaced_behind false bs

behind-end : (p : Bool) → spaced_behind p [] ≡ []
unfolding spaced_behind
behind-end p = refl

behind-text : (p : Bool) (b : ℕ) (bs : List ℕ) → is_space_or_tab b ≡ false → spaced_behind p (b ∷ bs) ≡ b ∷ spaced_behind false bs
unfolding spaced_behind
behind-text p b bs h = rw (h, spaced_behind) refl

behind-run : (b : ℕ) (bs : List ℕ) → is_space_or_tab b ≡ true → spaced_behind true (b ∷ bs) ≡ spaced_behind true bs
unfolding spaced_behind
behind-run b bs h = rw (h, spaced_behind) refl

behind-first : (b : ℕ) (bs : List ℕ) → is_space_or_tab b ≡ true → spaced_behind false (b ∷ bs) ≡ 32 ∷ spaced_behind true bs
unfolding spaced_behind
behind-first b bs h = rw (h, spaced_behind) refl

pub spaced-text : (b : ℕ) (bs : List ℕ) → is_space_or_tab b ≡ false → with_single_spaces (b ∷ bs) ≡ b ∷ with_single_spaces bs
unfolding with_single_spaces
spaced-text b bs h = rw (h, with_single_spaces) refl

pub spaced-run : (b : ℕ) (bs : List ℕ) → is_space_or_tab b ≡ true → begins_with_space_or_tab bs ≡ true → with_single_spaces (b ∷ bs) ≡ with_single_spaces bs
unfolding with_single_spaces
spaced-run b bs h k = rw (h, k, with_single_spaces) refl

pub spaced-last : (b : ℕ) (bs : List ℕ) → is_space_or_tab b ≡ true → begins_with_space_or_tab bs ≡ false → with_single_spaces (b ∷ bs) ≡ 32 ∷ with_single_spaces bs
unfolding with_single_spaces
spaced-last b bs h k = rw (h, k, with_single_spaces) refl

pub spaced-end : with_single_spaces [] ≡ []
unfolding with_single_spaces
spaced-end = refl

-- keeping the first of a run, as a space, is keeping the last
pub record IsSame (t : List ℕ) : Type 0 where
  pub apart : spaced_behind false t ≡ with_single_spaces t
  pub run : (b : ℕ) → is_space_or_tab b ≡ true → 32 ∷ spaced_behind true t ≡ with_single_spaces (b ∷ t)

pub same : (t : List ℕ) → IsSame t
same [] = record {
  apart = behind-end false ∙ sym spaced-end;
  run = λ (b : ℕ) (h : is_space_or_tab b ≡ true). ap (λ (l : List ℕ). 32 ∷ l) (behind-end true ∙ sym spaced-end) ∙ sym (spaced-last b [] h refl);
}
same (c ∷ t) = go (same t) (is_space_or_tab c) refl
  where
    go : IsSame t → (w : Bool) → is_space_or_tab c ≡ w → IsSame (c ∷ t)
    go ih true e = record {
      apart = behind-first c t e ∙ ih.run c e;
      run = λ (b : ℕ) (h : is_space_or_tab b ≡ true). ap (λ (l : List ℕ). 32 ∷ l) (behind-run c t e) ∙ ih.run c e ∙ sym (spaced-run b (c ∷ t) h e);
    }
    go ih false e = record {
      apart = behind-text false c t e ∙ ap (λ (l : List ℕ). c ∷ l) ih.apart ∙ sym (spaced-text c t e);
      run = λ (b : ℕ) (h : is_space_or_tab b ≡ true).
          ap (λ (l : List ℕ). 32 ∷ l) (behind-text true c t e ∙ ap (λ (l : List ℕ). c ∷ l) ih.apart ∙ sym (spaced-text c t e))
          ∙ sym (spaced-last b (c ∷ t) h e);
    }

-- the steps of a loop: items is what was written, and i is the place
pub begun : (t : List ℕ) → [] ++ spaced_behind false (drop 0 t) ≡ with_single_spaces t
begun t = (same t).apart

pub written : (items t : List ℕ) (p : Bool) (i b : ℕ) → i < length t → b ≡ get_or t i 0 → is_space_or_tab b ≡ false
    → (items ++ b ∷ []) ++ spaced_behind false (drop (i + 1) t) ≡ items ++ spaced_behind p (drop i t)
written items t p i b l e h =
    append_assoc items (b ∷ []) (spaced_behind false (drop (i + 1) t))
    ∙ ap (λ (m : List ℕ). items ++ m) (sym (behind-text p b (drop (i + 1) t) h) ∙ ap (λ (x : ℕ). spaced_behind p (x ∷ drop (i + 1) t)) e ∙ ap (spaced_behind p) (sym (drop_more t i 0 l)))

pub passed : (items t : List ℕ) (i b : ℕ) → i < length t → b ≡ get_or t i 0 → is_space_or_tab b ≡ true
    → items ++ spaced_behind true (drop (i + 1) t) ≡ items ++ spaced_behind true (drop i t)
passed items t i b l e h =
    ap (λ (m : List ℕ). items ++ m) (sym (behind-run b (drop (i + 1) t) h) ∙ ap (λ (x : ℕ). spaced_behind true (x ∷ drop (i + 1) t)) e ∙ ap (spaced_behind true) (sym (drop_more t i 0 l)))

pub spaced_once : (items t : List ℕ) (i b : ℕ) → i < length t → b ≡ get_or t i 0 → is_space_or_tab b ≡ true
    → (items ++ 32 ∷ []) ++ spaced_behind true (drop (i + 1) t) ≡ items ++ spaced_behind false (drop i t)
spaced_once items t i b l e h =
    append_assoc items (32 ∷ []) (spaced_behind true (drop (i + 1) t))
    ∙ ap (λ (m : List ℕ). items ++ m) (sym (behind-first b (drop (i + 1) t) h) ∙ ap (λ (x : ℕ). spaced_behind false (x ∷ drop (i + 1) t)) e ∙ ap (spaced_behind false) (sym (drop_more t i 0 l)))

pub ended : (items t : List ℕ) (p : Bool) (i : ℕ) → length t ≤ i → items ++ spaced_behind p (drop i t) ≡ items
ended items t p i l = ap (λ (m : List ℕ). items ++ spaced_behind p m) (drop_all i t l) ∙ ap (λ (m : List ℕ). items ++ m) (behind-end p) ∙ append-nil items

-- an iteration, by what it wrote and what stands behind it
pub after_text : (items now t s : List ℕ) (p q : Bool) (i b : ℕ) → i < length t → b ≡ get_or t i 0 → is_space_or_tab b ≡ false → now ≡ items ++ b ∷ [] → q ≡ false
    → items ++ spaced_behind p (drop i t) ≡ s → now ++ spaced_behind q (drop (i + 1) t) ≡ s
after_text items now t s p q i b l e h n f inv =
    ap₂ (λ (m : List ℕ) (r : Bool). m ++ spaced_behind r (drop (i + 1) t)) n f ∙ written items t p i b l e h ∙ inv

pub after_first : (items now t s : List ℕ) (p q : Bool) (i b : ℕ) → i < length t → b ≡ get_or t i 0 → is_space_or_tab b ≡ true → now ≡ items ++ 32 ∷ [] → p ≡ false → q ≡ true
    → items ++ spaced_behind p (drop i t) ≡ s → now ++ spaced_behind q (drop (i + 1) t) ≡ s
after_first items now t s p q i b l e h n f g inv =
    ap₂ (λ (m : List ℕ) (r : Bool). m ++ spaced_behind r (drop (i + 1) t)) n g
    ∙ spaced_once items t i b l e h ∙ ap (λ (r : Bool). items ++ spaced_behind r (drop i t)) (sym f) ∙ inv

pub after_run : (items now t s : List ℕ) (p q : Bool) (i b : ℕ) → i < length t → b ≡ get_or t i 0 → is_space_or_tab b ≡ true → now ≡ items → p ≡ true → q ≡ true
    → items ++ spaced_behind p (drop i t) ≡ s → now ++ spaced_behind q (drop (i + 1) t) ≡ s
after_run items now t s p q i b l e h n f g inv =
    ap₂ (λ (m : List ℕ) (r : Bool). m ++ spaced_behind r (drop (i + 1) t)) n g
    ∙ passed items t i b l e h ∙ ap (λ (r : Bool). items ++ spaced_behind r (drop i t)) (sym f) ∙ inv
