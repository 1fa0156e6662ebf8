-- Spaces and blobs: the functions find what the grammar says.
use Rattle.std.proofs.Common.{◌≡◌, ◌≢◌, ℕ, ◌<◌, Bool, true, false, ◌==◌, List, [], ◌∷◌, ◌++◌, refl, arith, ap, ◌∙◌, sym, Some, None, append_assoc}
use Rattle.std.specs.Prelude.{codes}
use Rattle.std.specs.Option.{option_map}
use Rattle.std.specs.Char.{to_ascii_lowercase}
use Rattle.subject_core.specs.Pieces.{AreSpaces, AreBlobChars, IsBlob, EqualsIgnoringCase}
use Rattle.subject_core.specs.Removal.{after_literal, after_spaces, after_closing_bracket, after_blob}
use Rattle.subject_core.proofs.Steps.{is_it, is_not, after-nothing, after-same, spaces-end, spaces-more, spaces-done, closing-end, closing-here, closing-opened, closing-more}
use Rattle.std.proofs.lemmas.Bool.Decides.{nat_tests}
use Rattle.subject_core.proofs.Literals.{after_sound}
use Rattle.subject_core.proofs.Options.{some_map, some_then, map_some, then_some}

-- the spaces that begin a text, and what follows them
pub spaces_sound : (t : List ℕ) → (s : List ℕ) × AreSpaces s × (t ≡ s ++ after_spaces t)
spaces_sound [] = ([], tt, sym spaces-end)
spaces_sound (b ∷ bs) = go (spaces_sound bs) (b == 32) refl
  where
    go : (s : List ℕ) × AreSpaces s × (bs ≡ s ++ after_spaces bs) → (e : Bool) → (b == 32) ≡ e → (s : List ℕ) × AreSpaces s × ((b ∷ bs) ≡ s ++ after_spaces (b ∷ bs))
    go ih true e =
        let i : b ≡ 32 = is_it b 32 e in
        (b ∷ ih.0, (i, ih.1), ap (λ (l : List ℕ). b ∷ l) (ih.2 ∙ ap (λ (l : List ℕ). ih.0 ++ l) (sym (spaces-more b bs i))))
    go ih false e = ([], tt, sym (spaces-done b bs (is_not b 32 e)))

pub spaces_over : (s t : List ℕ) → AreSpaces s → after_spaces (s ++ t) ≡ after_spaces t
spaces_over [] t h = refl
spaces_over (b ∷ s) t h = spaces-more b (s ++ t) h.0 ∙ spaces_over s t h.1

-- no space is left
pub spaces_twice : (t : List ℕ) → after_spaces (after_spaces t) ≡ after_spaces t
spaces_twice t = let w = spaces_sound t in sym (spaces_over w.0 (after_spaces t) w.1) ∙ ap after_spaces (sym w.2)

pub closing_sound : (t u : List ℕ) → after_closing_bracket t ≡ Some u → (inside : List ℕ) × AreBlobChars inside × (t ≡ inside ++ 93 ∷ u)
closing_sound [] u h = absurd (let e : None ≡ Some u = sym closing-end ∙ h in cc)
closing_sound (b ∷ bs) u h = go (closing_sound bs u) (b == 93) refl (b == 91) refl
  where
    go : (after_closing_bracket bs ≡ Some u → (inside : List ℕ) × AreBlobChars inside × (bs ≡ inside ++ 93 ∷ u))
        → (p : Bool) → (b == 93) ≡ p → (q : Bool) → (b == 91) ≡ q → (inside : List ℕ) × AreBlobChars inside × ((b ∷ bs) ≡ inside ++ 93 ∷ u)
    go ih true e q f =
        let i : b ≡ 93 = is_it b 93 e in
        let s : Some bs ≡ Some u = sym (closing-here b bs i) ∙ h in
        let v : bs ≡ u = cc in
        ([], tt, ap (λ (x : ℕ). x ∷ bs) i ∙ ap (λ (l : List ℕ). 93 ∷ l) v)
    go ih false e true f = absurd (let s : None ≡ Some u = sym (closing-opened b bs (is_it b 91 f)) ∙ h in cc)
    go ih false e false f =
        let p : b ≢ 91 = is_not b 91 f in
        let q : b ≢ 93 = is_not b 93 e in
        let w = ih (sym (closing-more b bs p q) ∙ h) in
        (b ∷ w.0, ((p, q), w.1), ap (λ (l : List ℕ). b ∷ l) w.2)

pub closing_complete : (inside u : List ℕ) → AreBlobChars inside → after_closing_bracket (inside ++ 93 ∷ u) ≡ Some u
closing_complete [] u h = closing-here 93 u refl
closing_complete (b ∷ inside) u h = closing-more b (inside ++ 93 ∷ u) h.0.0 h.0.1 ∙ closing_complete inside u h.1

-- an opening bracket at the front
pub opened : (t : List ℕ) → after_literal (codes "[") (91 ∷ t) ≡ Some t
opened t = after-same 91 91 [] t refl ∙ after-nothing t

-- a byte that is no letter is itself in lower case
pub as_it_is : (b k : ℕ) → k < 97 → to_ascii_lowercase b ≡ k → b ≡ k
as_it_is b k l h = grind (arith, nat_tests, h, l)

-- a literal of one byte
pub one_byte : (w : List ℕ) (k : ℕ) → EqualsIgnoringCase (k ∷ []) w → (b : ℕ) × (w ≡ b ∷ []) × (to_ascii_lowercase b ≡ k)
one_byte [] k h = absurd (cc)
one_byte (b ∷ []) k h = (b, refl, cc)
one_byte (b ∷ c ∷ w) k h = absurd (cc)

-- a literal of one byte that is no letter
pub that_byte : (w : List ℕ) (k : ℕ) → k < 97 → EqualsIgnoringCase (k ∷ []) w → w ≡ k ∷ []
that_byte w k l h = let v = one_byte w k h in v.1 ∙ ap (λ (b : ℕ). b ∷ []) (as_it_is v.0 k l v.2)

pub blob_sound : (t u : List ℕ) → after_blob t ≡ Some u → (blob : List ℕ) × IsBlob blob × (t ≡ blob ++ u) × (after_spaces u ≡ u)
blob_sound t u h =
    let x = some_then (λ (bs : List ℕ). option_map after_spaces (after_closing_bracket bs)) (after_literal (codes "[") t) u h in
    let y = some_map after_spaces (after_closing_bracket x.0) u x.2 in
    let w = after_sound (codes "[") t x.0 x.1 in
    let i = closing_sound x.0 y.0 y.1 in
    let s = spaces_sound y.0 in
    let rest : y.0 ≡ s.0 ++ u = s.2 ∙ ap (λ (l : List ℕ). s.0 ++ l) y.2 in (
      91 ∷ i.0 ++ 93 ∷ s.0,
      record { inside = i.0; spaces = s.0; are_blob_chars = i.1; are_spaces = s.1; text_is = refl },
      w.2
          ∙ ap (λ (l : List ℕ). l ++ x.0) (that_byte w.0 91 (omega arith) w.1)
          ∙ ap (λ (l : List ℕ). 91 ∷ l) (i.2 ∙ ap (λ (l : List ℕ). i.0 ++ 93 ∷ l) rest ∙ sym (append_assoc i.0 (93 ∷ s.0) u)),
      ap after_spaces (sym y.2) ∙ spaces_twice y.0 ∙ y.2,
    )

pub blob_complete : (blob t : List ℕ) → IsBlob blob → after_blob (blob ++ t) ≡ Some (after_spaces t)
blob_complete blob t h =
    ap (λ (l : List ℕ). after_blob (l ++ t)) h.text_is
    ∙ then_some (λ (bs : List ℕ). option_map after_spaces (after_closing_bracket bs)) (after_literal (codes "[") (91 ∷ (h.inside ++ 93 ∷ h.spaces) ++ t)) ((h.inside ++ 93 ∷ h.spaces) ++ t)
    (opened ((h.inside ++ 93 ∷ h.spaces) ++ t))
    ∙ ap (λ (l : List ℕ). option_map after_spaces (after_closing_bracket l)) (append_assoc h.inside (93 ∷ h.spaces) t)
    ∙ map_some after_spaces (after_closing_bracket (h.inside ++ 93 ∷ (h.spaces ++ t))) (h.spaces ++ t) (closing_complete h.inside (h.spaces ++ t) h.are_blob_chars)
    ∙ ap Some (spaces_over h.spaces t h.are_spaces)
