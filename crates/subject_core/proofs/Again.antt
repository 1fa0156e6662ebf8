-- A base is its own base: its white space is single spaces, nothing can be removed, and it is in lower case.
use Rattle.std.proofs.Common.{◌≡◌, ◌≢◌, ℕ, ◌<◌, Bool, true, false, ◌==◌, List, [], ◌∷◌, ◌++◌, length, refl, arith, ap, ap₂, ◌∙◌, sym, None, subst}
use Rattle.std.proofs.lemmas.Bool.Decides.{nat_tests}
use Rattle.std.specs.Prelude.{codes}
use Rattle.std.specs.Option.{option_map}
use Rattle.std.specs.Char.{to_ascii_lowercase}
use Rattle.subject_core.specs.Spaces.{is_space_or_tab, begins_with_space_or_tab, with_single_spaces}
use Rattle.subject_core.specs.Pieces.{ascii_lowercase}
use Rattle.subject_core.specs.Removal.{StrippedSubject, stripped_subject}
use Rattle.subject_core.specs.BaseSubject.{RemovesOnePiece, RemovesPieces, after_one_removal, after_all_removals, base_subject_of, is_reply}
use Rattle.subject_core.specs.BaseSubject.RemovesOnePiece.{trailer, leader, blob, pair}
use Rattle.subject_core.specs.BaseSubject.RemovesPieces.{here, further}
use Rattle.subject_core.proofs.Steps.{is_it, is_not, not_equal}
use Rattle.subject_core.proofs.Blobs.{as_it_is}
use Rattle.subject_core.proofs.Spacings.{spaced-text, spaced-run, spaced-last, spaced-end}
use Rattle.subject_core.proofs.Rests.{rest-done}
use Rattle.subject_core.proofs.OneBase.{reaches, stops}
use Rattle.subject_core.proofs.LowerCase.{lower_left, lower-lower, rest-lower, next-lower}

-- what white space is
white_is : (b : ℕ) → is_space_or_tab b ≡ true → b ≢ 9 → b ≡ 32
white_is b h n = grind (arith, nat_tests, h, n)

text_is : (b : ℕ) → is_space_or_tab b ≡ false → (b ≢ 9) × (b ≢ 32)
text_is b h = (λ (e : b ≡ 9). grind (arith, nat_tests, h, e), λ (e : b ≡ 32). grind (arith, nat_tests, h, e))

is_text : (b : ℕ) → b ≢ 9 → b ≢ 32 → is_space_or_tab b ≡ false
is_text b p q = rw (not_equal b 9 p, not_equal b 32 q) refl

is_space : (b : ℕ) → b ≡ 32 → is_space_or_tab b ≡ true
is_space b e = ap is_space_or_tab e

-- no tab, and no space before another
AreSingle : List ℕ → Type 0
AreSingle [] = Unit {0}
AreSingle (b ∷ bs) = (b ≢ 9) × (b ≡ 32 → begins_with_space_or_tab bs ≡ false) × AreSingle bs

begins-spaced : (t : List ℕ) → begins_with_space_or_tab (with_single_spaces t) ≡ begins_with_space_or_tab t
begins-spaced [] = ap begins_with_space_or_tab spaced-end
begins-spaced (b ∷ bs) = go (begins-spaced bs) (is_space_or_tab b) refl (begins_with_space_or_tab bs) refl
  where
    go : begins_with_space_or_tab (with_single_spaces bs) ≡ begins_with_space_or_tab bs → (w : Bool) → is_space_or_tab b ≡ w → (n : Bool) → begins_with_space_or_tab bs ≡ n
        → begins_with_space_or_tab (with_single_spaces (b ∷ bs)) ≡ is_space_or_tab b
    go ih true e true f = ap begins_with_space_or_tab (spaced-run b bs e f) ∙ ih ∙ f ∙ sym e
    go ih true e false f = ap begins_with_space_or_tab (spaced-last b bs e f) ∙ sym e
    go ih false e n f = ap begins_with_space_or_tab (spaced-text b bs e)

single_spaced : (t : List ℕ) → AreSingle (with_single_spaces t)
unfolding AreSingle
single_spaced [] = let P : List ℕ → Type 0 = AreSingle in subst P (sym spaced-end) tt
single_spaced (b ∷ bs) = go (single_spaced bs) (is_space_or_tab b) refl (begins_with_space_or_tab bs) refl
  where
    go : AreSingle (with_single_spaces bs) → (w : Bool) → is_space_or_tab b ≡ w → (n : Bool) → begins_with_space_or_tab bs ≡ n → AreSingle (with_single_spaces (b ∷ bs))
    go ih true e true f = let P : List ℕ → Type 0 = AreSingle in subst P (sym (spaced-run b bs e f)) ih
    go ih true e false f =
        let P : List ℕ → Type 0 = AreSingle in
        subst P (sym (spaced-last b bs e f)) (λ (n : 32 ≡ 9). omega arith, λ (n : 32 ≡ 32). begins-spaced bs ∙ f, ih)
    go ih false e n f =
        let x = text_is b e in
        let P : List ℕ → Type 0 = AreSingle in
        subst P (sym (spaced-text b bs e)) (x.0, λ (s : b ≡ 32). absurd (x.1 s), ih)

spaced-single : (t : List ℕ) → AreSingle t → with_single_spaces t ≡ t
unfolding AreSingle
spaced-single [] a = spaced-end
spaced-single (b ∷ bs) a = go (spaced-single bs a.2) (b == 32) refl
  where
    go : with_single_spaces bs ≡ bs → (s : Bool) → (b == 32) ≡ s → with_single_spaces (b ∷ bs) ≡ b ∷ bs
    go ih true e =
        let i = is_it b 32 e in
        spaced-last b bs (is_space b i) (a.1 i) ∙ ap₂ (λ (x : ℕ) (l : List ℕ). x ∷ l) (sym i) ih
    go ih false e = spaced-text b bs (is_text b a.0 (is_not b 32 e)) ∙ ap (λ (l : List ℕ). b ∷ l) ih

single_behind : (f u : List ℕ) → AreSingle (f ++ u) → AreSingle u
unfolding AreSingle
single_behind [] u a = a
single_behind (b ∷ f) u a = single_behind f u a.2

begins_before : (u v : List ℕ) → begins_with_space_or_tab (u ++ v) ≡ false → begins_with_space_or_tab u ≡ false
begins_before [] v h = refl
begins_before (b ∷ u) v h = h

single_before : (u v : List ℕ) → AreSingle (u ++ v) → AreSingle u
unfolding AreSingle
single_before [] v a = tt
single_before (b ∷ u) v a = (a.0, λ (e : b ≡ 32). begins_before u v (a.1 e), single_before u v a.2)

not_lower : (b k : ℕ) → k < 97 → b ≢ k → to_ascii_lowercase b ≢ k
not_lower b k l n h = n (as_it_is b k l h)

begins-lower : (t : List ℕ) → begins_with_space_or_tab t ≡ false → begins_with_space_or_tab (ascii_lowercase t) ≡ false
begins-lower [] h = refl
begins-lower (b ∷ t) h = let x = text_is b h in is_text (to_ascii_lowercase b) (not_lower b 9 (omega arith) x.0) (not_lower b 32 (omega arith) x.1)

single_lower : (t : List ℕ) → AreSingle t → AreSingle (ascii_lowercase t)
unfolding AreSingle
single_lower [] a = tt
single_lower (b ∷ t) a = (
  not_lower b 9 (omega arith) a.0,
  λ (e : to_ascii_lowercase b ≡ 32). begins-lower t (a.1 (as_it_is b 32 (omega arith) e)),
  single_lower t a.2,
)

-- removals leave white space single
single_goes : (t u : List ℕ) (m : Bool) → RemovesOnePiece t m u → AreSingle t → AreSingle u
single_goes t u m (trailer l) a = let P : List ℕ → Type 0 = AreSingle in single_before u l.trailer (subst P l.text_is a)
single_goes t u m (leader never l) a = let P : List ℕ → Type 0 = AreSingle in single_behind l.leader u (subst P l.text_is a)
single_goes t u m (blob never none l) a = let P : List ℕ → Type 0 = AreSingle in single_behind l.blob u (subst P l.text_is a)
single_goes t u m (pair never none not l) a =
    let P : List ℕ → Type 0 = AreSingle in single_behind l.opening u (single_before (l.opening ++ u) (codes "]") (subst P l.text_is a))

single_reached : (t u : List ℕ) (m : Bool) → RemovesPieces t m u → AreSingle t → AreSingle u
single_reached t u m here a = a
single_reached t u m (further {next = v} {reply = p} {later = q} g r) a = single_reached v u q r (single_goes t v p g a)

single_rest : (s : List ℕ) → AreSingle (ascii_lowercase (after_all_removals (with_single_spaces s)).text)
single_rest s =
    single_lower (after_all_removals (with_single_spaces s)).text
    (single_reached (with_single_spaces s) (after_all_removals (with_single_spaces s)).text (after_all_removals (with_single_spaces s)).reply
    (reaches (length (with_single_spaces s)) (with_single_spaces s)) (single_spaced s))

again : (s : List ℕ) → after_all_removals (with_single_spaces (base_subject_of s)) ≡ stripped_subject false (base_subject_of s)
again s =
    ap after_all_removals (spaced-single (base_subject_of s) (single_rest s))
    ∙ rest-done (base_subject_of s) (next-lower (after_all_removals (with_single_spaces s)).text ∙ none)
  where
    none : option_map lower_left (after_one_removal (after_all_removals (with_single_spaces s)).text) ≡ None
    none = ap (option_map lower_left) (stops (length (with_single_spaces s)) (with_single_spaces s) (omega arith))

pub base_again : (s : List ℕ) → base_subject_of (base_subject_of s) ≡ base_subject_of s
base_again s = ap (λ (w : StrippedSubject). ascii_lowercase w.text) (again s) ∙ lower-lower (after_all_removals (with_single_spaces s)).text

pub base_plain : (s : List ℕ) → is_reply (base_subject_of s) ≡ false
base_plain s = ap (λ (w : StrippedSubject). w.reply) (again s)

pub lower_base : (s : List ℕ) → ascii_lowercase (base_subject_of s) ≡ base_subject_of s
lower_base s = lower-lower (after_all_removals (with_single_spaces s)).text

-- the case of the subject's letters
white-lower : (b : ℕ) → is_space_or_tab (to_ascii_lowercase b) ≡ is_space_or_tab b
white-lower b = go (is_space_or_tab b) refl
  where
    go : (w : Bool) → is_space_or_tab b ≡ w → is_space_or_tab (to_ascii_lowercase b) ≡ is_space_or_tab b
    go false e = let x = text_is b e in is_text (to_ascii_lowercase b) (not_lower b 9 (omega arith) x.0) (not_lower b 32 (omega arith) x.1) ∙ sym e
    go true e = split (b == 9) refl
      where
        split : (s : Bool) → (b == 9) ≡ s → is_space_or_tab (to_ascii_lowercase b) ≡ is_space_or_tab b
        split true f = let i = is_it b 9 f in ap (λ (x : ℕ). is_space_or_tab (to_ascii_lowercase x)) i ∙ ap is_space_or_tab (sym i)
        split false f = let i = white_is b e (is_not b 9 f) in ap (λ (x : ℕ). is_space_or_tab (to_ascii_lowercase x)) i ∙ ap is_space_or_tab (sym i)

begins_white-lower : (t : List ℕ) → begins_with_space_or_tab (ascii_lowercase t) ≡ begins_with_space_or_tab t
begins_white-lower [] = refl
begins_white-lower (b ∷ t) = white-lower b

spaced-lower : (t : List ℕ) → with_single_spaces (ascii_lowercase t) ≡ ascii_lowercase (with_single_spaces t)
spaced-lower [] = spaced-end ∙ ap ascii_lowercase (sym spaced-end)
spaced-lower (b ∷ t) = go (spaced-lower t) (is_space_or_tab b) refl (begins_with_space_or_tab t) refl
  where
    go : with_single_spaces (ascii_lowercase t) ≡ ascii_lowercase (with_single_spaces t) → (w : Bool) → is_space_or_tab b ≡ w → (n : Bool) → begins_with_space_or_tab t ≡ n
        → with_single_spaces (ascii_lowercase (b ∷ t)) ≡ ascii_lowercase (with_single_spaces (b ∷ t))
    go ih true e true f = spaced-run (to_ascii_lowercase b) (ascii_lowercase t) (white-lower b ∙ e) (begins_white-lower t ∙ f) ∙ ih ∙ ap ascii_lowercase (sym (spaced-run b t e f))
    go ih true e false f = spaced-last (to_ascii_lowercase b) (ascii_lowercase t) (white-lower b ∙ e) (begins_white-lower t ∙ f) ∙ ap (λ (l : List ℕ). 32 ∷ l) ih ∙ ap ascii_lowercase
        (sym (spaced-last b t e f))
    go ih false e n f = spaced-text (to_ascii_lowercase b) (ascii_lowercase t) (white-lower b ∙ e) ∙ ap (λ (l : List ℕ). to_ascii_lowercase b ∷ l) ih ∙ ap ascii_lowercase (sym (spaced-text b t e))

rest-lower_subject : (s : List ℕ) → after_all_removals (with_single_spaces (ascii_lowercase s)) ≡ lower_left (after_all_removals (with_single_spaces s))
rest-lower_subject s = ap after_all_removals (spaced-lower s) ∙ rest-lower (with_single_spaces s)

pub base-lower : (s : List ℕ) → base_subject_of (ascii_lowercase s) ≡ base_subject_of s
unfolding lower_left
base-lower s = ap (λ (w : StrippedSubject). ascii_lowercase w.text) (rest-lower_subject s) ∙ lower-lower (after_all_removals (with_single_spaces s)).text

pub reply-lower : (s : List ℕ) → is_reply (ascii_lowercase s) ≡ is_reply s
unfolding lower_left
reply-lower s = ap (λ (w : StrippedSubject). w.reply) (rest-lower_subject s)
