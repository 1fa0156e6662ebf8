-- The removals do not depend on the case of letters.
use Rattle.std.proofs.Common.{◌≡◌, ◌≢◌, ℕ, zero, suc, ◌<◌, Bool, true, false, ◌==◌, List, [], ◌∷◌, length, refl, arith, ap, ap₂, ◌∙◌, sym, Option, Some, None, reverse}
use Rattle.std.proofs.lemmas.Bool.Decides.{nat_tests}
use Rattle.std.proofs.lemmas.List.{length-map}
use Rattle.std.specs.Prelude.{codes}
use Rattle.std.specs.Option.{option_map, option_or, option_and_then}
use Rattle.std.specs.Char.{to_ascii_lowercase}
use Rattle.subject_core.specs.Pieces.{ascii_lowercase}
use Rattle.subject_core.specs.Removal.{StrippedSubject, stripped_subject, after_literal, before_literal, after_spaces}
use Rattle.subject_core.specs.Removal.{after_closing_bracket, after_blob, after_blob_and_colon, after_reply_word, after_refwd}
use Rattle.subject_core.specs.Removal.{after_leader, if_not_empty, without_trailer, without_leader, without_blob, without_fwd_brackets}
use Rattle.subject_core.specs.BaseSubject.{after_one_removal, with_earlier_reply, after_bounded_removals, after_all_removals}
use Rattle.subject_core.proofs.Steps.{is_it, is_not, after-nothing, after-past, after-same, after-other, spaces-end, spaces-more, spaces-done, closing-end, closing-here, closing-opened, closing-more}
use Rattle.subject_core.proofs.Blobs.{as_it_is}
use Rattle.subject_core.proofs.Literals.{lower-reverse}
use Rattle.subject_core.proofs.Rests.{within-done, within-more}

pub lower_byte : (b : ℕ) → to_ascii_lowercase (to_ascii_lowercase b) ≡ to_ascii_lowercase b
lower_byte b = grind (arith, nat_tests)

pub lower-lower : (t : List ℕ) → ascii_lowercase (ascii_lowercase t) ≡ ascii_lowercase t
lower-lower [] = refl
lower-lower (b ∷ t) = ap₂ (λ (x : ℕ) (l : List ℕ). x ∷ l) (lower_byte b) (lower-lower t)

-- functions on options that go along with lower
or-map : {A B : Type 0} (g : A → B) (o p : Option A) → option_or (option_map g o) (option_map g p) ≡ option_map g (option_or o p)
or-map g None p = refl
or-map g (Some x) p = refl

then-map : {A B C D : Type 0} (g : A → B) (h : C → D) (f : A → Option C) (k : B → Option D) → ((x : A) → k (g x) ≡ option_map h (f x)) → (o : Option A)
    → option_and_then k (option_map g o) ≡ option_map h (option_and_then f o)
then-map g h f k e None = refl
then-map g h f k e (Some x) = e x

map-map : {A B C D : Type 0} (g : A → B) (f : B → D) (h : A → C) (k : C → D) → ((x : A) → f (g x) ≡ k (h x)) → (o : Option A) → option_map f (option_map g o) ≡ option_map k (option_map h o)
map-map g f h k e None = refl
map-map g f h k e (Some x) = ap Some (e x)

pub after-lower : (ks t : List ℕ) → after_literal ks (ascii_lowercase t) ≡ option_map ascii_lowercase (after_literal ks t)
after-lower [] t = after-nothing (ascii_lowercase t) ∙ ap (option_map ascii_lowercase) (sym (after-nothing t))
after-lower (k ∷ ks) [] = after-past k ks ∙ ap (option_map ascii_lowercase) (sym (after-past k ks))
after-lower (k ∷ ks) (b ∷ t) = go (after-lower ks t) (to_ascii_lowercase b == k) refl
  where
    go : after_literal ks (ascii_lowercase t) ≡ option_map ascii_lowercase (after_literal ks t) → (s : Bool) → (to_ascii_lowercase b == k) ≡ s
        → after_literal (k ∷ ks) (ascii_lowercase (b ∷ t)) ≡ option_map ascii_lowercase (after_literal (k ∷ ks) (b ∷ t))
    go ih true e =
        let i = is_it (to_ascii_lowercase b) k e in
        after-same k (to_ascii_lowercase b) ks (ascii_lowercase t) (lower_byte b ∙ i) ∙ ih ∙ ap (option_map ascii_lowercase) (sym (after-same k b ks t i))
    go ih false e =
        let i = is_not (to_ascii_lowercase b) k e in
        after-other k (to_ascii_lowercase b) ks (ascii_lowercase t) (λ (h : to_ascii_lowercase (to_ascii_lowercase b) ≡ k). i (sym (lower_byte b) ∙ h))
        ∙ ap (option_map ascii_lowercase) (sym (after-other k b ks t i))

before-lower : (ks t : List ℕ) → before_literal ks (ascii_lowercase t) ≡ option_map ascii_lowercase (before_literal ks t)
before-lower ks t =
    ap (λ (l : List ℕ). option_map reverse (after_literal (reverse ks) l)) (sym (lower-reverse t))
    ∙ ap (option_map reverse) (after-lower (reverse ks) (reverse t))
    ∙ map-map ascii_lowercase reverse reverse ascii_lowercase (λ (x : List ℕ). sym (lower-reverse x)) (after_literal (reverse ks) (reverse t))

-- bytes below the lower-case letters, behind the upper-case ones or before them, stay apart
kept_apart : (b k : ℕ) → k < 97 → b ≢ k → to_ascii_lowercase b ≢ k
kept_apart b k l n h = n (as_it_is b k l h)

plain_byte : (b k : ℕ) → to_ascii_lowercase k ≡ k → b ≡ k → to_ascii_lowercase b ≡ k
plain_byte b k h e = ap to_ascii_lowercase e ∙ h

spaces-lower : (t : List ℕ) → after_spaces (ascii_lowercase t) ≡ ascii_lowercase (after_spaces t)
spaces-lower [] = spaces-end ∙ ap ascii_lowercase (sym spaces-end)
spaces-lower (b ∷ t) = go (spaces-lower t) (b == 32) refl
  where
    go : after_spaces (ascii_lowercase t) ≡ ascii_lowercase (after_spaces t) → (s : Bool) → (b == 32) ≡ s → after_spaces (ascii_lowercase (b ∷ t)) ≡ ascii_lowercase (after_spaces (b ∷ t))
    go ih true e =
        let i = is_it b 32 e in
        spaces-more (to_ascii_lowercase b) (ascii_lowercase t) (plain_byte b 32 refl i) ∙ ih ∙ ap ascii_lowercase (sym (spaces-more b t i))
    go ih false e =
        let i = is_not b 32 e in
        spaces-done (to_ascii_lowercase b) (ascii_lowercase t) (kept_apart b 32 (omega arith) i) ∙ ap ascii_lowercase (sym (spaces-done b t i))

closing-lower : (t : List ℕ) → after_closing_bracket (ascii_lowercase t) ≡ option_map ascii_lowercase (after_closing_bracket t)
closing-lower [] = closing-end ∙ ap (option_map ascii_lowercase) (sym closing-end)
closing-lower (b ∷ t) = go (closing-lower t) (b == 93) refl (b == 91) refl
  where
    go : after_closing_bracket (ascii_lowercase t) ≡ option_map ascii_lowercase (after_closing_bracket t) → (s : Bool) → (b == 93) ≡ s → (r : Bool) → (b == 91) ≡ r
        → after_closing_bracket (ascii_lowercase (b ∷ t))
        ≡ option_map ascii_lowercase (after_closing_bracket (b ∷ t))
    go ih true e r f =
        let i = is_it b 93 e in
        closing-here (to_ascii_lowercase b) (ascii_lowercase t) (plain_byte b 93 refl i) ∙ ap (option_map ascii_lowercase) (sym (closing-here b t i))
    go ih false e true f =
        let i = is_it b 91 f in
        closing-opened (to_ascii_lowercase b) (ascii_lowercase t) (plain_byte b 91 refl i) ∙ ap (option_map ascii_lowercase) (sym (closing-opened b t i))
    go ih false e false f =
        let i = is_not b 91 f in
        let j = is_not b 93 e in
        closing-more (to_ascii_lowercase b) (ascii_lowercase t) (kept_apart b 91 (omega arith) i) (kept_apart b 93 (omega arith) j) ∙ ih ∙ ap (option_map ascii_lowercase) (sym (closing-more b t i j))

blob-lower : (t : List ℕ) → after_blob (ascii_lowercase t) ≡ option_map ascii_lowercase (after_blob t)
blob-lower t =
    ap (option_and_then (λ (bs : List ℕ). option_map after_spaces (after_closing_bracket bs))) (after-lower (codes "[") t)
    ∙ then-map ascii_lowercase ascii_lowercase (λ (bs : List ℕ). option_map after_spaces (after_closing_bracket bs)) (λ (bs : List ℕ). option_map after_spaces (after_closing_bracket bs))
    (λ (x : List ℕ). ap (option_map after_spaces) (closing-lower x) ∙ map-map ascii_lowercase after_spaces after_spaces ascii_lowercase spaces-lower (after_closing_bracket x))
    (after_literal (codes "[") t)

colon-lower : (t : List ℕ) → after_blob_and_colon (ascii_lowercase t) ≡ option_map ascii_lowercase (after_blob_and_colon t)
colon-lower t =
    ap (λ (bs : List ℕ). option_or (after_literal (codes ":") bs) (option_and_then (after_literal (codes ":")) (after_blob bs))) (spaces-lower t)
    ∙ ap₂ option_or
    (after-lower (codes ":") (after_spaces t))
    (ap (option_and_then (after_literal (codes ":"))) (blob-lower (after_spaces t)) ∙ then-map ascii_lowercase ascii_lowercase (after_literal (codes ":")) (after_literal (codes ":"))
    (after-lower (codes ":")) (after_blob (after_spaces t)))
    ∙ or-map ascii_lowercase (after_literal (codes ":") (after_spaces t)) (option_and_then (after_literal (codes ":")) (after_blob (after_spaces t)))

mark-lower : (ks t : List ℕ) → after_reply_word ks (ascii_lowercase t) ≡ option_map ascii_lowercase (after_reply_word ks t)
mark-lower ks t = ap (option_and_then after_blob_and_colon) (after-lower ks t) ∙ then-map ascii_lowercase ascii_lowercase after_blob_and_colon after_blob_and_colon colon-lower (after_literal ks t)

refwd-lower : (t : List ℕ) → after_refwd (ascii_lowercase t) ≡ option_map ascii_lowercase (after_refwd t)
unfolding after_refwd
refwd-lower t =
    ap₂ option_or (mark-lower (codes "re") t)
    (ap₂ option_or (mark-lower (codes "fwd") t) (mark-lower (codes "fw") t) ∙ or-map ascii_lowercase (after_reply_word (codes "fwd") t) (after_reply_word (codes "fw") t))
    ∙ or-map ascii_lowercase (after_reply_word (codes "re") t) (option_or (after_reply_word (codes "fwd") t) (after_reply_word (codes "fw") t))

leader-lower : (n : ℕ) (t : List ℕ) → after_leader n (ascii_lowercase t) ≡ option_map ascii_lowercase (after_leader n t)
unfolding after_leader
leader-lower zero t = refwd-lower t
leader-lower (suc n) t =
    ap₂ option_or (refwd-lower t)
    (ap (option_and_then (after_leader n)) (blob-lower t) ∙ then-map ascii_lowercase ascii_lowercase (after_leader n) (after_leader n) (leader-lower n) (after_blob t))
    ∙ or-map ascii_lowercase (after_refwd t) (option_and_then (after_leader n) (after_blob t))

unfoldable pub lower_left : StrippedSubject → StrippedSubject
lower_left w = stripped_subject w.reply (ascii_lowercase w.text)

left-lower : (m : Bool) (o : Option (List ℕ)) → option_map (stripped_subject m) (option_map ascii_lowercase o) ≡ option_map lower_left (option_map (stripped_subject m) o)
unfolding lower_left
left-lower m o = map-map ascii_lowercase (stripped_subject m) (stripped_subject m) lower_left (λ (x : List ℕ). refl) o

trailer-lower : (t : List ℕ) → without_trailer (ascii_lowercase t) ≡ option_map lower_left (without_trailer t)
unfolding without_trailer
trailer-lower t =
    ap₂ option_or
    (ap (option_map (stripped_subject false)) (before-lower (codes " ") t) ∙ left-lower false (before_literal (codes " ") t))
    (ap (option_map (stripped_subject true)) (before-lower (codes "(fwd)") t) ∙ left-lower true (before_literal (codes "(fwd)") t))
    ∙ or-map lower_left (option_map (stripped_subject false) (before_literal (codes " ") t)) (option_map (stripped_subject true) (before_literal (codes "(fwd)") t))

leaders-lower : (t : List ℕ) → without_leader (ascii_lowercase t) ≡ option_map lower_left (without_leader t)
unfolding without_leader
leaders-lower t =
    ap₂ option_or
    (ap (option_map (stripped_subject false)) (after-lower (codes " ") t) ∙ left-lower false (after_literal (codes " ") t))
    (ap (λ (n : ℕ). option_map (stripped_subject true) (after_leader n (ascii_lowercase t))) (length-map t to_ascii_lowercase) ∙ ap (option_map (stripped_subject true)) (leader-lower (length t) t)
    ∙ left-lower true (after_leader (length t) t))
    ∙ or-map lower_left (option_map (stripped_subject false) (after_literal (codes " ") t)) (option_map (stripped_subject true) (after_leader (length t) t))

any-lower : (t : List ℕ) → if_not_empty (ascii_lowercase t) ≡ option_map ascii_lowercase (if_not_empty t)
any-lower [] = refl
any-lower (b ∷ t) = refl

blobs-lower : (t : List ℕ) → without_blob (ascii_lowercase t) ≡ option_map lower_left (without_blob t)
unfolding without_blob
blobs-lower t =
    ap (λ (o : Option (List ℕ)). option_map (stripped_subject false) (option_and_then if_not_empty o)) (blob-lower t)
    ∙ ap (option_map (stripped_subject false)) (then-map ascii_lowercase ascii_lowercase if_not_empty if_not_empty any-lower (after_blob t))
    ∙ left-lower false (option_and_then if_not_empty (after_blob t))

pair-lower : (t : List ℕ) → without_fwd_brackets (ascii_lowercase t) ≡ option_map lower_left (without_fwd_brackets t)
unfolding without_fwd_brackets
pair-lower t =
    ap (λ (o : Option (List ℕ)). option_map (stripped_subject true) (option_and_then (before_literal (codes "]")) o)) (after-lower (codes "[fwd:") t)
    ∙ ap (option_map (stripped_subject true)) (then-map ascii_lowercase ascii_lowercase (before_literal (codes "]")) (before_literal (codes "]")) (before-lower (codes "]")) (after_literal (codes "[fwd:") t))
    ∙ left-lower true (option_and_then (before_literal (codes "]")) (after_literal (codes "[fwd:") t))

pub next-lower : (t : List ℕ) → after_one_removal (ascii_lowercase t) ≡ option_map lower_left (after_one_removal t)
unfolding after_one_removal
next-lower t =
    ap₂ option_or (trailer-lower t)
    (ap₂ option_or (leaders-lower t)
    (ap₂ option_or (blobs-lower t) (pair-lower t) ∙ or-map lower_left (without_blob t) (without_fwd_brackets t))
    ∙ or-map lower_left (without_leader t) (option_or (without_blob t) (without_fwd_brackets t)))
    ∙ or-map lower_left (without_trailer t) (option_or (without_leader t) (option_or (without_blob t) (without_fwd_brackets t)))

within-lower : (n : ℕ) (t : List ℕ) → after_bounded_removals n (ascii_lowercase t) ≡ lower_left (after_bounded_removals n t)
unfolding after_bounded_removals lower_left
within-lower zero t = refl
within-lower (suc n) t = go (within-lower n) (after_one_removal t) refl
  where
    go : ((t : List ℕ) → after_bounded_removals n (ascii_lowercase t) ≡ lower_left (after_bounded_removals n t)) → (o : Option StrippedSubject) → after_one_removal t ≡ o
        → after_bounded_removals (suc n) (ascii_lowercase t) ≡ lower_left (after_bounded_removals (suc n) t)
    go ih None e = within-done (suc n) (ascii_lowercase t) (next-lower t ∙ ap (option_map lower_left) e) ∙ ap lower_left (sym (within-done (suc n) t e))
    go ih (Some w) e =
        within-more n (ascii_lowercase t) (lower_left w) (next-lower t ∙ ap (option_map lower_left) e)
        ∙ ap (with_earlier_reply w.reply) (ih w.text)
        ∙ ap lower_left (sym (within-more n t w e))

pub rest-lower : (t : List ℕ) → after_all_removals (ascii_lowercase t) ≡ lower_left (after_all_removals t)
rest-lower t = ap (λ (n : ℕ). after_bounded_removals n (ascii_lowercase t)) (length-map t to_ascii_lowercase) ∙ within-lower (length t) t
