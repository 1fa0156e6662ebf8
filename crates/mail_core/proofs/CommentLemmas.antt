-- The grammar of comments and the count of depth are one.
use Rattle.std.proofs.Common.{◌≡◌, ◌≢◌, ℕ, zero, suc, Bool, true, false, ◌==◌, List, [], ◌∷◌, ◌++◌, refl, arith, ap, ◌∙◌, sym, Option, Some, None, if◌then◌else◌, append_assoc, subst}
use Rattle.std.proofs.lemmas.Bool.Decides.{nat_tests}
use Rattle.mail_core.specs.Comments.{IsCommentContent, BeginsWithComment, CommentByteKind, comment_byte_kind, after_closing_paren, after_comment}
use Rattle.mail_core.specs.Comments.IsCommentContent.{nothing, byte, quoted, comment}
use Rattle.mail_core.specs.Comments.CommentByteKind.{opening, closing, escape, ordinary}

-- what each mark says of the byte
abbrev MarkFacts : ℕ → CommentByteKind → Type 0
MarkFacts b opening = b ≡ 40
MarkFacts b closing = b ≡ 41
MarkFacts b escape = b ≡ 92
MarkFacts b ordinary = (b ≢ 40) × (b ≢ 41) × (b ≢ 92)

pub is_it : (b k : ℕ) → (b == k) ≡ true → b ≡ k
is_it b k h = grind (arith, nat_tests, h)

pub is_not : (b k : ℕ) → (b == k) ≡ false → b ≢ k
is_not b k h e = grind (arith, nat_tests, h, e)

pub not_equal : (b k : ℕ) → b ≢ k → (b == k) ≡ false
not_equal b k h = go (b == k) refl
  where
    go : (t : Bool) → (b == k) ≡ t → t ≡ false
    go false e = refl
    go true e = absurd (h (is_it b k e))

mark_is : (b : ℕ) → MarkFacts b (comment_byte_kind b)
unfolding comment_byte_kind
mark_is b = go (b == 40) (b == 41) (b == 92) refl refl refl
  where
    go : (p q r : Bool) → (b == 40) ≡ p → (b == 41) ≡ q → (b == 92) ≡ r
        → MarkFacts b (if p then opening else (if q then closing else (if r then escape else ordinary)))
    go true q r hp hq hr = is_it b 40 hp
    go false true r hp hq hr = is_it b 41 hq
    go false false true hp hq hr = is_it b 92 hr
    go false false false hp hq hr = (is_not b 40 hp, is_not b 41 hq, is_not b 92 hr)

pub comment_mark-40 : comment_byte_kind 40 ≡ opening
unfolding comment_byte_kind
comment_mark-40 = refl

pub comment_mark-41 : comment_byte_kind 41 ≡ closing
unfolding comment_byte_kind
comment_mark-41 = refl

pub comment_mark-92 : comment_byte_kind 92 ≡ escape
unfolding comment_byte_kind
comment_mark-92 = refl

pub comment_mark-other : (b : ℕ) → b ≢ 40 → b ≢ 41 → b ≢ 92 → comment_byte_kind b ≡ ordinary
unfolding comment_byte_kind
comment_mark-other b p q r = rw (not_equal b 40 p, not_equal b 41 q, not_equal b 92 r) refl

-- the steps of the count
pub closing_rest-done : (q : Bool) (bs : List ℕ) → after_closing_paren q zero bs ≡ Some bs
unfolding after_closing_paren
closing_rest-done q bs = refl

pub closing_rest-end : (q : Bool) (d : ℕ) → after_closing_paren q (suc d) [] ≡ None
unfolding after_closing_paren
closing_rest-end true d = refl
closing_rest-end false d = refl

pub closing_rest-quoted : (d b : ℕ) (bs : List ℕ) → after_closing_paren true (suc d) (b ∷ bs) ≡ after_closing_paren false (suc d) bs
unfolding after_closing_paren
closing_rest-quoted d b bs = refl

pub closing_rest-opening : (d b : ℕ) (bs : List ℕ) → comment_byte_kind b ≡ opening → after_closing_paren false (suc d) (b ∷ bs) ≡ after_closing_paren false (suc (suc d)) bs
unfolding after_closing_paren
closing_rest-opening d b bs e = rw (e, after_closing_paren) refl

pub closing_rest-closing : (d b : ℕ) (bs : List ℕ) → comment_byte_kind b ≡ closing → after_closing_paren false (suc d) (b ∷ bs) ≡ after_closing_paren false d bs
unfolding after_closing_paren
closing_rest-closing d b bs e = rw (e, after_closing_paren) refl

pub closing_rest-backslash : (d b : ℕ) (bs : List ℕ) → comment_byte_kind b ≡ escape → after_closing_paren false (suc d) (b ∷ bs) ≡ after_closing_paren true (suc d) bs
unfolding after_closing_paren
closing_rest-backslash d b bs e = rw (e, after_closing_paren) refl

pub closing_rest-ordinary : (d b : ℕ) (bs : List ℕ) → comment_byte_kind b ≡ ordinary → after_closing_paren false (suc d) (b ∷ bs) ≡ after_closing_paren false (suc d) bs
unfolding after_closing_paren
closing_rest-ordinary d b bs e = rw (e, after_closing_paren) refl

-- worked examples
example_plain : after_comment (40 ∷ 97 ∷ 41 ∷ 98 ∷ []) ≡ Some (98 ∷ [])
unfolding after_closing_paren comment_byte_kind
example_plain = refl

example_nested : after_comment (40 ∷ 40 ∷ 92 ∷ 41 ∷ 41 ∷ 41 ∷ 98 ∷ []) ≡ Some (98 ∷ [])
unfolding after_closing_paren comment_byte_kind
example_nested = refl

example_open : after_comment (40 ∷ 40 ∷ 92 ∷ 41 ∷ 41 ∷ []) ≡ None
unfolding after_closing_paren comment_byte_kind
example_open = refl

-- pieces leave the depth as it is
pub closing_rest-inside : (d : ℕ) (rest : List ℕ) {xs : List ℕ} → IsCommentContent xs → after_closing_paren false (suc d) (xs ++ rest) ≡ after_closing_paren false (suc d) rest
closing_rest-inside d rest nothing = refl
closing_rest-inside d rest (byte {b = b} {bs = bs} n40 n41 n92 h) =
    closing_rest-ordinary d b (bs ++ rest) (comment_mark-other b n40 n41 n92) ∙ closing_rest-inside d rest h
closing_rest-inside d rest (quoted {b = b} {bs = bs} h) =
    closing_rest-backslash d 92 (b ∷ bs ++ rest) comment_mark-92 ∙ closing_rest-quoted d b (bs ++ rest) ∙ closing_rest-inside d rest h
closing_rest-inside d rest (comment {inner = i} {bs = bs} g h) =
    closing_rest-opening d 40 ((i ++ 41 ∷ bs) ++ rest) comment_mark-40
    ∙ ap (after_closing_paren false (suc (suc d))) (append_assoc i (41 ∷ bs) rest)
    ∙ closing_rest-inside (suc d) (41 ∷ bs ++ rest) g
    ∙ closing_rest-closing (suc d) 41 (bs ++ rest) comment_mark-41
    ∙ closing_rest-inside d rest h

-- what the grammar closes, the count closes there
pub closing_rest-at : {i : List ℕ} (rest : List ℕ) → IsCommentContent i → after_closing_paren false 1 (i ++ 41 ∷ rest) ≡ Some rest
closing_rest-at rest h = closing_rest-inside 0 (41 ∷ rest) h ∙ closing_rest-closing 0 41 rest comment_mark-41 ∙ closing_rest-done false rest

-- pieces and a closing parenthesis, d times and once more, and then the rest
abbrev Levels : ℕ → List ℕ → List ℕ → Type 0
Levels zero xs rest = (i : List ℕ) × IsCommentContent i × (xs ≡ i ++ 41 ∷ rest)
Levels (suc d) xs rest = (i : List ℕ) × (ys : List ℕ) × IsCommentContent i × (xs ≡ i ++ 41 ∷ ys) × Levels d ys rest

abbrev Waits : Bool → ℕ → List ℕ → List ℕ → Type 0
Waits false d xs rest = Levels d xs rest
Waits true d xs rest = (b : ℕ) × (bs : List ℕ) × (xs ≡ b ∷ bs) × Levels d bs rest

-- a piece in front
levels-front : (p : List ℕ) → ((i : List ℕ) → IsCommentContent i → IsCommentContent (p ++ i)) → (d : ℕ) (xs rest : List ℕ) → Levels d xs rest → Levels d (p ++ xs) rest
levels-front p grow zero xs rest (i, hi, e) = (p ++ i, grow i hi, ap (λ (l : List ℕ). p ++ l) e ∙ sym (append_assoc p i (41 ∷ rest)))
levels-front p grow (suc d) xs rest (i, ys, hi, e, l) = (p ++ i, ys, grow i hi, ap (λ (l : List ℕ). p ++ l) e ∙ sym (append_assoc p i (41 ∷ ys)), l)

grow-comment : (c : List ℕ) → IsCommentContent c → (i : List ℕ) → IsCommentContent i → IsCommentContent ((40 ∷ c ++ 41 ∷ []) ++ i)
grow-comment c hc i hi = let P : List ℕ → Type 0 = λ l. IsCommentContent (40 ∷ l) in subst P (sym (append_assoc c (41 ∷ []) i)) (comment hc hi)

levels-comment : (d : ℕ) (xs rest : List ℕ) → Levels (suc d) xs rest → Levels d (40 ∷ xs) rest
levels-comment d xs rest (c, ys, hc, e, l) =
    let P : List ℕ → Type 0 = λ zs. Levels d (40 ∷ zs) rest in
    subst P (append_assoc c (41 ∷ []) ys ∙ sym e) (levels-front (40 ∷ c ++ 41 ∷ []) (grow-comment c hc) d ys rest l)

-- what the count closes, the grammar closes there
levels_of : (xs : List ℕ) (q : Bool) (d : ℕ) (rest : List ℕ) → after_closing_paren q (suc d) xs ≡ Some rest → Waits q d xs rest
levels_of [] q d rest h = absurd (let e : None ≡ Some rest = sym (closing_rest-end q d) ∙ h in cc)
levels_of (b ∷ bs) true d rest h = (b, bs, refl, levels_of bs false d rest (sym (closing_rest-quoted d b bs) ∙ h))
levels_of (b ∷ bs) false d rest h = go (comment_byte_kind b) refl (mark_is b) d h (levels_of bs)
  where
    go : (m : CommentByteKind) → comment_byte_kind b ≡ m → MarkFacts b m → (d : ℕ) → after_closing_paren false (suc d) (b ∷ bs) ≡ Some rest
        → ((q : Bool) (d : ℕ) (rest : List ℕ) → after_closing_paren q (suc d) bs ≡ Some rest → Waits q d bs rest)
        → Levels d (b ∷ bs) rest
    go opening e f d h ih =
        let P : ℕ → Type 0 = λ x. Levels d (x ∷ bs) rest in
        subst P (sym f) (levels-comment d bs rest (ih false (suc d) rest (sym (closing_rest-opening d b bs e) ∙ h)))
    go closing e f zero h ih =
        let same : Some bs ≡ Some rest = sym (closing_rest-done false bs) ∙ sym (closing_rest-closing 0 b bs e) ∙ h in
        let eq : bs ≡ rest = cc in
        ([], nothing, cc)
    go closing e f (suc d) h ih =
        ([], bs, nothing, (cc), ih false d rest (sym (closing_rest-closing (suc d) b bs e) ∙ h))
    go escape e f d h ih =
        let w = ih true d rest (sym (closing_rest-backslash d b bs e) ∙ h) in
        let P : List ℕ → Type 0 = λ l. Levels d l rest in
        subst P (let k : 92 ∷ w.0 ∷ w.1 ≡ b ∷ bs = cc (sym f, w.2) in k) (levels-front (92 ∷ w.0 ∷ []) (λ i hi. quoted hi) d w.1 rest w.3)
    go ordinary e f d h ih =
        levels-front (b ∷ []) (λ i hi. byte f.0 f.1 f.2 hi) d bs rest (ih false d rest (sym (closing_rest-ordinary d b bs e) ∙ h))

pub inside_of : (xs rest : List ℕ) → after_closing_paren false 1 xs ≡ Some rest → (i : List ℕ) × IsCommentContent i × (xs ≡ i ++ 41 ∷ rest)
inside_of xs rest h = levels_of xs false 0 rest h

-- two levels are one and then one
pub closing_rest-two : (xs ys : List ℕ) → after_closing_paren false 1 xs ≡ Some ys → after_closing_paren false 2 xs ≡ after_closing_paren false 1 ys
closing_rest-two xs ys h =
    let w = inside_of xs ys h in
    ap (after_closing_paren false 2) w.2 ∙ closing_rest-inside 1 (41 ∷ ys) w.1 ∙ closing_rest-closing 1 41 ys comment_mark-41

pub closing_rest-two-none : (xs : List ℕ) → after_closing_paren false 1 xs ≡ None → after_closing_paren false 2 xs ≡ None
closing_rest-two-none xs h = go (after_closing_paren false 2 xs) refl
  where
    go : (o : Option (List ℕ)) → after_closing_paren false 2 xs ≡ o → o ≡ None
    go None e = refl
    go (Some r) e =
        let w = levels_of xs false 1 r e in
        let some : after_closing_paren false 1 xs ≡ Some w.1 = ap (after_closing_paren false 1) w.3 ∙ closing_rest-at w.1 w.2 in
        absurd (let bad : None ≡ Some w.1 = sym h ∙ some in cc)

-- a comment stands at the front exactly where the count says so, and with that rest
pub comment_counted : (text rest : List ℕ) → BeginsWithComment text rest → after_comment text ≡ Some rest
comment_counted text rest (c, (i, hi, ec), e) =
    let P : List ℕ → Type 0 = λ l. after_comment l ≡ Some rest in
    subst P (sym (e ∙ ap (λ (l : List ℕ). l ++ rest) ec ∙ ap (λ (l : List ℕ). 40 ∷ l) (append_assoc i (41 ∷ []) rest))) (closing_rest-at rest hi)

pub counted_comment : (text rest : List ℕ) → after_comment text ≡ Some rest → BeginsWithComment text rest
counted_comment [] rest h = absurd (let e : None ≡ Some rest = h in cc)
counted_comment (b ∷ bs) rest h = go (b == 40) refl h
  where
    go : (t : Bool) → (b == 40) ≡ t → (if t then after_closing_paren false 1 bs else None) ≡ Some rest → BeginsWithComment (b ∷ bs) rest
    go false e h = absurd (let k : None ≡ Some rest = h in cc)
    go true e h =
        let w = inside_of bs rest h in (
          40 ∷ w.0 ++ 41 ∷ [],
          (w.0, w.1, refl),
          let at : b ≡ 40 = is_it b 40 e in
              let long : 40 ∷ bs ≡ (40 ∷ w.0 ++ 41 ∷ []) ++ rest = ap (λ (l : List ℕ). 40 ∷ l) (w.2 ∙ sym (append_assoc w.0 (41 ∷ []) rest)) in
              ap (λ (x : ℕ). x ∷ bs) at ∙ long,
        )

-- one text begins with one comment at most
pub one_comment : (text r s : List ℕ) → BeginsWithComment text r → BeginsWithComment text s → r ≡ s
one_comment text r s h k = let e : Some r ≡ Some s = sym (comment_counted text r h) ∙ comment_counted text s k in cc
