-- A text has one list of identities: that of each of its divisions into pieces.
use Rattle.std.proofs.Common.{◌≡◌, ◌≢◌, ℕ, zero, suc, ◌+◌, ◌-◌, ◌≤◌, ◌<◌, Bool, true, false, ◌==◌, List, [], ◌∷◌, ◌++◌, length, refl, arith}
use Rattle.std.proofs.Common.{ap, ◌∙◌, sym, Option, Some, None, subst, drop, take, inl, inr, append_assoc, length-append}
use Rattle.std.proofs.Math.Seq.{drop-append_seam, take-append_seam}
use Rattle.mail_core.specs.Comments.{after_closing_paren}
use Rattle.mail_core.specs.Quotes.{after_closing_quote}
use Rattle.mail_core.specs.MsgIds.{MessageId, id_at}
use Rattle.mail_core.specs.Pieces.{Piece, Pieces, BeginsCommentQuoteOrId, IsPieceBefore, ids_in, text_of_piece}
use Rattle.mail_core.specs.Pieces.Piece.{comment, quoted_string, msg_id, single}
use Rattle.mail_core.specs.MsgIds.{next_piece_id_and_rest, add_identity, ids_of}
use Rattle.mail_core.proofs.CommentLemmas.{is_it, is_not, closing_rest-at, inside_of}
use Rattle.mail_core.proofs.QuoteLemmas.{quote_ends, quoted_of}
use Rattle.mail_core.proofs.MsgIdLemmas.{id_reads, id_sound, each_msg_id_has_one_reading}
use Rattle.mail_core.proofs.ScanLemmas.{piece-comment, piece-open, piece-quote, piece-no_quote, piece-id, piece-no_id, ids-cons, ids-skip, ids-end}

cut : (front rest : List ℕ) → drop (length (front ++ rest) - length rest) (front ++ rest) ≡ rest
cut front rest = ap (λ (n : ℕ). drop n (front ++ rest)) (let k : length (front ++ rest) - length rest ≡ length front = simp length-append (omega arith) in k) ∙ drop-append_seam front rest

piece_step : (b : ℕ) (front rest : List ℕ) (o : Option MessageId) → next_piece_id_and_rest b (front ++ rest) ≡ (o, rest) → ids_of (b ∷ front ++ rest) ≡ add_identity o (ids_of rest)
piece_step b front rest o h =
    ids-cons b (front ++ rest) rest o h
    ∙ ap (add_identity o) (ids-skip (front ++ rest) (length (front ++ rest) - length rest) ∙ ap ids_of (cut front rest))

-- a byte that stands alone
alone : (b : ℕ) (rest : List ℕ) → ¬ BeginsCommentQuoteOrId (b ∷ rest) → next_piece_id_and_rest b rest ≡ (None, rest)
alone b rest h = go (b == 40) refl (b == 34) refl
  where
    as_byte : (k : ℕ) → b ≡ k → next_piece_id_and_rest k rest ≡ (None, rest) → next_piece_id_and_rest b rest ≡ (None, rest)
    as_byte k e p = ap (λ (x : ℕ). next_piece_id_and_rest x rest) e ∙ p

    go : (s : Bool) → (b == 40) ≡ s → (t : Bool) → (b == 34) ≡ t → next_piece_id_and_rest b rest ≡ (None, rest)
    go true e t f = as_byte 40 (is_it b 40 e) (closes (after_closing_paren false 1 rest) refl)
      where
        closes : (o : Option (List ℕ)) → after_closing_paren false 1 rest ≡ o → next_piece_id_and_rest 40 rest ≡ (None, rest)
        closes None k = piece-open rest k
        closes (Some r) k =
            let w = inside_of rest r k in
            absurd (h (40 ∷ w.0 ++ 41 ∷ [], r, ap (λ (x : ℕ). x ∷ rest) (is_it b 40 e) ∙ ap (λ (l : List ℕ). 40 ∷ l) w.2 ∙ simp append_assoc, inl (w.0, w.1, refl)))
    go false e true f = as_byte 34 (is_it b 34 f) (ends (after_closing_quote false rest) refl)
      where
        ends : (o : Option (List ℕ)) → after_closing_quote false rest ≡ o → next_piece_id_and_rest 34 rest ≡ (None, rest)
        ends None k = piece-no_quote rest k
        ends (Some r) k =
            let w = quoted_of rest r k in
            absurd (h (34 ∷ w.0 ++ 34 ∷ [], r, ap (λ (x : ℕ). x ∷ rest) (is_it b 34 f) ∙ ap (λ (l : List ℕ). 34 ∷ l) w.3 ∙ simp append_assoc, inr (inl (w.1, (w.0, w.2, refl)))))
    go false e false f = reads (id_at (b ∷ rest)) refl
      where
        reads : (o : Option (MessageId × List ℕ)) → id_at (b ∷ rest) ≡ o → next_piece_id_and_rest b rest ≡ (None, rest)
        reads None k = piece-no_id b rest (is_not b 40 e) (is_not b 34 f) k
        reads (Some (id, r)) k = let w = id_sound (b ∷ rest) r id k in absurd (h (w.0, r, w.2, inr (inr (id, w.1))))

-- the identities of any division are those of the function
pub one_list : (ps : List Piece) (text : List ℕ) → Pieces text ps → ids_in ps ≡ ids_of text
one_list [] text h = sym (ap ids_of h ∙ ids-end 0)
one_list (comment c ∷ ps) text (rest, e, (inner, hi, ec), hp) =
    let whole : text ≡ 40 ∷ (inner ++ 41 ∷ []) ++ rest = e ∙ ap (λ (l : List ℕ). l ++ rest) ec in
    one_list ps rest hp
    ∙ sym (ap ids_of whole ∙ piece_step 40 (inner ++ 41 ∷ []) rest None (ap (next_piece_id_and_rest 40) (append_assoc inner (41 ∷ []) rest) ∙ piece-comment (inner ++ 41 ∷ rest) rest
    (closing_rest-at rest hi)))
one_list (quoted_string q ∷ ps) text (rest, e, (value, (inside, hq, eq)), hp) =
    let whole : text ≡ 34 ∷ (inside ++ 34 ∷ []) ++ rest = e ∙ ap (λ (l : List ℕ). l ++ rest) eq in
    one_list ps rest hp
    ∙ sym (ap ids_of whole ∙ piece_step 34 (inside ++ 34 ∷ []) rest None (ap (next_piece_id_and_rest 34) (append_assoc inside (34 ∷ []) rest) ∙ piece-quote (inside ++ 34 ∷ rest) rest
    (quote_ends rest hq)))
one_list (msg_id m id ∷ ps) text (rest, e, hm, hp) =
    let middle : List ℕ = hm.0 ++ 64 ∷ id.right ++ 62 ∷ [] in
    let whole : text ≡ 60 ∷ middle ++ rest = e ∙ ap (λ (l : List ℕ). l ++ rest) hm.3 in
    let read : id_at (60 ∷ (middle ++ rest)) ≡ Some (id, rest) = ap id_at (ap (λ (l : List ℕ). l ++ rest) (sym hm.3)) ∙ id_reads m rest id hm in
    ap (λ (l : List MessageId). id ∷ l) (one_list ps rest hp)
    ∙ sym (ap ids_of whole ∙ piece_step 60 middle rest (Some id) (piece-id (middle ++ rest) rest id read))
one_list (single b ∷ ps) text (rest, e, alone_here, hp) =
    one_list ps rest hp ∙ sym (ap ids_of e ∙ piece_step b [] rest None (alone b rest alone_here))

-- where something begins, the function leaves less than where nothing does
abbrev Takes : ℕ → List ℕ → Type 0
Takes b bs = (o : Option MessageId) × (rest : List ℕ) × (next_piece_id_and_rest b bs ≡ (o, rest)) × (length rest < length bs)

tail_of : List ℕ → List ℕ
tail_of [] = []
tail_of (b ∷ bs) = bs

head_of : List ℕ → ℕ
head_of [] = 0
head_of (b ∷ bs) = b

takes : (b k : ℕ) (bs front rest : List ℕ) (o : Option MessageId) → b ∷ bs ≡ k ∷ front ++ rest → 0 < length front → next_piece_id_and_rest k (front ++ rest) ≡ (o, rest) → Takes b bs
unfolding tail_of head_of
takes b k bs front rest o e some h =
    let at : b ≡ k = ap head_of e in
    let left : bs ≡ front ++ rest = ap tail_of e in
    let long : length bs ≡ length front + length rest = ap length left ∙ length-append front rest in
    (o, rest, ap (λ (x : ℕ). next_piece_id_and_rest x bs) at ∙ ap (next_piece_id_and_rest k) left ∙ h, omega (arith, long, some))

begins_takes : (b : ℕ) (bs : List ℕ) → BeginsCommentQuoteOrId (b ∷ bs) → Takes b bs
begins_takes b bs (front, rest, e, inl (inner, hi, ec)) =
    takes b 40 bs (inner ++ 41 ∷ []) rest None (e ∙ ap (λ (l : List ℕ). l ++ rest) ec) (simp length-append (omega arith))
    (ap (next_piece_id_and_rest 40) (append_assoc inner (41 ∷ []) rest) ∙ piece-comment (inner ++ 41 ∷ rest) rest (closing_rest-at rest hi))
begins_takes b bs (front, rest, e, inr (inl (value, (inside, hq, eq)))) =
    takes b 34 bs (inside ++ 34 ∷ []) rest None (e ∙ ap (λ (l : List ℕ). l ++ rest) eq) (simp length-append (omega arith))
    (ap (next_piece_id_and_rest 34) (append_assoc inside (34 ∷ []) rest) ∙ piece-quote (inside ++ 34 ∷ rest) rest (quote_ends rest hq))
begins_takes b bs (front, rest, e, inr (inr (id, hm))) =
    let middle : List ℕ = hm.0 ++ 64 ∷ id.right ++ 62 ∷ [] in
    let read : id_at (60 ∷ (middle ++ rest)) ≡ Some (id, rest) = ap id_at (ap (λ (l : List ℕ). l ++ rest) (sym hm.3)) ∙ id_reads front rest id hm in
    takes b 60 bs middle rest (Some id) (e ∙ ap (λ (l : List ℕ). l ++ rest) hm.3) (simp length-append (omega arith)) (piece-id (middle ++ rest) rest id read)

left_of : Option MessageId × List ℕ → List ℕ
left_of n = n.1

nothing_begins : (b : ℕ) (bs : List ℕ) → next_piece_id_and_rest b bs ≡ (None, bs) → ¬ BeginsCommentQuoteOrId (b ∷ bs)
unfolding left_of
nothing_begins b bs h begins =
    let w = begins_takes b bs begins in
    let same : length bs ≡ length w.1 = ap (λ (n : Option MessageId × List ℕ). length (left_of n)) (sym h ∙ w.2) in
    let less = w.3 in omega (arith, same, less)

-- the piece that begins a text
abbrev First : ℕ → List ℕ → Type 0
First b bs = (p : Piece) × (rest : List ℕ) × (b ∷ bs ≡ text_of_piece p ++ rest) × IsPieceBefore p rest × (length rest ≤ length bs)

first_piece : (b : ℕ) (bs : List ℕ) → First b bs
first_piece b bs = go (b == 40) refl (b == 34) refl
  where
    byte : next_piece_id_and_rest b bs ≡ (None, bs) → First b bs
    byte h = (single b, bs, refl, nothing_begins b bs h, omega arith)

    at : (k : ℕ) → b ≡ k → next_piece_id_and_rest k bs ≡ (None, bs) → next_piece_id_and_rest b bs ≡ (None, bs)
    at k e h = ap (λ (x : ℕ). next_piece_id_and_rest x bs) e ∙ h

    go : (s : Bool) → (b == 40) ≡ s → (t : Bool) → (b == 34) ≡ t → First b bs
    go true e t f = closes (after_closing_paren false 1 bs) refl
      where
        closes : (o : Option (List ℕ)) → after_closing_paren false 1 bs ≡ o → First b bs
        closes None k = byte (at 40 (is_it b 40 e) (piece-open bs k))
        closes (Some r) k =
            let w = inside_of bs r k in
            let long : length bs ≡ length w.0 + suc (length r) = ap length w.2 ∙ length-append w.0 (41 ∷ r) in
            (comment (40 ∷ w.0 ++ 41 ∷ []), r, ap (λ (x : ℕ). x ∷ bs) (is_it b 40 e) ∙ ap (λ (l : List ℕ). 40 ∷ l) w.2 ∙ simp append_assoc, (w.0, w.1, refl), omega (arith, long))
    go false e true f = ends (after_closing_quote false bs) refl
      where
        ends : (o : Option (List ℕ)) → after_closing_quote false bs ≡ o → First b bs
        ends None k = byte (at 34 (is_it b 34 f) (piece-no_quote bs k))
        ends (Some r) k =
            let w = quoted_of bs r k in
            let long : length bs ≡ length w.0 + suc (length r) = ap length w.3 ∙ length-append w.0 (34 ∷ r) in
            (quoted_string (34 ∷ w.0 ++ 34 ∷ []), r, ap (λ (x : ℕ). x ∷ bs) (is_it b 34 f) ∙ ap (λ (l : List ℕ). 34 ∷ l) w.3 ∙ simp append_assoc, (w.1, (w.0, w.2, refl)), omega (arith, long))
    go false e false f = reads (id_at (b ∷ bs)) refl
      where
        reads : (o : Option (MessageId × List ℕ)) → id_at (b ∷ bs) ≡ o → First b bs
        reads None k = byte (piece-no_id b bs (is_not b 40 e) (is_not b 34 f) k)
        reads (Some (id, r)) k =
            let w = id_sound (b ∷ bs) r id k in
            let size : suc (length bs) ≡ length w.0 + length r = ap length w.2 ∙ length-append w.0 r in
            let some : length w.0 ≡ suc (length (w.1.0 ++ 64 ∷ id.right ++ 62 ∷ [])) = ap length w.1.3 in
            (msg_id w.0 id, r, w.2, w.1, omega (arith, size, some))

-- each text has a division
divided_within : (n : ℕ) (text : List ℕ) → length text ≤ n → (ps : List Piece) × Pieces text ps
divided_within n [] h = ([], refl)
divided_within zero (b ∷ bs) h = absurd (let g : suc (length bs) ≤ 0 = h in omega (arith, g))
divided_within (suc n) (b ∷ bs) h =
    let f = first_piece b bs in
    let w = divided_within n f.1 (let g : suc (length bs) ≤ suc n = h in let k = f.4 in omega (arith, g, k)) in
    (f.0 ∷ w.0, (f.1, f.2, f.3, w.1))

pub each_text_has_a_division_or_a_preamble : (text : List ℕ) → (ps : List Piece) × Pieces text ps
each_text_has_a_division_or_a_preamble text = divided_within (length text) text (omega arith)

-- what a piece leaves is what the function leaves
identity_of : Piece → Option MessageId
identity_of (comment c) = None
identity_of (quoted_string q) = None
identity_of (msg_id m id) = Some id
identity_of (single b) = None

abbrev Leaves : Piece → List ℕ → Type 0
Leaves p rest = (b : ℕ) × (bs : List ℕ) × (text_of_piece p ++ rest ≡ b ∷ bs) × (o : Option MessageId) × (next_piece_id_and_rest b bs ≡ (o, rest))

leaves : (p : Piece) (rest : List ℕ) → IsPieceBefore p rest → Leaves p rest
leaves (comment c) rest (inner, hi, ec) =
    (40, inner ++ 41 ∷ rest, ap (λ (l : List ℕ). l ++ rest) ec ∙ simp append_assoc, None, piece-comment (inner ++ 41 ∷ rest) rest (closing_rest-at rest hi))
leaves (quoted_string q) rest (value, (inside, hq, eq)) =
    (34, inside ++ 34 ∷ rest, ap (λ (l : List ℕ). l ++ rest) eq ∙ simp append_assoc, None, piece-quote (inside ++ 34 ∷ rest) rest (quote_ends rest hq))
leaves (msg_id m id) rest hm =
    let middle : List ℕ = hm.0 ++ 64 ∷ id.right ++ 62 ∷ [] in
    let read : id_at (60 ∷ (middle ++ rest)) ≡ Some (id, rest) = ap id_at (ap (λ (l : List ℕ). l ++ rest) (sym hm.3)) ∙ id_reads m rest id hm in
    (60, middle ++ rest, ap (λ (l : List ℕ). l ++ rest) hm.3, Some id, piece-id (middle ++ rest) rest id read)
leaves (single b) rest h = (b, rest, refl, None, alone b rest h)

same_rest : (p q : Piece) (r s : List ℕ) → IsPieceBefore p r → IsPieceBefore q s → text_of_piece p ++ r ≡ text_of_piece q ++ s → r ≡ s
unfolding left_of tail_of head_of
same_rest p q r s hp hq e =
    let v = leaves p r hp in
    let w = leaves q s hq in
    let same : v.0 ∷ v.1 ≡ w.0 ∷ w.1 = sym v.2 ∙ e ∙ w.2 in
    let next : next_piece_id_and_rest v.0 v.1 ≡ next_piece_id_and_rest w.0 w.1 = ap (λ (l : List ℕ). next_piece_id_and_rest (head_of l) (tail_of l)) same in
    ap left_of (sym v.4 ∙ next ∙ w.4)

same_front : (a b r s : List ℕ) → r ≡ s → a ++ r ≡ b ++ s → a ≡ b
same_front a b r s e h =
    let la : length (a ++ r) ≡ length a + length r = length-append a r in
    let lb : length (b ++ s) ≡ length b + length s = length-append b s in
    let lh : length (a ++ r) ≡ length (b ++ s) = ap length h in
    let le : length r ≡ length s = ap length e in
    let size : length a ≡ length b = omega (arith, la, lb, lh, le) in
    sym (take-append_seam a r) ∙ ap (λ (l : List ℕ). take (length a) l) h ∙ ap (λ (n : ℕ). take n (b ++ s)) size ∙ take-append_seam b s

-- pieces of one text are one
heads_differ : (k j : ℕ) (xs ys : List ℕ) → k ≢ j → k ∷ xs ≡ j ∷ ys → ⊥
unfolding head_of
heads_differ k j xs ys n h = n (ap head_of h)

two_bytes : (k b : ℕ) (xs : List ℕ) → 0 < length xs → k ∷ xs ≡ b ∷ [] → ⊥
two_bytes k b xs some h = let l : suc (length xs) ≡ 1 = ap length h in omega (arith, some, l)

last_some : (xs : List ℕ) (b : ℕ) → 0 < length (xs ++ b ∷ [])
last_some xs b = simp length-append (omega arith)

same_piece : (p q : Piece) (r s : List ℕ) → IsPieceBefore p r → IsPieceBefore q s → r ≡ s → text_of_piece p ≡ text_of_piece q → p ≡ q
unfolding head_of
same_piece (comment c) (comment d) r s hp hq e h = ap comment h
same_piece (comment c) (quoted_string q) r s (i, hi, ec) (v, (k, hk, eq)) e h = absurd (heads_differ 40 34 _ _ (λ x. omega (arith, x)) (sym ec ∙ h ∙ eq))
same_piece (comment c) (msg_id m id) r s (i, hi, ec) hq e h = absurd (heads_differ 40 60 _ _ (λ x. omega (arith, x)) (sym ec ∙ h ∙ hq.3))
same_piece (comment c) (single b) r s (i, hi, ec) hq e h = absurd (two_bytes 40 b _ (last_some i 41) (sym ec ∙ h))
same_piece (quoted_string q) (comment d) r s (v, (k, hk, eq)) (i, hi, ec) e h = absurd (heads_differ 34 40 _ _ (λ x. omega (arith, x)) (sym eq ∙ h ∙ ec))
same_piece (quoted_string q) (quoted_string t) r s hp hq e h = ap quoted_string h
same_piece (quoted_string q) (msg_id m id) r s (v, (k, hk, eq)) hq e h = absurd (heads_differ 34 60 _ _ (λ x. omega (arith, x)) (sym eq ∙ h ∙ hq.3))
same_piece (quoted_string q) (single b) r s (v, (k, hk, eq)) hq e h = absurd (two_bytes 34 b _ (last_some k 34) (sym eq ∙ h))
same_piece (msg_id m id) (comment d) r s hp (i, hi, ec) e h = absurd (heads_differ 60 40 _ _ (λ x. omega (arith, x)) (sym hp.3 ∙ h ∙ ec))
same_piece (msg_id m id) (quoted_string q) r s hp (v, (k, hk, eq)) e h = absurd (heads_differ 60 34 _ _ (λ x. omega (arith, x)) (sym hp.3 ∙ h ∙ eq))
same_piece (msg_id m id) (msg_id n jd) r s hp hq e h =
    ap (λ (t : List ℕ). msg_id t id) h ∙ ap (msg_id n) (each_msg_id_has_one_reading m n id jd r s hp hq (ap (λ (l : List ℕ). l ++ r) h ∙ ap (λ (l : List ℕ). n ++ l) e))
same_piece (msg_id m id) (single b) r s hp hq e h = absurd (two_bytes 60 b _ (last_some (hp.0 ++ 64 ∷ id.right) 62) (sym hp.3 ∙ h))
same_piece (single b) (comment c) r s hq (i, hi, ec) e h = absurd (two_bytes 40 b _ (last_some i 41) (sym ec ∙ sym h))
same_piece (single b) (quoted_string q) r s hq (v, (k, hk, eq)) e h = absurd (two_bytes 34 b _ (last_some k 34) (sym eq ∙ sym h))
same_piece (single b) (msg_id m id) r s hq hp e h = absurd (two_bytes 60 b _ (last_some (hp.0 ++ 64 ∷ id.right) 62) (sym hp.3 ∙ sym h))
same_piece (single b) (single c) r s hp hq e h = ap (λ (l : List ℕ). single (head_of l)) h

-- each text has one division
pub each_text_has_at_most_one_division : (ps qs : List Piece) (text : List ℕ) → Pieces text ps → Pieces text qs → ps ≡ qs
each_text_has_at_most_one_division [] [] text h k = refl
each_text_has_at_most_one_division [] (q ∷ qs) text h (s, e, hq, k) =
    absurd (let w = leaves q s hq in let l : length (text_of_piece q ++ s) ≡ suc (length w.1) = ap length w.2 in let z : length (text_of_piece q ++ s) ≡ 0 = ap length (sym e ∙ h) in omega
    (arith, l, z))
each_text_has_at_most_one_division (p ∷ ps) [] text (r, e, hp, h) k =
    absurd (let w = leaves p r hp in let l : length (text_of_piece p ++ r) ≡ suc (length w.1) = ap length w.2 in let z : length (text_of_piece p ++ r) ≡ 0 = ap length (sym e ∙ k) in omega
    (arith, l, z))
each_text_has_at_most_one_division (p ∷ ps) (q ∷ qs) text (r, e, hp, h) (s, f, hq, k) =
    let whole : text_of_piece p ++ r ≡ text_of_piece q ++ s = sym e ∙ f in
    let rest : r ≡ s = same_rest p q r s hp hq whole in
    let piece : p ≡ q = same_piece p q r s hp hq rest (same_front (text_of_piece p) (text_of_piece q) r s rest whole) in
    let later : ps ≡ qs = each_text_has_at_most_one_division ps qs s (let P : List ℕ → Type 0 = λ l. Pieces l ps in subst P rest h) k in
    ap (λ (x : Piece). x ∷ ps) piece ∙ ap (λ (l : List Piece). q ∷ l) later
