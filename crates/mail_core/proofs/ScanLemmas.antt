-- The scan, piece by piece, over places of the text.
use Rattle.std.proofs.Common.{◌≡◌, ◌≢◌, ℕ, zero, suc, ◌+◌, ◌-◌, ◌<◌, ◌≤◌, false, List, [], ◌∷◌, length, refl, arith, ap, ◌∙◌, sym}
use Rattle.std.proofs.Common.{Option, Some, None, ◌++◌, take, drop, get_or, length-append, length-drop, drop-drop}
use Rattle.mail_core.specs.Comments.{after_closing_paren}
use Rattle.mail_core.specs.Quotes.{after_closing_quote}
use Rattle.mail_core.specs.MsgIds.{MessageId, id_at}
use Rattle.mail_core.specs.MsgIds.{next_piece_id_and_rest, add_identity, ids_from, ids_of}
use Rattle.mail_core.specs.Headers.{first_id_of_list}
use Rattle.mail_core.proofs.CommentLemmas.{not_equal}
use Rattle.mail_core.proofs.CommentTable.{drop-at, drop-past}

pub ids-end : (k : ℕ) → ids_from k [] ≡ []
unfolding ids_from
ids-end zero = refl
ids-end (suc k) = refl

pub ids-skip : (xs : List ℕ) (k : ℕ) → ids_from k xs ≡ ids_of (drop k xs)
unfolding ids_from
ids-skip xs zero = refl
ids-skip [] (suc k) = refl
ids-skip (x ∷ xs) (suc k) = ids-skip xs k

pub ids-cons : (b : ℕ) (bs rest : List ℕ) (o : Option MessageId) → next_piece_id_and_rest b bs ≡ (o, rest) → ids_of (b ∷ bs) ≡ add_identity o (ids_from (length bs - length rest) bs)
unfolding ids_from
ids-cons b bs rest o h = ap (λ (n : Option MessageId × List ℕ). add_identity n.0 (ids_from (length bs - length n.1) bs)) h

drop_of_drop : (xs : List ℕ) (i j : ℕ) → drop j (drop i xs) ≡ drop (i + j) xs
drop_of_drop xs i j = drop-drop j i xs

-- one piece: the byte at i, and what it leaves begins at e
pub scan_step : (text : List ℕ) (i e b : ℕ) (o : Option MessageId) → i < e → e ≤ length text → get_or text i 0 ≡ b
    → next_piece_id_and_rest b (drop (i + 1) text) ≡ (o, drop e text) → ids_of (drop i text) ≡ add_identity o (ids_of (drop e text))
scan_step text i e b o lt le hb h =
    let under : i < length text = omega arith in
    let gap : length (drop (i + 1) text) - length (drop e text) ≡ e - (i + 1) = simp length-drop (omega arith) in
    ap ids_of (drop-at text i b under hb)
    ∙ ids-cons b (drop (i + 1) text) (drop e text) o h
    ∙ ap (add_identity o) (ap (λ (n : ℕ). ids_from n (drop (i + 1) text)) gap ∙ ids-skip (drop (i + 1) text) (e - (i + 1))
    ∙ ap ids_of (drop_of_drop text (i + 1) (e - (i + 1)) ∙ ap (λ (n : ℕ). drop n text) (let k : i + 1 + (e - (i + 1)) ≡ e = omega arith in k)))

pub piece-comment : (bs rest : List ℕ) → after_closing_paren false 1 bs ≡ Some rest → next_piece_id_and_rest 40 bs ≡ (None, rest)
unfolding next_piece_id_and_rest
piece-comment bs rest h = rw (h, next_piece_id_and_rest) refl

pub piece-open : (bs : List ℕ) → after_closing_paren false 1 bs ≡ None → next_piece_id_and_rest 40 bs ≡ (None, bs)
unfolding next_piece_id_and_rest
piece-open bs h = rw (h, next_piece_id_and_rest) refl

pub piece-quote : (bs rest : List ℕ) → after_closing_quote false bs ≡ Some rest → next_piece_id_and_rest 34 bs ≡ (None, rest)
unfolding next_piece_id_and_rest
piece-quote bs rest h = rw (h, next_piece_id_and_rest) refl

pub piece-no_quote : (bs : List ℕ) → after_closing_quote false bs ≡ None → next_piece_id_and_rest 34 bs ≡ (None, bs)
unfolding next_piece_id_and_rest
piece-no_quote bs h = rw (h, next_piece_id_and_rest) refl

pub piece-id : (bs rest : List ℕ) (id : MessageId) → id_at (60 ∷ bs) ≡ Some (id, rest) → next_piece_id_and_rest 60 bs ≡ (Some id, rest)
unfolding next_piece_id_and_rest
piece-id bs rest id h = rw (h, next_piece_id_and_rest) refl

pub piece-no_id : (b : ℕ) (bs : List ℕ) → b ≢ 40 → b ≢ 34 → id_at (b ∷ bs) ≡ None → next_piece_id_and_rest b bs ≡ (None, bs)
unfolding next_piece_id_and_rest
piece-no_id b bs p q h = rw (not_equal b 40 p, not_equal b 34 q, h, next_piece_id_and_rest) refl

pub no_id : (b : ℕ) (bs : List ℕ) → b ≢ 60 → id_at (b ∷ bs) ≡ None
unfolding id_at
no_id b [] h = refl
no_id b (c ∷ bs) h = rw (not_equal b 60 h, id_at) refl

pub scan_comment : (text : List ℕ) (i e : ℕ) → i < length text → get_or text i 0 ≡ 40 → i < e → e ≤ length text
    → after_closing_paren false 1 (drop (i + 1) text) ≡ Some (drop e text) → ids_of (drop i text) ≡ ids_of (drop e text)
scan_comment text i e lt h less le c = scan_step text i e 40 None less le h (piece-comment _ _ c)

pub scan_open : (text : List ℕ) (i : ℕ) → i < length text → get_or text i 0 ≡ 40
    → after_closing_paren false 1 (drop (i + 1) text) ≡ None → ids_of (drop i text) ≡ ids_of (drop (i + 1) text)
scan_open text i lt h c = scan_step text i (i + 1) 40 None (omega arith) (omega arith) h (piece-open _ c)

pub scan_quote : (text : List ℕ) (i e : ℕ) → i < length text → get_or text i 0 ≡ 34 → i < e → e ≤ length text
    → after_closing_quote false (drop (i + 1) text) ≡ Some (drop e text) → ids_of (drop i text) ≡ ids_of (drop e text)
scan_quote text i e lt h less le q = scan_step text i e 34 None less le h (piece-quote _ _ q)

pub scan_no_quote : (text : List ℕ) (i : ℕ) → i < length text → get_or text i 0 ≡ 34
    → after_closing_quote false (drop (i + 1) text) ≡ None → ids_of (drop i text) ≡ ids_of (drop (i + 1) text)
scan_no_quote text i lt h q = scan_step text i (i + 1) 34 None (omega arith) (omega arith) h (piece-no_quote _ q)

pub scan_id : (text : List ℕ) (i e : ℕ) (id : MessageId) → i < length text → get_or text i 0 ≡ 60 → i < e → e ≤ length text
    → id_at (drop i text) ≡ Some (id, drop e text) → ids_of (drop i text) ≡ id ∷ ids_of (drop e text)
scan_id text i e id lt h less le q =
    scan_step text i e 60 (Some id) less le h (piece-id _ _ id (ap id_at (sym (drop-at text i 60 lt h)) ∙ q))

pub scan_no_id : (text : List ℕ) (i : ℕ) → i < length text → get_or text i 0 ≡ 60
    → id_at (drop i text) ≡ None → ids_of (drop i text) ≡ ids_of (drop (i + 1) text)
scan_no_id text i lt h q =
    scan_step text i (i + 1) 60 None (omega arith) (omega arith) h (piece-no_id 60 _ (λ e. omega (arith, e)) (λ e. omega (arith, e)) (ap id_at (sym (drop-at text i 60 lt h)) ∙ q))

pub scan_other : (text : List ℕ) (i : ℕ) → i < length text → get_or text i 0 ≢ 40 → get_or text i 0 ≢ 34 → get_or text i 0 ≢ 60
    → ids_of (drop i text) ≡ ids_of (drop (i + 1) text)
scan_other text i lt p q r = scan_step text i (i + 1) (get_or text i 0) None (omega arith) (omega arith) refl (piece-no_id _ _ p q (no_id _ _ r))

pub ids-past : (text : List ℕ) (i : ℕ) → length text ≤ i → ids_of (drop i text) ≡ []
ids-past text i h = ap ids_of (drop-past text i h) ∙ ids-end 0

-- no text has more identities than bytes
pub ids-few : (k : ℕ) (text : List ℕ) → length (ids_from k text) ≤ length text
unfolding ids_from
ids-few k [] = omega (arith, ap length (ids-end k))
ids-few (suc k) (b ∷ bs) = let h = ids-few k bs in let g : length (ids_from k bs) ≤ suc (length bs) = omega (arith, h) in g
ids-few zero (b ∷ bs) = go (next_piece_id_and_rest b bs).0 (ids_from (length bs - length (next_piece_id_and_rest b bs).1) bs) (ids-few (length bs - length (next_piece_id_and_rest b bs).1) bs)
  where
    go : (o : Option MessageId) (ids : List MessageId) → length ids ≤ length bs → length (add_identity o ids) ≤ suc (length bs)
    go None ids h = omega (arith, h)
    go (Some id) ids h = let g : suc (length ids) ≤ suc (length bs) = omega (arith, h) in g

-- the one at 0 is the first
pub first_some : (ids items : List MessageId) (copy id : MessageId) → items ≡ take 1 ids → length items ≢ 0 → ((other : MessageId) → id ≡ get_or items 0 other) → copy ≡ id
    → Some copy ≡ first_id_of_list ids
first_some [] items copy id one len is same = absurd (len (ap length one))
first_some (first ∷ ids) items copy id one len is same = λ i. Some ((same ∙ is id ∙ ap (λ (l : List MessageId). get_or l 0 id) one) i)
