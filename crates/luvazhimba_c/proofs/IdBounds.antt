-- How many ids a message names at most, and how long their texts are: each is a stretch of a field, and no two fields overlap.
use Rattle.std.proofs.Common.{◌≡◌, ℕ, suc, ◌+◌, ◌-◌, ◌*◌, ◌≤◌, Bool, true, false, cond, ◌==◌, ◌&&◌, List, [], ◌∷◌, ◌++◌, length, map, take, drop, refl, arith, ap, sym}
use Rattle.std.proofs.Common.{◌∙◌, subst, Option, Some, None, ◌⊎◌, inl, inr, option_map, length-append, flat_map, codes, nat_lt, ◌≢◌, get_or}
use Rattle.std.specs.List.{concat, cons_option, filter_map, find, prefix_len}
use Rattle.std.specs.Char.{to_ascii_lowercase}
use Rattle.std.proofs.lemmas.List.{length-drop, length-take, length-map}
use Rattle.std.proofs.lemmas.Grind.{flat_map-append}
use Rattle.std.proofs.lemmas.Slice.Eq.{bytes_eq-Decides}
use Rattle.mail_core.specs.Bytes.{lf, cr, colon}
use Rattle.mail_core.specs.Lines.{lines, content, is_empty_line, without_final_byte, ends_in}
use Rattle.mail_core.specs.Fields.{HeaderField, is_continuation_line, header_lines, onto_first_block, continued_blocks, header_blocks, field_in, field_after_name}
use Rattle.mail_core.specs.Fields.{is_field_name_byte, is_wsp, skip_wsp, fields_of, has_name, field_of, is_folding_line_end, unfolded}
use Rattle.mail_core.specs.Headers.{id_option_to_list, first_id_of_list, references_or_reply_id, or_empty, ids_in_field}
use Rattle.mail_core.specs.MsgIds.{MessageId, IsMsgId, OneOrMore, is_id_left_byte, is_id_right_byte, ids_of}
use Rattle.mail_core.specs.Pieces.{Piece, Pieces, ids_in}
use Rattle.mail_core.specs.Pieces.Piece.{comment, quoted_string, msg_id, single}
use Rattle.mail_core.specs.Quotes.{IsClosedQuote, IsQuotedContent}
use Rattle.mail_core.specs.Quotes.IsQuotedContent.{nothing, byte, pair}
use Rattle.mail_core.proofs.PieceLemmas.{each_text_has_a_division_or_a_preamble, one_list}
use Rattle.mbox_items.proofs.LineLemmas.{concat-lines}
use Rattle.luvazhimba_c.specs.Ids.{id_text, id_text_length, ids_of_message, id_texts, id_text_lengths}

-- so many ids with such texts stand in a stretch of this length
pub record FitIn (ids : List MessageId) (n : ℕ) : Type 0 where
  pub texts : length (flat_map id_text ids) + 2 * length ids ≤ n
  pub count : 5 * length ids ≤ n

-- ---- ids of one text

quoted_few : (inside value : List ℕ) → IsQuotedContent inside value → length value ≤ length inside
quoted_few inside value nothing = omega arith
quoted_few inside value (byte {bs = bs} {vs = vs} ne nq h) = let k = quoted_few bs vs h in omega (arith, k)
quoted_few inside value (pair {bs = bs} {vs = vs} h) = let k = quoted_few bs vs h in omega (arith, k)

one_or_more : (test : ℕ → Bool) (bs : List ℕ) → OneOrMore test bs → 1 ≤ length bs
one_or_more test [] h = absurd (h.0 refl)
one_or_more test (b ∷ bs) h = omega arith

long_id : (m : List ℕ) (id : MessageId) → IsMsgId m id → (length (id_text id) + 2 ≤ length m) × (5 ≤ length m)
long_id m id (local, side, right, e) = go side
  where
    text : length (id_text id) ≡ length id.left + length id.right + 1
    text = simp length-append (omega arith)

    whole : length m ≡ length local + length id.right + 3
    whole = ap length e ∙ simp length-append (omega arith)

    go : (IsClosedQuote local id.left ⊎ ((local ≡ id.left) × OneOrMore is_id_left_byte id.left)) → (length (id_text id) + 2 ≤ length m) × (5 ≤ length m)
    go (inl (inside, means, is)) =
        let few = quoted_few inside id.left means in
        let quotes : length local ≡ length inside + 2 = ap length is ∙ simp length-append (omega arith) in
        let t = text in
        let w = whole in
        (omega (arith, few, quotes, t, w), omega (arith, quotes, w))
    go (inr (is, some)) =
        let same : length local ≡ length id.left = ap length is in
        let l = one_or_more is_id_left_byte id.left some in
        let r = one_or_more is_id_right_byte id.right right in
        let t = text in
        let w = whole in
        (omega (arith, same, t, w), omega (arith, same, l, r, w))

pieces_fit : (ps : List Piece) (text : List ℕ) → Pieces text ps → FitIn (ids_in ps) (length text)
pieces_fit [] text e = record { texts = omega arith; count = omega arith }
pieces_fit (comment c ∷ ps) text (rest, e, is, h) =
    let long : length text ≡ length c + length rest = ap length e ∙ length-append c rest in
    let later = pieces_fit ps rest h in
    record { texts = omega (arith, long, later.texts); count = omega (arith, long, later.count) }
pieces_fit (quoted_string c ∷ ps) text (rest, e, is, h) =
    let long : length text ≡ length c + length rest = ap length e ∙ length-append c rest in
    let later = pieces_fit ps rest h in
    record { texts = omega (arith, long, later.texts); count = omega (arith, long, later.count) }
pieces_fit (single b ∷ ps) text (rest, e, is, h) =
    let long : length text ≡ suc (length rest) = ap length e in
    let later = pieces_fit ps rest h in
    record { texts = omega (arith, long, later.texts); count = omega (arith, long, later.count) }
pieces_fit (msg_id m id ∷ ps) text (rest, e, is, h) =
    let long : length text ≡ length m + length rest = ap length e ∙ length-append m rest in
    let later = pieces_fit ps rest h in
    let here = long_id m id is in
    let more : length (flat_map id_text (id ∷ ids_in ps)) ≡ length (id_text id) + length (flat_map id_text (ids_in ps)) = length-append (id_text id) (flat_map id_text (ids_in ps)) in
    record { texts = omega (arith, long, later.texts, here.0, more); count = omega (arith, long, later.count, here.1) }

ids_fit : (text : List ℕ) → FitIn (ids_of text) (length text)
ids_fit text =
    let d = each_text_has_a_division_or_a_preamble text in
    let F : List MessageId → Type 0 = λ ids. FitIn ids (length text) in
    subst F (one_list d.0 text d.1) (pieces_fit d.0 text d.1)

-- ---- ids of a field

weaker : (ids : List MessageId) (m n : ℕ) → m ≤ n → FitIn ids m → FitIn ids n
weaker ids m n h f = record { texts = let t = f.texts in omega (arith, h, t); count = let k = f.count in omega (arith, h, k) }

pub unfolded_few : (t : List ℕ) → length (unfolded t) ≤ length t
unfolding unfolded
unfolded_few [] = omega arith
unfolded_few (b ∷ bs) = go (is_folding_line_end (b ∷ bs)) (unfolded_few bs)
  where
    go : (f : Bool) → length (unfolded bs) ≤ length bs → length (cond f (unfolded bs) (b ∷ unfolded bs)) ≤ suc (length bs)
    go true h = omega (arith, h)
    go false h = omega (arith, h)

field_fits : (body : Option (List ℕ)) → FitIn (ids_in_field body) (length (or_empty body))
field_fits body = weaker (ids_in_field body) (length (unfolded (or_empty body))) (length (or_empty body)) (unfolded_few (or_empty body)) (ids_fit (unfolded (or_empty body)))

first_fits : (ids : List MessageId) (n : ℕ) → FitIn ids n → FitIn (id_option_to_list (first_id_of_list ids)) n
first_fits [] n f = f
first_fits (id ∷ ids) n f =
    let one : length (flat_map id_text (id ∷ [])) ≡ length (id_text id) = simp length-append (omega arith) in
    let all : length (flat_map id_text (id ∷ ids)) ≡ length (id_text id) + length (flat_map id_text ids) = length-append (id_text id) (flat_map id_text ids) in
    record { texts = let t = f.texts in omega (arith, one, all, t); count = let k = f.count in omega (arith, k) }

together : (xs ys : List MessageId) (m n : ℕ) → FitIn xs m → FitIn ys n → FitIn (xs ++ ys) (m + n)
together xs ys m n f g =
    let both : length (flat_map id_text (xs ++ ys)) ≡ length (flat_map id_text xs) + length (flat_map id_text ys) =
    ap length (flat_map-append id_text xs ys) ∙ length-append (flat_map id_text xs) (flat_map id_text ys) in
    let many : length (xs ++ ys) ≡ length xs + length ys = length-append xs ys in
    let t = f.texts in
    let u = g.texts in
    let k = f.count in
    let l = g.count in
    record { texts = omega (arith, both, many, t, u); count = omega (arith, many, k, l) }

-- ---- fields of a message

without_few : (b : ℕ) (text : List ℕ) → length (without_final_byte b text) ≤ length text
without_few b text = go (ends_in b text)
  where
    go : (t : Bool) → length (cond t (take (length text - 1) text) text) ≤ length text
    go true = let k = length-take (length text - 1) text in omega (arith, k)
    go false = omega arith

content_few : (line : List ℕ) → length (content line) ≤ length line
unfolding content
content_few line =
    let one = without_few lf line in
    let two = without_few cr (without_final_byte lf line) in
    omega (arith, one, two)

abbrev pub body_len : Option HeaderField → ℕ
body_len None = 0
body_len (Some f) = length f.body

field_from_few : (name rest : List ℕ) → body_len (field_after_name name rest) ≤ length rest
field_from_few name [] = omega arith
field_from_few name (b ∷ bs) = go (nat_lt 0 (length name) && (b == colon))
  where
    go : (t : Bool) → body_len (cond t (Some (record { name = name; body = bs })) None) ≤ suc (length bs)
    go true = omega arith
    go false = omega arith

field_in_few : (text : List ℕ) → body_len (field_in text) ≤ length text
field_in_few text =
    let n = prefix_len is_field_name_byte text in
    let behind = drop n text in
    let from = field_from_few (take n text) (skip_wsp behind) in
    let one : length behind ≡ length text - n = length-drop n text in
    let two : length (skip_wsp behind) ≡ length behind - prefix_len is_wsp behind = length-drop (prefix_len is_wsp behind) behind in
    omega (arith, from, one, two)

abbrev pub total : List HeaderField → ℕ
total [] = 0
total (f ∷ fs) = length f.body + total fs

total-cons : (o : Option HeaderField) (fs : List HeaderField) → total (cons_option o fs) ≡ body_len o + total fs
total-cons None fs = omega arith
total-cons (Some f) fs = omega arith

fields_few : (bs : List (List ℕ)) → total (filter_map (λ (block : List ℕ). field_in (content block)) bs) ≤ length (concat bs)
fields_few [] = omega arith
fields_few (b ∷ bs) =
    let here = total-cons (field_in (content b)) (filter_map (λ (block : List ℕ). field_in (content block)) bs) in
    let body = field_in_few (content b) in
    let line = content_few b in
    let later = fields_few bs in
    let all : length (concat (b ∷ bs)) ≡ length b + length (concat bs) = length-append b (concat bs) in
    omega (arith, here, body, line, later, all)

onto_first : (l : List ℕ) (bs : List (List ℕ)) → length (concat (onto_first_block l bs)) ≡ length l + length (concat bs)
onto_first l [] = simp length-append (omega arith)
onto_first l (b ∷ bs) = simp length-append (omega arith)

blocks_long : (ls : List (List ℕ)) → length (concat (continued_blocks ls)) ≡ length (concat ls)
blocks_long [] = refl
blocks_long (l ∷ []) = refl
blocks_long (l ∷ m ∷ ls) = go (is_continuation_line m) (blocks_long (m ∷ ls)) (onto_first l (continued_blocks (m ∷ ls))) (length-append l (concat (continued_blocks (m ∷ ls))))
    (length-append l (concat (m ∷ ls)))
  where
    go : (t : Bool) → length (concat (continued_blocks (m ∷ ls))) ≡ length (concat (m ∷ ls))
        → length (concat (onto_first_block l (continued_blocks (m ∷ ls)))) ≡ length l + length (concat (continued_blocks (m ∷ ls)))
        → length (l ++ concat (continued_blocks (m ∷ ls))) ≡ length l + length (concat (continued_blocks (m ∷ ls))) → length (l ++ concat (m ∷ ls)) ≡ length l + length (concat (m ∷ ls))
        → length (concat (cond t (onto_first_block l (continued_blocks (m ∷ ls))) (l ∷ continued_blocks (m ∷ ls)))) ≡ length (l ++ concat (m ∷ ls))
    go true later onto own all = omega (arith, later, onto, all)
    go false later onto own all = omega (arith, later, own, all)

header_few : (ls : List (List ℕ)) → length (concat (header_lines ls)) ≤ length (concat ls)
header_few [] = omega arith
header_few (l ∷ ls) = go (is_empty_line l) (header_few ls) (length-append l (concat (header_lines ls))) (length-append l (concat ls))
  where
    go : (t : Bool) → length (concat (header_lines ls)) ≤ length (concat ls) → length (l ++ concat (header_lines ls)) ≡ length l + length (concat (header_lines ls))
        → length (l ++ concat ls) ≡ length l + length (concat ls) → length (concat (cond t [] (l ∷ header_lines ls))) ≤ length (l ++ concat ls)
    go true later own all = omega arith
    go false later own all = omega (arith, later, own, all)

pub all_few : (text : List ℕ) → total (fields_of text) ≤ length text
unfolding fields_of header_blocks
all_few text =
    let fields = fields_few (continued_blocks (header_lines (lines text))) in
    let joined = blocks_long (header_lines (lines text)) in
    let front = header_few (lines text) in
    let whole : length (concat (lines text)) ≡ length text = ap length (concat-lines text) in
    omega (arith, fields, joined, front, whole)

-- ---- two fields of a message

one_few : (p : HeaderField → Bool) (fs : List HeaderField) → body_len (find p fs) ≤ total fs
one_few p [] = omega arith
one_few p (f ∷ fs) = go (p f) (one_few p fs)
  where
    go : (t : Bool) → body_len (find p fs) ≤ total fs → body_len (cond t (Some f) (find p fs)) ≤ length f.body + total fs
    go true h = omega arith
    go false h = omega (arith, h)

two_few : (p q : HeaderField → Bool) (fs : List HeaderField) → ((f : HeaderField) → p f ≡ true → q f ≡ true → ⊥) → body_len (find p fs) + body_len (find q fs) ≤ total fs
two_few p q [] h = omega arith
two_few p q (f ∷ fs) h = go (p f) refl (q f) refl (one_few p fs) (one_few q fs) (two_few p q fs h)
  where
    go : (s : Bool) → p f ≡ s → (t : Bool) → q f ≡ t → body_len (find p fs) ≤ total fs → body_len (find q fs) ≤ total fs → body_len (find p fs) + body_len (find q fs) ≤ total fs
        → body_len (cond s (Some f) (find p fs)) + body_len (cond t (Some f) (find q fs)) ≤ length f.body + total fs
    go true d true e a b c = absurd (h f d e)
    go true d false e a b c = omega (arith, b)
    go false d true e a b c = omega (arith, a)
    go false d false e a b c = omega (arith, c)

pub body_is : (o : Option HeaderField) → length (or_empty (option_map (λ (f : HeaderField). f.body) o)) ≡ body_len o
body_is None = refl
body_is (Some f) = refl

-- the first letters of two names are not the same
abbrev pub AreApart : List ℕ → List ℕ → Type 0
AreApart m n = get_or (map to_ascii_lowercase m) 0 0 ≢ get_or (map to_ascii_lowercase n) 0 0

-- no field has both of them
pub names_apart : (m n : List ℕ) → AreApart m n → (f : HeaderField) → has_name m f ≡ true → has_name n f ≡ true → ⊥
names_apart m n other f h k = other (ap (λ (l : List ℕ). get_or l 0 0) (sym (is m h) ∙ is n k))
  where
    is : (name : List ℕ) → has_name name f ≡ true → map to_ascii_lowercase f.name ≡ map to_ascii_lowercase name
    is name e = (bytes_eq-Decides (map to_ascii_lowercase f.name) (map to_ascii_lowercase name)).0 e

fields_apart : (text m n : List ℕ) → AreApart m n → length (or_empty (field_of text m)) + length (or_empty (field_of text n)) ≤ length text
fields_apart text m n other =
    let first : length (or_empty (field_of text m)) ≡ body_len (find (has_name m) (fields_of text)) = body_is (find (has_name m) (fields_of text)) in
    let second : length (or_empty (field_of text n)) ≡ body_len (find (has_name n) (fields_of text)) = body_is (find (has_name n) (fields_of text)) in
    let both = two_few (has_name m) (has_name n) (fields_of text) (names_apart m n other) in
    let all = all_few text in
    omega (arith, first, second, both, all)

-- ---- all ids of a message

-- of three fields, the second or the third gives the ids that a message refers to
pub of_fields : (own references reply : Option (List ℕ)) (ids : List MessageId) (n : ℕ) → ids_in_field references ≡ ids
    → length (or_empty own) + length (or_empty references) ≤ n → length (or_empty own) + length (or_empty reply) ≤ n
    → FitIn (id_option_to_list (first_id_of_list (ids_in_field own)) ++ references_or_reply_id ids (first_id_of_list (ids_in_field reply))) n
of_fields own references reply [] n e h k =
    weaker (id_option_to_list (first_id_of_list (ids_in_field own)) ++ id_option_to_list (first_id_of_list (ids_in_field reply))) (length (or_empty own) + length (or_empty reply)) n k
    (together (id_option_to_list (first_id_of_list (ids_in_field own))) (id_option_to_list (first_id_of_list (ids_in_field reply))) (length (or_empty own)) (length (or_empty reply))
    (first_fits (ids_in_field own) (length (or_empty own)) (field_fits own)) (first_fits (ids_in_field reply) (length (or_empty reply)) (field_fits reply)))
of_fields own references reply (id ∷ ids) n e h k =
    weaker (id_option_to_list (first_id_of_list (ids_in_field own)) ++ (id ∷ ids)) (length (or_empty own) + length (or_empty references)) n h
    (together (id_option_to_list (first_id_of_list (ids_in_field own))) (id ∷ ids) (length (or_empty own)) (length (or_empty references))
    (first_fits (ids_in_field own) (length (or_empty own)) (field_fits own))
    (let F : List MessageId → Type 0 = λ is. FitIn is (length (or_empty references)) in subst F e (field_fits references)))

ids_few : (message : List ℕ) → FitIn (ids_of_message message) (length message)
ids_few message =
    let own = field_of message (codes "message-id") in
    let references = field_of message (codes "references") in
    let reply = field_of message (codes "in-reply-to") in
    of_fields own references reply (ids_in_field references) (length message) refl
    (fields_apart message (codes "message-id") (codes "references") (omega arith)) (fields_apart message (codes "message-id") (codes "in-reply-to") (omega arith))

pub texts_few : (message : List ℕ) → length (id_texts message) ≤ length message
texts_few message = let fit = (ids_few message).texts in omega (arith, fit)

pub count_few : (message : List ℕ) → 5 * length (id_text_lengths message) ≤ length message
count_few message =
    let fit = (ids_few message).count in
    let many : length (id_text_lengths message) ≡ length (ids_of_message message) = length-map (ids_of_message message) id_text_length in
    omega (arith, fit, many)
