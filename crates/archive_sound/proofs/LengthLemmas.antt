-- How long what is filed of a message is: its key has 64 bytes, and its author key no more than its text.
use Rattle.std.proofs.Common.{◌≡◌, ◌≤◌, ◌+◌, ◌==◌, ℕ, List, [], ◌∷◌, filter_map, find, take, drop, length, Option, Some, None, true, false, cond, refl, ◌∙◌, arith, length-append}
use Rattle.std.proofs.Common.{length-drop, length-take}
use Rattle.std.specs.Prelude.{option_map, nat_lt, codes, ◌-◌, ◌&&◌, if◌then◌else◌}
use Rattle.std.specs.List.{AllByRecursion, prefix_len, cons_option}
use Rattle.std.specs.Option.{option_and_then}
use Rattle.std.specs.Char.{to_ascii_lowercase}
use Rattle.std.proofs.lemmas.List.{length-map}
use Rattle.sha2.proofs.Facts256.{length-sha256}
use Rattle.sha2.specs.Sha256.{sha256}
use Rattle.hex.specs.Hex.{lower_digits}
use Rattle.hex.proofs.HexLemmas.{length-encode_with}
use Rattle.mail_core.specs.Author.{after_last_byte, before_byte, text_in_angle_brackets, address_in, trim_end, trimmed, author_in, author_of_body, author_of}
use Rattle.mail_core.specs.Bytes.{cr, lf, colon, less_than, greater_than}
use Rattle.mail_core.specs.Fields.{HeaderField, header_lines, onto_first_block, continued_blocks, skip_wsp, field_after_name, field_in, header_blocks, fields_of, has_name, unfolded}
use Rattle.mail_core.specs.Fields.{is_folding_line_end, is_continuation_line, is_field_name_byte, is_wsp}
use Rattle.mail_core.specs.Lines.{lines, onto_first_line, ends_in, without_final_byte, content, is_empty_line}
use Rattle.archive_model.specs.Keys.{key_of}
use Rattle.archive_sound.proofs.ListLemmas.{found_all}

pub key_length : (text : List ℕ) → length (key_of text) ≡ 64
key_length text = let digest = length-sha256 text in length-encode_with lower_digits (sha256 text) ∙ omega (arith, digest)

-- ---- the lines of a text, and the blocks of its header

total : List (List ℕ) → ℕ
total [] = 0
total (l ∷ ls) = length l + total ls

onto_total : (b : ℕ) (ls : List (List ℕ)) → total (onto_first_line b ls) ≡ 1 + total ls
unfolding total
onto_total b [] = omega arith
onto_total b (l ∷ ls) = omega arith

lines_total : (text : List ℕ) → total (lines text) ≡ length text
unfolding total lines
lines_total [] = refl
lines_total (b ∷ bs) =
    let rest = lines_total bs in
    elim (b == lf) as (λ c. total (cond c ((b ∷ []) ∷ lines bs) (onto_first_line b (lines bs))) ≡ length (b ∷ bs))
    [ true ↦ omega (arith, rest) | false ↦ let more = onto_total b (lines bs) in omega (arith, rest, more) ]

header_total : (ls : List (List ℕ)) → total (header_lines ls) ≤ total ls
unfolding total
header_total [] = omega arith
header_total (l ∷ ls) =
    let rest = header_total ls in
    elim (is_empty_line l) as (λ c. total (cond c [] (l ∷ header_lines ls)) ≤ length l + total ls) [ true ↦ omega arith | false ↦ omega (arith, rest) ]

joined_total : (l : List ℕ) (bs : List (List ℕ)) → total (onto_first_block l bs) ≡ length l + total bs
unfolding total
joined_total l [] = refl
joined_total l (b ∷ bs) = let both = length-append l b in omega (arith, both)

blocks_total : (ls : List (List ℕ)) → total (continued_blocks ls) ≡ total ls
unfolding total
blocks_total [] = refl
blocks_total (l ∷ []) = refl
blocks_total (l ∷ m ∷ ls) =
    let rest = blocks_total (m ∷ ls) in
    elim (is_continuation_line m) as (λ c. total (cond c (onto_first_block l (continued_blocks (m ∷ ls))) (l ∷ continued_blocks (m ∷ ls))) ≡ length l + (length m + total ls))
    [ true ↦ let whole = joined_total l (continued_blocks (m ∷ ls)) in omega (arith, rest, whole) | false ↦ omega (arith, rest) ]

-- ---- the body of a field

dropped : (n : ℕ) (text : List ℕ) → length (drop n text) ≤ length text
dropped n text = let less = length-drop n text in omega (arith, less)

without_byte : (b : ℕ) (text : List ℕ) → length (without_final_byte b text) ≤ length text
without_byte b text =
    elim (ends_in b text) as (λ c. length (cond c (take (length text - 1) text) text) ≤ length text)
    [ true ↦ let less = length-take (length text - 1) text in omega (arith, less) | false ↦ omega arith ]

content_shorter : (line : List ℕ) → length (content line) ≤ length line
unfolding content
content_shorter line = let first = without_byte lf line in let second = without_byte cr (without_final_byte lf line) in omega (arith, first, second)

abbrev IsBodyWithin : ℕ → HeaderField → Type 0
IsBodyWithin n f = length f.body ≤ n

abbrev IfField : ℕ → Option HeaderField → Type 0
IfField n None = Unit {0}
IfField n (Some f) = IsBodyWithin n f

after_name : (n : ℕ) (name rest : List ℕ) → length rest ≤ n → IfField n (field_after_name name rest)
after_name n name [] small = tt
after_name n name (b ∷ bs) small =
    elim (nat_lt 0 (length name) && (b == colon)) as (λ c. IfField n (cond c (Some (record { name = name; body = bs })) None)) [ true ↦ omega (arith, small) | false ↦ tt ]

field_within : (n : ℕ) (text : List ℕ) → length text ≤ n → IfField n (field_in text)
field_within n text small =
    let name = prefix_len is_field_name_byte text in
    let first = dropped name text in
    let second = dropped (prefix_len is_wsp (drop name text)) (drop name text) in
    after_name n (take name text) (skip_wsp (drop name text)) (omega (arith, small, first, second))

fields_within : (n : ℕ) (blocks : List (List ℕ)) → total blocks ≤ n → AllByRecursion (IsBodyWithin n) (filter_map (λ block. field_in (content block)) blocks)
unfolding total
fields_within n [] small = tt
fields_within n (block ∷ blocks) small =
    let short = content_shorter block in
    by_field (field_in (content block)) (field_within n (content block) (omega (arith, small, short))) (fields_within n blocks (omega (arith, small)))
  where
    by_field : (f : Option HeaderField) → IfField n f → AllByRecursion (IsBodyWithin n) (filter_map (λ block. field_in (content block)) blocks)
        → AllByRecursion (IsBodyWithin n) (cons_option f (filter_map (λ block. field_in (content block)) blocks))
    by_field None here rest = rest
    by_field (Some f) here rest = (here, rest)

text_fields : (text : List ℕ) → AllByRecursion (IsBodyWithin (length text)) (fields_of text)
unfolding fields_of header_blocks
text_fields text =
    let whole = lines_total text in
    let top = header_total (lines text) in
    let blocks = blocks_total (header_lines (lines text)) in
    fields_within (length text) (continued_blocks (header_lines (lines text))) (omega (arith, whole, top, blocks))

-- ---- the author key

unfolded_shorter : (text : List ℕ) → length (unfolded text) ≤ length text
unfolding unfolded
unfolded_shorter [] = omega arith
unfolded_shorter (b ∷ bs) =
    let rest = unfolded_shorter bs in
    elim (is_folding_line_end (b ∷ bs)) as (λ c. length (cond c (unfolded bs) (b ∷ unfolded bs)) ≤ length (b ∷ bs)) [ true ↦ omega (arith, rest) | false ↦ omega (arith, rest) ]

abbrev IfText : ℕ → Option (List ℕ) → Type 0
IfText n None = Unit {0}
IfText n (Some text) = length text ≤ n

after_last_shorter : (k : ℕ) (text : List ℕ) → IfText (length text) (after_last_byte k text)
after_last_shorter k [] = tt
after_last_shorter k (b ∷ bs) = by_rest (after_last_byte k bs) (after_last_shorter k bs)
  where
    by_rest : (o : Option (List ℕ)) → IfText (length bs) o → IfText (length (b ∷ bs)) (elim o [ Some rest ↦ Some rest | None ↦ if b == k then Some bs else None ])
    by_rest (Some rest) small = omega (arith, small)
    by_rest None small = elim (b == k) as (λ c. IfText (length (b ∷ bs)) (cond c (Some bs) None)) [ true ↦ omega arith | false ↦ tt ]

before_shorter : (k : ℕ) (text : List ℕ) → IfText (length text) (before_byte k text)
before_shorter k [] = tt
before_shorter k (b ∷ bs) =
    elim (b == k) as (λ c. IfText (length (b ∷ bs)) (cond c (Some []) (option_map (λ (front : List ℕ). b ∷ front) (before_byte k bs))))
    [ true ↦ omega arith | false ↦ by_rest (before_byte k bs) (before_shorter k bs) ]
  where
    by_rest : (o : Option (List ℕ)) → IfText (length bs) o → IfText (length (b ∷ bs)) (option_map (λ (front : List ℕ). b ∷ front) o)
    by_rest (Some rest) small = omega (arith, small)
    by_rest None small = tt

brackets_shorter : (text : List ℕ) → IfText (length text) (text_in_angle_brackets text)
brackets_shorter text = by_first (after_last_byte less_than text) (after_last_shorter less_than text)
  where
    weaker : (n m : ℕ) (o : Option (List ℕ)) → n ≤ m → IfText n o → IfText m o
    weaker n m None most small = tt
    weaker n m (Some rest) most small = omega (arith, most, small)

    by_first : (o : Option (List ℕ)) → IfText (length text) o → IfText (length text) (option_and_then (before_byte greater_than) o)
    by_first None small = tt
    by_first (Some rest) small = weaker (length rest) (length text) (before_byte greater_than rest) small (before_shorter greater_than rest)

address_shorter : (text : List ℕ) → length (address_in text) ≤ length text
address_shorter text = by_brackets (text_in_angle_brackets text) (brackets_shorter text)
  where
    by_brackets : (o : Option (List ℕ)) → IfText (length text) o → length {A = ℕ} (elim o [ Some address ↦ address | None ↦ text ]) ≤ length text
    by_brackets (Some address) small = small
    by_brackets None small = omega arith

trim_shorter : (text : List ℕ) → length (trim_end text) ≤ length text
trim_shorter [] = omega arith
trim_shorter (b ∷ bs) = by_rest (trim_end bs) (trim_shorter bs)
  where
    by_rest : (t : List ℕ) → length t ≤ length bs → length {A = ℕ} (elim t [ [] ↦ if is_wsp b then [] else b ∷ [] | c ∷ cs ↦ b ∷ c ∷ cs ]) ≤ length (b ∷ bs)
    by_rest [] small = elim (is_wsp b) as (λ c. length (cond c [] (b ∷ [])) ≤ length (b ∷ bs)) [ true ↦ omega arith | false ↦ omega arith ]
    by_rest (c ∷ cs) small = omega (arith, small)

in_shorter : (body : List ℕ) → length (author_in body) ≤ length body
in_shorter body =
    let address = address_in body in
    let first = address_shorter body in
    let second = dropped (prefix_len is_wsp address) address in
    let third = trim_shorter (skip_wsp address) in
    let same = length-map (trimmed address) to_ascii_lowercase in
    omega (arith, first, second, third, same)

pub author_shorter : (text : List ℕ) → length (author_of text) ≤ length text
author_shorter text = by_found (find (has_name (codes "from")) (fields_of text)) refl
  where
    by_found : (o : Option HeaderField) → find (has_name (codes "from")) (fields_of text) ≡ o → length (author_of_body (option_map (λ (f : HeaderField). f.body) o)) ≤ length text
    by_found None is = omega arith
    by_found (Some f) is =
        let body = found_all (has_name (codes "from")) (IsBodyWithin (length text)) (fields_of text) f (text_fields text) is in
        let open_body = unfolded_shorter f.body in
        let key = in_shorter (unfolded f.body) in
        omega (arith, body, open_body, key)
