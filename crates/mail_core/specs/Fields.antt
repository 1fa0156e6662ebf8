-- Header fields: RFC 5322 sections 2.1 and 2.2. Profile: spaces and tabs may stand before the colon, as in section 4.5,
-- and a block of lines that does not begin as a field is no field.
use Rattle.std.specs.Prelude.{ℕ, ◌∷◌, List, [], ◌++◌, ◌==◌, ◌||◌, ◌&&◌, not, nat_le, nat_lt, if◌then◌else◌, Bool, false, Option, Some, None, length, take, drop, map, find, filter_map, option_map}
use Rattle.std.specs.List.{prefix_len}
use Rattle.std.specs.Char.{to_ascii_lowercase}
use Rattle.std.specs.Str.{bytes_eq}
use Rattle.mail_core.specs.Bytes.{tab, lf, cr, space, colon}
use Rattle.mail_core.specs.Lines.{lines, content, is_empty_line}

-- a field: its name, and its body as it stands, line ends and all
pub record HeaderField : Type 0 where
  pub name : List ℕ
  pub body : List ℕ

-- WSP of RFC 5234: space or tab
abbrev pub is_wsp : ℕ → Bool
is_wsp b = (b == space) || (b == tab)

-- a line that continues the one before it
abbrev pub is_continuation_line : List ℕ → Bool
is_continuation_line [] = false
is_continuation_line (b ∷ bs) = is_wsp b

-- the lines before the first empty one
abbrev pub header_lines : List (List ℕ) → List (List ℕ)
header_lines [] = []
header_lines (l ∷ ls) = if is_empty_line l then [] else l ∷ header_lines ls

-- A block is a line and the lines that continue it, joined. It begins at the first line, and at each line that
-- continues none.
abbrev pub onto_first_block : List ℕ → List (List ℕ) → List (List ℕ)
onto_first_block l [] = l ∷ []
onto_first_block l (b ∷ bs) = (l ++ b) ∷ bs

abbrev pub continued_blocks : List (List ℕ) → List (List ℕ)
continued_blocks [] = []
continued_blocks (l ∷ []) = l ∷ []
continued_blocks (l ∷ m ∷ ls) = if is_continuation_line m then onto_first_block l (continued_blocks (m ∷ ls)) else l ∷ continued_blocks (m ∷ ls)

-- a byte of a field's name (`ftext`): printable, and no colon
abbrev pub is_field_name_byte : ℕ → Bool
is_field_name_byte b = nat_le 33 b && nat_le b 126 && not (b == colon)

-- the text behind the spaces and tabs that begin it
abbrev pub skip_wsp : List ℕ → List ℕ
skip_wsp text = drop (prefix_len is_wsp text) text

-- a name of a byte or more, and what stands behind it: a colon and a body
abbrev pub field_after_name : List ℕ → List ℕ → Option HeaderField
field_after_name name [] = None
field_after_name name (b ∷ bs) = if nat_lt 0 (length name) && (b == colon) then Some (record { name = name; body = bs }) else None

-- a name, spaces and tabs, a colon, and then the body, up to the end of the last line's content
abbrev pub field_in : List ℕ → Option HeaderField
field_in text =
    let n = prefix_len is_field_name_byte text in field_after_name (take n text) (skip_wsp (drop n text))

-- the blocks of the header
unfoldable pub header_blocks : List ℕ → List (List ℕ)
header_blocks text = continued_blocks (header_lines (lines text))

-- The header fields of a message's text, from the top, bodies still folded (RFC 5322 section 2.2).
-- Profile: a block that is no field is passed over, and the fields behind it count.
unfoldable pub fields_of : List ℕ → List HeaderField
fields_of text = filter_map (λ block. field_in (content block)) (header_blocks text)

-- names are compared without ASCII case
abbrev pub has_name : List ℕ → HeaderField → Bool
has_name name field = bytes_eq (map to_ascii_lowercase field.name) (map to_ascii_lowercase name)

-- the body of the first field of that name
abbrev pub field_of : List ℕ → List ℕ → Option (List ℕ)
field_of text name = option_map (λ (f : HeaderField). f.body) (find (has_name name) (fields_of text))

-- Unfolding (section 2.2.3): an LF directly before space or tab is left out, and a CR directly before such an LF.
abbrev pub is_lf_before_wsp : List ℕ → Bool
is_lf_before_wsp [] = false
is_lf_before_wsp (b ∷ bs) = (b == lf) && is_continuation_line bs

abbrev pub is_folding_line_end : List ℕ → Bool
is_folding_line_end [] = false
is_folding_line_end (b ∷ bs) = is_lf_before_wsp (b ∷ bs) || ((b == cr) && is_lf_before_wsp bs)

-- a body in its unfolded form: the line ends that fold it go, and the space or tab behind each stays (RFC 5322 section 2.2.3)
unfoldable pub unfolded : List ℕ → List ℕ
unfolded [] = []
unfolded (b ∷ bs) = if is_folding_line_end (b ∷ bs) then unfolded bs else b ∷ unfolded bs
