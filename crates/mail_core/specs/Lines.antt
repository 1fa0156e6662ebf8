-- Lines: RFC 5322 section 2.1. Profile: an LF alone ends a line too.
use Rattle.std.specs.Prelude.{ℕ, ◌-◌, ◌==◌, Bool, List, [], ◌∷◌, length, take, slice_index, if◌then◌else◌}
use Rattle.mail_core.specs.Bytes.{lf, cr}

-- the byte put before the first line
abbrev pub onto_first_line : ℕ → List (List ℕ) → List (List ℕ)
onto_first_line b [] = (b ∷ []) ∷ []
onto_first_line b (l ∷ ls) = (b ∷ l) ∷ ls

-- the lines, first to last: each ends after an LF, or at the end of the text
unfoldable pub lines : List ℕ → List (List ℕ)
lines [] = []
lines (b ∷ bs) = if b == lf then (b ∷ []) ∷ lines bs else onto_first_line b (lines bs)

-- whether a text ends in this byte
abbrev pub ends_in : ℕ → List ℕ → Bool
ends_in b text = slice_index text (length text - 1) == b

-- the text without this byte at its end
abbrev pub without_final_byte : ℕ → List ℕ → List ℕ
without_final_byte b text = if ends_in b text then take (length text - 1) text else text

-- a line without its LF, and without a CR before that LF or before the end of the text
unfoldable pub content : List ℕ → List ℕ
content line = without_final_byte cr (without_final_byte lf line)

-- a line whose content is empty
unfoldable pub is_empty_line : List ℕ → Bool
is_empty_line line = length (content line) == 0
