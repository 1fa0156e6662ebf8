-- An mbox that comes in pieces: what the bytes so far say of every file that begins with them.
use Rattle.std.specs.Prelude.{◌≡◌, ◌<◌, ◌^◌, length, ℕ, ◌==◌, Bool, true, ◌&&◌, List, [], ◌∷◌, ◌++◌, if◌then◌else◌}
use Rattle.mail_core.specs.Bytes.{lf}
use Rattle.mail_core.specs.Lines.{lines}
use Rattle.mbox_core.specs.Division.{Item, is_blank_line, IsPreamble, FrontAndItems, front_and_items_of_lines}

-- the first list is a beginning of the second
abbrev pub IsBeginning : {A : Type 0} → List A → List A → Type 0
IsBeginning {A} a b = (rest : List A) × (b ≡ a ++ rest)

-- a byte, where something follows it
abbrev pub byte_before_nonempty : ℕ → List ℕ → List ℕ
byte_before_nonempty b [] = []
byte_before_nonempty b (c ∷ cs) = b ∷ c ∷ cs

-- the bytes up to the last LF, and that LF: the lines in them are the same whatever is still to come
unfoldable pub settled_bytes : List ℕ → List ℕ
settled_bytes [] = []
settled_bytes (b ∷ bs) = if b == lf then b ∷ settled_bytes bs else byte_before_nonempty b (settled_bytes bs)

abbrev pub all_blank : List (List ℕ) → Bool
all_blank [] = true
all_blank (l ∷ ls) = is_blank_line l && all_blank ls

-- the items, where what stands in front of them is blank
abbrev pub items_unless_preamble : FrontAndItems → List Item
items_unless_preamble s = if all_blank s.front then s.items else []

-- the items of a file; none where its first line that is not empty is no separator line
abbrev pub file_items : List ℕ → List Item
file_items bytes = items_unless_preamble (front_and_items_of_lines true (lines bytes))

unfoldable pub all_but_last : {A : Type 0} → List A → List A
all_but_last [] = []
all_but_last (x ∷ []) = []
all_but_last (x ∷ y ∷ ys) = x ∷ all_but_last (y ∷ ys)

-- the items that no continuation changes: those whose next separating line lies in the stream with its LF
abbrev pub settled_items : List ℕ → List Item
settled_items stream = all_but_last (file_items (settled_bytes stream))

-- the faulty line lies in the stream with its LF: every continuation has the fault, at this offset
abbrev pub IsSettledPreamble : List ℕ → ℕ → Type 0
IsSettledPreamble stream offset = IsPreamble (settled_bytes stream) offset

-- the number is the offset, where fewer than 2^64 bytes came
abbrev pub IsOffsetUnlessOverflow : List ℕ → ℕ → ℕ → Type 0
IsOffsetUnlessOverflow stream n offset = length stream < 2 ^ 64 → n ≡ offset
