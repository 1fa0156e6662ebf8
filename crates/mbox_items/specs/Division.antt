-- What an mbox is made of (RFC 4155).
use Rattle.std.specs.Prelude.{◌≡◌, ℕ, ◌==◌, Bool, true, false, ◌||◌, ◌⊎◌, List, [], ◌∷◌, ◌++◌, length, if◌then◌else◌, Option, Some, None}
use Rattle.std.specs.List.{concat, AllByRecursion}
use Rattle.mail_core.specs.Lines.{lines, content, ends_in}
use Rattle.mbox_items.specs.Separator.{Envelope, IsSeparator, separator_of}

-- a message as it stands in the file
pub record Item : Type 0 where
  pub envelope : Envelope
  pub text : List ℕ

-- a line that says nothing
abbrev pub is_blank_line : List ℕ → Bool
is_blank_line line = length (content line) == 0

abbrev pub IsBlankLine : List ℕ → Type 0
IsBlankLine line = content line ≡ []

-- a line that says some envelope
abbrev pub IsSeparatorLine : List ℕ → Type 0
IsSeparatorLine line = (e : Envelope) × IsSeparator (content line) e

-- no separator line follows an empty line
abbrev pub NoneSeparates : List (List ℕ) → Type 0
NoneSeparates [] = Unit {0}
NoneSeparates (l ∷ []) = Unit {0}
NoneSeparates (l ∷ m ∷ ls) = (IsBlankLine l → ¬ IsSeparatorLine m) × NoneSeparates (m ∷ ls)

-- the last of some lines is not empty
abbrev pub EndsUnblank : List (List ℕ) → Type 0
EndsUnblank [] = Unit {0}
EndsUnblank (l ∷ []) = ¬ IsBlankLine l
EndsUnblank (l ∷ m ∷ ls) = EndsUnblank (m ∷ ls)

-- The lines are, for each item, a separator line, the lines of its text, and one empty line.
-- For the last item that empty line is missing where the last line is not empty.
abbrev pub AreBlocks : List Item → List (List ℕ) → Type 0
AreBlocks [] ls = ls ≡ []
AreBlocks (i ∷ is) ls = (heading : List ℕ) × IsSeparator (content heading) i.envelope × NoneSeparates (lines i.text) × (
    ((is ≡ []) × (ls ≡ heading ∷ lines i.text) × EndsUnblank ls)
    ⊎ ((blank : List ℕ) × (rest : List (List ℕ)) × IsBlankLine blank × (ls ≡ heading ∷ lines i.text ++ blank ∷ rest) × AreBlocks is rest))

-- The division of some bytes into items: the lines are empty lines, and then those of the items.
abbrev pub DividesIntoItems : List ℕ → List Item → Type 0
DividesIntoItems bytes items = (blanks : List (List ℕ)) × (rest : List (List ℕ))
    × (lines bytes ≡ blanks ++ rest) × AllByRecursion IsBlankLine blanks × AreBlocks items rest

-- The first line that is not empty begins at this offset, and is no separator line.
pub record IsPreamble (bytes : List ℕ) (offset : ℕ) : Type 0 where
  pub blanks : List (List ℕ)
  pub line : List ℕ
  pub lines_after : List (List ℕ)
  pub are_lines : lines bytes ≡ blanks ++ line ∷ lines_after
  pub all_blank : AllByRecursion IsBlankLine blanks
  pub is_not_blank : ¬ IsBlankLine line
  pub is_no_separator : ¬ IsSeparatorLine line
  pub offset_is : offset ≡ length (concat blanks)

-- the text is empty or ends in LF
abbrev pub is_empty_or_ends_in_lf : List ℕ → Bool
is_empty_or_ends_in_lf text = length text == 0 || ends_in 10 text

-- the whole text of a message
abbrev pub whole : List ℕ → List ℕ
whole text = if is_empty_or_ends_in_lf text then text else text ++ 10 ∷ []

-- ---- the division, computed: a fold over the lines from the last to the first

-- the text of the lines after a separator line: an empty line at their end is left out
unfoldable pub item_text_of_lines : List (List ℕ) → List ℕ
item_text_of_lines [] = []
item_text_of_lines (l ∷ []) = if is_blank_line l then [] else l
item_text_of_lines (l ∷ m ∷ ls) = l ++ item_text_of_lines (m ∷ ls)

-- the lines before the first separating line, and the items from there on
pub record FrontAndItems : Type 0 where
  pub front : List (List ℕ)
  pub items : List Item

abbrev pub with_front_line : List ℕ → FrontAndItems → FrontAndItems
with_front_line l s = record { front = l ∷ s.front; items = s.items }

abbrev pub with_new_item : Envelope → FrontAndItems → FrontAndItems
with_new_item e s = record { front = []; items = record { envelope = e; text = item_text_of_lines s.front } ∷ s.items }

-- what a line does that may separate
abbrev pub with_item_or_line : Option Envelope → List ℕ → (Bool → FrontAndItems) → FrontAndItems
with_item_or_line None l go = with_front_line l (go (is_blank_line l))
with_item_or_line (Some e) l go = with_new_item e (go false)

-- `after_blank`: the lines follow an empty line, or are the first
unfoldable pub front_and_items_of_lines : Bool → List (List ℕ) → FrontAndItems
front_and_items_of_lines after_blank [] = record { front = []; items = [] }
front_and_items_of_lines after_blank (l ∷ ls) = with_item_or_line (if after_blank then separator_of (content l) else None) l (λ b. front_and_items_of_lines b ls)

-- the items of a file that begins with blank lines and a separator line, or has blank lines alone
abbrev pub items_of : List ℕ → List Item
items_of bytes = (front_and_items_of_lines true (lines bytes)).items

-- what follows a separator line of this envelope, or nothing where there was none
abbrev pub items_after_separator : Option Envelope → List ℕ → List Item
items_after_separator None bytes = []
items_after_separator (Some e) bytes = (with_new_item e (front_and_items_of_lines false (lines bytes))).items

-- the text before the first separating line
abbrev pub text_before_separator : List ℕ → List ℕ
text_before_separator bytes = item_text_of_lines (front_and_items_of_lines false (lines bytes)).front

-- the items from the first separating line on
abbrev pub items_from_separator : List ℕ → List Item
items_from_separator bytes = (front_and_items_of_lines false (lines bytes)).items
