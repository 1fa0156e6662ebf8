-- White space of a subject: RFC 5256, section 2.1, step (1). Tabs become spaces, and runs of spaces one space.
use Rattle.std.specs.Prelude.{ℕ, ◌==◌, Bool, false, ◌||◌, List, [], ◌∷◌, if◌then◌else◌}

abbrev pub is_space_or_tab : ℕ → Bool
is_space_or_tab b = (b == 9) || (b == 32)

abbrev pub begins_with_space_or_tab : List ℕ → Bool
begins_with_space_or_tab [] = false
begins_with_space_or_tab (b ∷ bs) = is_space_or_tab b

-- each run of tabs and spaces as one space: a byte of white space before another goes, and the last is a space
unfoldable pub with_single_spaces : List ℕ → List ℕ
with_single_spaces [] = []
with_single_spaces (b ∷ bs) = if is_space_or_tab b then (if begins_with_space_or_tab bs then with_single_spaces bs else 32 ∷ with_single_spaces bs) else b ∷ with_single_spaces bs
