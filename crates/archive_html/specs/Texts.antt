-- Texts as a page shows them. (HTML, section 13.1.4, for the references; profile: a page is ASCII, and any other byte is shown
-- as `?`)
use Rattle.std.specs.Prelude.{ℕ, ◌==◌, nat_lt, Bool, not, ◌&&◌, ◌||◌, if◌then◌else◌, List, [], ◌∷◌, flat_map, codes}

-- a byte as it is shown: `?` for one outside 32 to 126, a reference for `&`, `<`, `>` and `"`, any other as it is
abbrev pub html_escaped_byte : ℕ → List ℕ
html_escaped_byte b =
    if nat_lt b 32 || nat_lt 126 b then codes "?"
    else if b == 38 then codes "&amp;"
    else if b == 60 then codes "&lt;"
    else if b == 62 then codes "&gt;"
    else if b == 34 then codes "&quot;"
    else b ∷ []

-- a byte that is shown as it is
abbrev pub is_shown_unchanged : ℕ → Bool
is_shown_unchanged b = not (nat_lt b 32 || nat_lt 126 b) && (not (b == 38) && (not (b == 60) && (not (b == 62) && not (b == 34))))

abbrev pub html_escaped_text : List ℕ → List ℕ
html_escaped_text text = flat_map html_escaped_byte text
