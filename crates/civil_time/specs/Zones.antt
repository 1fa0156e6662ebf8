-- Zones: RFC 5322 sections 3.3 and 4.3. Seconds east of UTC.
use Rattle.std.specs.Prelude.{ℕ, ◌+◌, ◌*◌, ◌==◌, ◌||◌, ◌&&◌, nat_le, List, [], ◌∷◌, Bool, Option, Some, None, if◌then◌else◌, ℤ, pos, ◌-ℤ◌, codes, not, length}
use Rattle.std.specs.Char.{is_ascii_alphabetic}
use Rattle.std.specs.List.{list_all}
use Rattle.civil_time.specs.Bytes.{plus, hyphen}
use Rattle.civil_time.specs.Digits.{two_digit_number}
use Rattle.civil_time.specs.Names.{equals_ignoring_case}

-- seconds with this sign
abbrev pub signed_seconds : ℕ → ℕ → ℤ
signed_seconds sign n = if sign == plus then pos n else (pos 0 -ℤ pos n)

-- hours and minutes with this sign; of the minutes there are 59 at most
abbrev pub offset_of : ℕ → Option ℕ → Option ℕ → Option ℤ
offset_of sign (Some hours) (Some minutes) =
    if (sign == plus || sign == hyphen) && nat_le minutes 59 then Some (signed_seconds sign (3600 * hours + 60 * minutes)) else None
offset_of sign _ _ = None

-- `+hhmm` and `-hhmm`, as a sign and digits
abbrev pub signed_zone : ℕ → List ℕ → Option ℤ
signed_zone sign (a ∷ b ∷ c ∷ d ∷ []) = offset_of sign (two_digit_number a b) (two_digit_number c d)
signed_zone sign _ = None

-- hours west of UTC that a name stands for; UT, GMT and all names that are not listed are UTC
unfoldable pub hours_west : List ℕ → ℕ
hours_west name =
    if equals_ignoring_case name (codes "edt") then 4
    else (if equals_ignoring_case name (codes "est") then 5
    else (if equals_ignoring_case name (codes "cdt") then 5
    else (if equals_ignoring_case name (codes "cst") then 6
    else (if equals_ignoring_case name (codes "mdt") then 6
    else (if equals_ignoring_case name (codes "mst") then 7
    else (if equals_ignoring_case name (codes "pdt") then 7
    else (if equals_ignoring_case name (codes "pst") then 8 else 0)))))))

-- one ASCII letter or more
abbrev pub is_ascii_letters : List ℕ → Bool
is_ascii_letters text = not (length text == 0) && list_all is_ascii_alphabetic text

abbrev pub named_zone : List ℕ → Option ℤ
named_zone text = if is_ascii_letters text then Some (pos 0 -ℤ pos (3600 * hours_west text)) else None

abbrev pub number_zone : List ℕ → Option ℤ
number_zone [] = None
number_zone (sign ∷ ds) = signed_zone sign ds

-- a zone in seconds east of UTC: `+hhmm` or `-hhmm` (RFC 5322 section 3.3), or letters (section 4.3), which mean UTC
-- unless they name one of the eight North American zones; None for anything else
abbrev pub zone_of : List ℕ → Option ℤ
zone_of text = elim (number_zone text) [ Some z ↦ Some z | None ↦ named_zone text ]
