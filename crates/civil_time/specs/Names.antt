-- Names of months and of weekdays: of three letters, read in any case (RFC 5322 section 3.3).
use Rattle.std.specs.Prelude.{ℕ, ◌*◌, List, [], ◌∷◌, take, drop, Bool, Option, Some, None, if◌then◌else◌, codes, map}
use Rattle.std.specs.Char.{to_ascii_lowercase}
use Rattle.std.specs.List.{list_any}
use Rattle.std.specs.Str.{bytes_eq}

-- whether a text is this name, but for ASCII case
abbrev pub equals_ignoring_case : List ℕ → List ℕ → Bool
equals_ignoring_case text name = bytes_eq (map to_ascii_lowercase text) (map to_ascii_lowercase name)

-- the month of its name of three letters, in any case
unfoldable pub month_of_name : List ℕ → Option ℕ
month_of_name name =
    if equals_ignoring_case name (codes "jan") then Some 1
    else (if equals_ignoring_case name (codes "feb") then Some 2
    else (if equals_ignoring_case name (codes "mar") then Some 3
    else (if equals_ignoring_case name (codes "apr") then Some 4
    else (if equals_ignoring_case name (codes "may") then Some 5
    else (if equals_ignoring_case name (codes "jun") then Some 6
    else (if equals_ignoring_case name (codes "jul") then Some 7
    else (if equals_ignoring_case name (codes "aug") then Some 8
    else (if equals_ignoring_case name (codes "sep") then Some 9
    else (if equals_ignoring_case name (codes "oct") then Some 10
    else (if equals_ignoring_case name (codes "nov") then Some 11
    else (if equals_ignoring_case name (codes "dec") then Some 12 else None)))))))))))

abbrev pub lowercase_weekday_names : List (List ℕ)
lowercase_weekday_names = codes "mon" ∷ codes "tue" ∷ codes "wed" ∷ codes "thu" ∷ codes "fri" ∷ codes "sat" ∷ codes "sun" ∷ []

-- whether a text is the name of a weekday, in any case
unfoldable pub is_day_name : List ℕ → Bool
is_day_name name = list_any (equals_ignoring_case name) lowercase_weekday_names

-- the n-th of some names of three letters
abbrev pub name_at : ℕ → List ℕ → List ℕ
name_at n names = take 3 (drop (3 * n) names)

-- each `day-name` of RFC 5322 section 3.3, from Monday on, as it is written: three bytes each, nothing between them
abbrev pub weekday_names : List ℕ
weekday_names = codes "MonTueWedThuFriSatSun"

-- each `month` of RFC 5322 section 3.3, from January on, as it is written: three bytes each, nothing between them
abbrev pub month_names : List ℕ
month_names = codes "JanFebMarAprMayJunJulAugSepOctNovDec"
