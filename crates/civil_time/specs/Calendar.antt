-- The civil calendar from the year 0 on, by its rules: which years are leap years, and how long each month is.
use Rattle.std.specs.Prelude.{ℕ, zero, suc, ◌+◌, ◌-◌, ◌*◌, ◌/◌, ◌%◌, ◌==◌, nat_le, Bool, not, ◌&&◌, ◌||◌, if◌then◌else◌, ℤ, pos, negsuc}
use Rattle.std.specs.Prelude.{neg_ℤ, ◌+ℤ◌, ◌-ℤ◌, int_le, int_lt, unsigned_abs, List, [], ◌∷◌, Option, Some, None}
use Rattle.std.specs.Int.{int_div_euclid, int_rem_euclid}
use Rattle.civil_time.specs.Bytes.{hyphen}
use Rattle.civil_time.specs.Digits.{two_digit_number, four_digit_number}

-- every fourth year, but of the centuries only every fourth
abbrev pub is_leap : ℕ → Bool
is_leap y = (y % 4 == 0) && (not (y % 100 == 0) || (y % 400 == 0))

abbrev pub year_days : ℕ → ℕ
year_days y = if is_leap y then 366 else 365

abbrev pub month_days : ℕ → ℕ → ℕ
month_days y m =
    if m == 2 then (if is_leap y then 29 else 28)
    else (if (m == 4) || (m == 6) || (m == 9) || (m == 11) then 30 else 31)

-- the days of the years below y
unfoldable pub days_before_year : ℕ → ℕ
days_before_year zero = 0
days_before_year (suc y) = days_before_year y + year_days y

-- the days of the first m months of the year y
unfoldable pub days_in_first_months : ℕ → ℕ → ℕ
days_in_first_months y zero = 0
days_in_first_months y (suc m) = days_in_first_months y m + month_days y (suc m)

-- the days before a date, from 1 January of the year 0
abbrev pub days_before_date : ℕ → ℕ → ℕ → ℕ
days_before_date y m d = days_before_year y + (days_in_first_months y (m - 1) + d - 1)

-- days since 1970-01-01
abbrev pub day_number : ℕ → ℕ → ℕ → ℤ
day_number y m d = pos (days_before_date y m d) -ℤ pos (days_before_date 1970 1 1)

-- the years of the archive's days, and the last year of all dates
abbrev pub first_year : ℕ
first_year = 1900

abbrev pub last_year : ℕ
last_year = 9998

abbrev pub last_four_digit_year : ℕ
last_four_digit_year = 9999

-- the date exists, in the years 0 to 9999
abbrev pub is_date : ℕ → ℕ → ℕ → Bool
is_date y m d =
    nat_le y last_four_digit_year && (nat_le 1 m && nat_le m 12) && (nat_le 1 d && nat_le d (month_days y m))

-- days from 1970-01-01 to a date in the years 0 to 9999; None where the calendar lacks it, as 30 February (RFC 3339 section 5.7)
abbrev pub checked_day_number : ℕ → ℕ → ℕ → Option ℤ
checked_day_number y m d = if is_date y m d then Some (day_number y m d) else None

-- The days of the archive: 1900-01-01 to 9998-12-31, as numbers of days since 1970-01-01.
abbrev pub first_day : ℤ
first_day = neg_ℤ (pos 25_567)

abbrev pub last_day : ℤ
last_day = pos 2_932_531

-- Profile: a day number (days since 1970-01-01) that the archive can hold, 1900-01-01 to 9998-12-31
abbrev pub is_day : ℤ → Bool
is_day z = int_le first_day z && int_le z last_day

-- the day of a date that the calendar has, in the years 1900 to 9998
abbrev pub day_of_date : ℤ → ℕ → ℕ → Option ℤ
day_of_date (pos y) m d = if nat_le first_year y && nat_le y last_year then checked_day_number y m d else None
day_of_date (negsuc y) m d = None

abbrev pub day_of_parsed_parts : Option ℕ → Option ℕ → Option ℕ → Option ℤ
day_of_parsed_parts (Some y) (Some m) (Some d) = day_of_date (pos y) m d
day_of_parsed_parts _ _ _ = None

-- the day that a text writes as `yyyy-mm-dd` (RFC 3339 section 5.6, `full-date`)
abbrev pub day_of_text : List ℕ → Option ℤ
day_of_text (a ∷ b ∷ c ∷ d ∷ dash ∷ e ∷ f ∷ dash' ∷ g ∷ h ∷ []) =
    if (dash == hyphen) && (dash' == hyphen) then day_of_parsed_parts (four_digit_number a b c d) (two_digit_number e f) (two_digit_number g h)
    else None
day_of_text _ = None

-- the day of the week, Monday 0 to Sunday 6: day 0, 1970-01-01, was a Thursday
abbrev pub weekday : ℤ → ℕ
weekday z = unsigned_abs (int_rem_euclid (z +ℤ pos 3) (pos 7))

-- The instants of the archive: seconds since 1970-01-01 00:00:00 UTC, from 1900-01-01 00:00:00 to 9998-12-31 23:59:59.
abbrev pub first_instant : ℤ
first_instant = neg_ℤ (pos 2_208_988_800)

abbrev pub last_instant : ℤ
last_instant = pos 253_370_764_799

-- Profile: an instant that the archive can hold, in seconds since 1970-01-01 00:00:00 UTC, of the years 1900 to 9998
abbrev pub is_instant : ℤ → Bool
is_instant z = int_le first_instant z && int_le z last_instant

-- the instant so many seconds from 1970-01-01 00:00:00 UTC; None outside the archive's years, 1900 to 9998 (Profile)
abbrev pub checked_instant : ℤ → Option ℤ
checked_instant z = if is_instant z then Some z else None

abbrev pub seconds_of_a_day : ℕ
seconds_of_a_day = 86_400

-- the day, in UTC, of an instant: whole days, rounded down
abbrev pub day_of_instant : ℤ → ℤ
day_of_instant z = int_div_euclid z (pos seconds_of_a_day)

-- The months of the archive, as numbers: year times 12 plus month minus 1, from January 1900 to December 9998.
abbrev pub first_month : ℕ
first_month = 22_800

abbrev pub last_month : ℕ
last_month = 119_987

-- Profile: a month number (year times 12 plus month minus 1) that the archive can hold, January 1900 to December 9998
abbrev pub is_month : ℕ → Bool
is_month i = nat_le first_month i && nat_le i last_month

-- the first day of a month
abbrev pub month_start : ℕ → ℤ
month_start i = day_number (i / 12) (i % 12 + 1) 1

-- a day lies in a month
abbrev pub is_in_month : ℕ → ℤ → Bool
is_in_month i z = int_le (month_start i) z && int_lt z (month_start (i + 1))

-- the last of the months up to i that has begun by a day
unfoldable pub last_begun : ℕ → ℤ → ℕ
last_begun zero z = 0
last_begun (suc i) z = if int_le (month_start (suc i)) z then suc i else last_begun i z

-- the month of a day and of an instant, in UTC
unfoldable pub month_of_day : ℤ → ℕ
month_of_day z = last_begun last_month z

-- the number of the month, year times 12 plus month minus 1, in which an instant of the archive lies, in UTC
abbrev pub month_of_instant : ℤ → ℕ
month_of_instant z = month_of_day (day_of_instant z)

abbrev pub month_of_parsed_parts : Option ℕ → Option ℕ → Option ℕ
month_of_parsed_parts (Some y) (Some m) =
    if (nat_le first_year y && nat_le y last_year) && (nat_le 1 m && nat_le m 12) then Some (12 * y + (m - 1)) else None
month_of_parsed_parts _ _ = None

-- the month that a text writes as `yyyy-mm`
abbrev pub month_of_text : List ℕ → Option ℕ
month_of_text (a ∷ b ∷ c ∷ d ∷ dash ∷ e ∷ f ∷ []) =
    if dash == hyphen then month_of_parsed_parts (four_digit_number a b c d) (two_digit_number e f) else None
month_of_text _ = None
