-- Texts of the calendar, in UTC. (RFC 3339, section 5.6, for `full-date`; profile: a month as `yyyy-mm`, and after a date one
-- space and `hh:mm`)
use Rattle.std.specs.Prelude.{ℕ, ◌+◌, ◌/◌, ◌%◌, ℤ, List, ◌∷◌, ◌++◌}
use Rattle.civil_time.specs.Clock.{second_of_day}
use Rattle.civil_time.specs.Dates.{Date, date_of_day, date_of_instant}
use Rattle.civil_time.specs.Digits.{as_two_digits, as_four_digits}

-- `yyyy-mm`
abbrev pub year_month_text : (year month : ℕ) → List ℕ
year_month_text year month = as_four_digits year ++ 45 ∷ as_two_digits month

-- `yyyy-mm-dd`
abbrev pub full_date_text : Date → List ℕ
full_date_text date = year_month_text date.year date.month ++ 45 ∷ as_two_digits date.day

-- `yyyy-mm-dd`, of a day
abbrev pub day_text : ℤ → List ℕ
day_text day = full_date_text (date_of_day day)

-- `hh:mm`, of the seconds in a day
abbrev pub hour_minute_text : ℕ → List ℕ
hour_minute_text seconds = as_two_digits (seconds / 3600) ++ 58 ∷ as_two_digits (seconds / 60 % 60)

-- `yyyy-mm-dd hh:mm`, of an instant
unfoldable pub instant_text : ℤ → List ℕ
instant_text instant = full_date_text (date_of_instant instant) ++ 32 ∷ hour_minute_text (second_of_day instant)

-- `yyyy-mm`, of the month in which an instant lies
unfoldable pub instant_month_text : ℤ → List ℕ
instant_month_text instant = let date = date_of_instant instant in year_month_text date.year date.month

-- `yyyy-mm`, of a month that is numbered as year times 12 plus month minus 1
unfoldable pub month_text : ℕ → List ℕ
month_text month = year_month_text (month / 12) (month % 12 + 1)
