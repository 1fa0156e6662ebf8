-- The date of a day: the calendar counted forward from 1900-01-01.
use Rattle.std.specs.Prelude.{ℕ, zero, suc, ◌+◌, ◌-◌, nat_lt, if◌then◌else◌, ℤ, pos, ◌+ℤ◌, unsigned_abs}
use Rattle.civil_time.specs.Calendar.{year_days, month_days, day_of_instant}

-- a date of the civil calendar
pub record Date : Type 0 where
  pub year : ℕ
  pub month : ℕ
  pub day : ℕ

-- The year, and the day in it from 0, that come `n` days after 1 January of the year `y`. At most `years` years go by.
unfoldable pub year_and_day_after : ℕ → ℕ → ℕ → ℕ × ℕ
year_and_day_after zero y n = (y, n)
year_and_day_after (suc years) y n = if nat_lt n (year_days y) then (y, n) else year_and_day_after years (suc y) (n - year_days y)

-- The month, and the day in it from 0, that come `n` days after the first of the month `m` of the year `y`.
unfoldable pub month_and_day_after : ℕ → ℕ → ℕ → ℕ → ℕ × ℕ
month_and_day_after zero y m n = (m, n)
month_and_day_after (suc months) y m n = if nat_lt n (month_days y m) then (m, n) else month_and_day_after months y (suc m) (n - month_days y m)

-- days from 1900-01-01 on
abbrev pub days_since_1900 : ℤ → ℕ
days_since_1900 day = unsigned_abs (day +ℤ pos 25567)

-- the date that comes so many days after 1900-01-01
unfoldable pub date_of_days_since_1900 : ℕ → Date
date_of_days_since_1900 n =
    let year = year_and_day_after 8098 1900 n in
    let month = month_and_day_after 11 year.0 1 year.1 in
    record { year = year.0; month = month.0; day = month.1 + 1 }

-- the date of a day, and of an instant
abbrev pub date_of_day : ℤ → Date
date_of_day day = date_of_days_since_1900 (days_since_1900 day)

abbrev pub date_of_instant : ℤ → Date
date_of_instant instant = date_of_day (day_of_instant instant)
