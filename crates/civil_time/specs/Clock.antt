-- Times of day.
use Rattle.std.specs.Prelude.{ℕ, ◌+◌, ◌*◌, nat_le, min, ◌&&◌, if◌then◌else◌, ℤ, pos, unsigned_abs, Option, Some, None}
use Rattle.std.specs.Int.{int_rem_euclid}
use Rattle.civil_time.specs.Calendar.{seconds_of_a_day}

-- The seconds since 00:00:00 of hours to 23, minutes to 59 and seconds to 60, of which the last is read as 59.
abbrev pub seconds_since_midnight : (hour minute second : ℕ) → Option ℕ
seconds_since_midnight hour minute second =
    if nat_le hour 23 && (nat_le minute 59 && nat_le second 60) then Some (3600 * hour + 60 * minute + min second 59) else None

-- the seconds of an instant since its day began
abbrev pub second_of_day : ℤ → ℕ
second_of_day instant = unsigned_abs (int_rem_euclid instant (pos seconds_of_a_day))
