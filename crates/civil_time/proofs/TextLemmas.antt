-- The texts of days, months and instants, as they are put together and as they are read.
use Rattle.std.proofs.Common.{◌≡◌, ℕ, ◌+◌, ◌-◌, ◌*◌, ◌/◌, ◌%◌, ◌<◌, ◌≤◌, nat_le, Bool, ◌&&◌, if◌then◌else◌, List, ◌∷◌, ◌++◌, take}
use Rattle.std.proofs.Common.{refl, sym, ap, ◌∙◌, arith, ℤ, pos, negsuc, ◌+ℤ◌, true, Option, Some, None}
use Rattle.std.proofs.lemmas.Bool.{le-leb, leb-true}
use Rattle.std.proofs.lemmas.Bool.Decides.{nat_tests}
use Rattle.std.proofs.lemmas.Int.{ints}
use Rattle.civil_time.specs.Calendar.{is_day, is_month, is_instant, month_days, checked_day_number, day_of_date, day_of_instant, day_of_text, month_of_text, month_of_parsed_parts, month_of_instant}
use Rattle.civil_time.specs.Clock.{second_of_day}
use Rattle.civil_time.specs.Dates.{date_of_days_since_1900, date_of_day, date_of_instant, days_since_1900}
use Rattle.civil_time.specs.Texts.{day_text, full_date_text, hour_minute_text, instant_text, instant_month_text, month_text}
use Rattle.civil_time.proofs.DateLemmas.{both, date_is, found_number, split_is}
use Rattle.civil_time.proofs.DayLemmas.{IsWithin, is_day-within}
use Rattle.civil_time.proofs.DigitLemmas.{two_read, four_read}
use Rattle.civil_time.proofs.MonthLemmas.{date_in_month, month_is}

-- the text of an instant begins with its month
pub begins_with_month : (z : ℤ) → take 7 (instant_text z) ≡ instant_month_text z
unfolding instant_text instant_month_text
begins_with_month z = refl

-- the text of a day, from its date
pub day_text_is : (r : List ℕ) (day : ℤ) (y m d y' : ℕ) → r ≡ full_date_text (record { year = y'; month = m; day = d })
    → date_of_days_since_1900 (days_since_1900 day) ≡ record { year = y; month = m; day = d } → y' ≡ y → r ≡ day_text day
day_text_is r day y m d y' is date year = rw (is, year, date) refl

-- the text of an instant, from its day, its date and the seconds in the day
pub text_is : (r : List ℕ) (z day : ℤ) (y m d s y' : ℕ) → r ≡ full_date_text (record { year = y'; month = m; day = d }) ++ 32 ∷ hour_minute_text s
    → day ≡ day_of_instant z → date_of_days_since_1900 (days_since_1900 day) ≡ record { year = y; month = m; day = d } → s ≡ second_of_day z
    → y' ≡ y → r ≡ instant_text z
unfolding instant_text
text_is r z day y m d s y' is e date seconds year = rw (is, year, seconds, ← e, date) refl

-- ---- read

numbers_are : (y m : ℕ) → 1900 ≤ y → y ≤ 9998 → 1 ≤ m → m ≤ 12 → month_of_parsed_parts (Some y) (Some m) ≡ Some (12 * y + (m - 1))
numbers_are y m first last low high = rw (le-leb 1900 y first, le-leb y 9998 last, le-leb 1 m low, le-leb m 12 high) refl

-- days since 1900, of a day
since_1900 : (day : ℤ) → IsWithin day → (pos (days_since_1900 day) ≡ day +ℤ pos 25567) × (693961 + days_since_1900 day < 3652060)
since_1900 (pos a) h = (refl, omega (arith, ints, h.1))
since_1900 (negsuc a) h = (omega (arith, ints, h.0), omega (arith, ints, h.0))

in_years : (a b : Bool) (o : Option ℤ) → a ≡ true → b ≡ true → (if a && b then o else None) ≡ o
in_years a b o p q = rw (p, q) refl

-- the date of a day is that day's
pub date_found : (day : ℤ) → is_day day ≡ true → day_of_date (pos (date_of_day day).year) (date_of_day day).month (date_of_day day).day ≡ Some day
date_found day h =
    let since = since_1900 day (is_day-within day h) in
    let n = days_since_1900 day in
    let date = date_of_day day in
    let found = date_is n since.1 in
    in_years (nat_le 1900 date.year) (nat_le date.year 9998) (checked_day_number date.year date.month date.day) (le-leb 1900 date.year found.first) (le-leb date.year 9998 found.last)
    ∙ found_number n day date found since.0

month_short : (y m : ℕ) → month_days y m ≤ 31
month_short y m = grind (arith, nat_tests)

-- the text of a day is read as that day
pub day_read : (day : ℤ) → is_day day ≡ true → day_of_text (day_text day) ≡ Some day
day_read day h =
    let since = since_1900 day (is_day-within day h) in
    let date = date_of_day day in
    let found = date_is (days_since_1900 day) since.1 in
    rw (
      four_read date.year (omega (arith, found.last)),
      two_read date.month (omega (arith, found.in_year)),
      two_read date.day (omega (arith, found.in_month, month_short date.year date.month)),
    ) (date_found day h)

-- the text of a month is read as that month
pub month_text_read : (month : ℕ) → is_month month ≡ true → month_of_text (month_text month) ≡ Some month
unfolding month_text
month_text_read month h =
    let range = both (nat_le 22_800 month) (nat_le month 119_987) h in
    let low : 22_800 ≤ month = leb-true 22_800 month range.0 in
    let high : month ≤ 119_987 = leb-true month 119_987 range.1 in
    let first : 1900 ≤ month / 12 = omega (arith, low) in
    let last : month / 12 ≤ 9998 = omega (arith, high) in
    let back : 12 * (month / 12) + (month % 12 + 1 - 1) ≡ month = omega arith in
    rw (four_read (month / 12) (omega (arith, last)), two_read (month % 12 + 1) (omega arith))
    (numbers_are (month / 12) (month % 12 + 1) first last (omega arith) (omega arith) ∙ ap (λ x. Some x) back)

-- the text of the month of an instant is read as that month
pub instant_month_read : (z : ℤ) → is_instant z ≡ true → month_of_text (instant_month_text z) ≡ Some (month_of_instant z)
unfolding instant_month_text
instant_month_read z h =
    let split = split_is z h in
    let day = day_of_instant z in
    let n = days_since_1900 day in
    let date = date_of_instant z in
    let found = date_is n split.high in
    let number = found_number n day date found split.low in
    let i : ℕ = 12 * date.year + (date.month - 1) in
    let lies = date_in_month date.year date.month date.day i day number refl in
    let small : i ≤ 119_987 = omega (arith, found.last, found.in_year) in
    let month : month_of_instant z ≡ i = month_is i day small lies in
    rw (four_read date.year (omega (arith, found.last)), two_read date.month (omega (arith, found.in_year)))
    (numbers_are date.year date.month found.first found.last found.some_month found.in_year ∙ ap (λ x. Some x) (sym month))
