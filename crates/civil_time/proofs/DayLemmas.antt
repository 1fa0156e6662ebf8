-- Which day numbers the years 1900 to 9998 have, and which year a day number has.
use Rattle.std.proofs.Common.{◌≡◌, ℕ, ◌+◌, ◌<◌, ◌≤◌, Bool, true, false, ◌&&◌, nat_le, ℤ, pos, negsuc, neg_ℤ, ◌≤ℤ◌, refl, arith, ap, ◌∙◌, sym, Option, Some, None, if◌then◌else◌}
use Rattle.std.proofs.lemmas.Bool.{le-leb, leb-true}
use Rattle.std.proofs.lemmas.Int.{by_lt_z, ints}
use Rattle.jiff_core.specs.Calendar.{day_count, days_from_civil, IsYear, IsCivilDate}
use Rattle.jiff_core.proofs.SignedLemmas.{signed_arith}
use Rattle.jiff_core.proofs.CalendarLemmas.{days_from_civil-day_count, day_count-day_of_year, day_count-later_year, day_count-lt_year}
use Rattle.jiff_core.proofs.MarchLemmas.{day_count-early}
use Rattle.civil_time.specs.Calendar.{month_days, is_date, day_number, checked_day_number, is_day, day_of_date}
use Rattle.civil_time.proofs.CalendarLemmas.{numbers, found}

year_1899 : day_count (pos 1899) 1 1 ≡ 4_346_021
year_1899 = day_count-early (pos 1899) 11898 1 1 refl (omega arith) (omega arith) (omega arith)

year_1900 : day_count (pos 1900) 1 1 ≡ 4_346_386
year_1900 = day_count-early (pos 1900) 11899 1 1 refl (omega arith) (omega arith) (omega arith)

year_9998 : day_count (pos 9998) 1 1 ≡ 7_304_120
year_9998 = day_count-early (pos 9998) 19997 1 1 refl (omega arith) (omega arith) (omega arith)

year_9999 : day_count (pos 9999) 1 1 ≡ 7_304_485
year_9999 = day_count-early (pos 9999) 19998 1 1 refl (omega arith) (omega arith) (omega arith)

-- a day number lies in the range
abbrev pub IsWithin : ℤ → Type 0
IsWithin z = (neg_ℤ (pos 25_567) ≤ℤ z) × (z ≤ℤ pos 2_932_531)

number_in : (y : ℤ) (m d : ℕ) → IsCivilDate y m d → pos 1900 ≤ℤ y → y ≤ℤ pos 9998 → IsWithin (days_from_civil y m d)
number_in y m d h low high =
    let first : day_count (pos 1899) 1 1 + 365 ≤ day_count y 1 1 = day_count-later_year (pos 1899) y (omega (arith, signed_arith)) (omega (arith, signed_arith)) in
    let last : day_count y m d < day_count (pos 9999) 1 1 = day_count-lt_year y m d (pos 9999) 1 1 h (omega arith) (omega (arith, signed_arith)) in
    let from_first = day_count-day_of_year y m d h.2.0 in
    let shift = days_from_civil-day_count y m d in (
      omega (arith, signed_arith, first, from_first, shift, year_1899, h.2.0),
      omega (arith, signed_arith, last, shift, year_9999),
    )

pub year_in : (y : ℤ) (m d : ℕ) → IsCivilDate y m d → IsWithin (days_from_civil y m d) → (pos 1900 ≤ℤ y) × (y ≤ℤ pos 9998)
year_in y m d h within =
    let shift = days_from_civil-day_count y m d in (
      by_lt_z y (pos 1900) (λ lt. absurd (omega (arith, signed_arith, day_count-lt_year y m d (pos 1900) 1 1 h (omega arith) lt, shift, year_1900, within.0))) (λ le. le),
      by_lt_z (pos 9998) y (λ lt. absurd (let later : day_count (pos 9998) 1 1 + 365 ≤ day_count y 1 1 = day_count-later_year (pos 9998) y (omega (arith, signed_arith)) lt in
          omega (arith, signed_arith, later, day_count-day_of_year y m d h.2.0, shift, year_9998, within.1))) (λ le. le),
    )

pub is_day-within : (z : ℤ) → is_day z ≡ true → IsWithin z
is_day-within z h = (grind (arith, ints), grind (arith, ints))

pub within-is_day : (z : ℤ) → IsWithin z → is_day z ≡ true
within-is_day z h = grind (arith, ints)

both : (a b : Bool) → (a && b) ≡ true → (a ≡ true) × (b ≡ true)
both true b h = (refl, h)
both false b h = (cc, cc)

-- an option that is there has its condition, and its value
pub was_there : (b : Bool) (n v : ℤ) → Some n ≡ (if b then Some v else None) → (b ≡ true) × (n ≡ v)
was_there true n v h = (refl, cc)
was_there false n v h = (cc, cc)

pub date_is_civil : (y m d : ℕ) → is_date y m d ≡ true → IsCivilDate (pos y) m d
date_is_civil y m d h =
    let year = both _ _ (both _ _ h).0 in
    let month = both _ _ year.1 in
    let day = both _ _ (both _ _ h).1 in
    let high : y ≤ 9999 = leb-true y 9999 year.0 in
    let years : IsYear (pos y) = (omega (arith, signed_arith, high), omega (arith, signed_arith, high)) in (
      years,
      (leb-true 1 m month.0, leb-true m 12 month.1),
      (leb-true 1 d day.0, leb-true d (month_days y m) day.1),
    )

-- the number of a date of these years is a day
pub number_is_day : (y m d : ℕ) (n : ℤ) → Some n ≡ checked_day_number y m d → 1900 ≤ y → y ≤ 9998 → is_day n ≡ true
number_is_day y m d n e low high =
    let h = was_there (is_date y m d) n (day_number y m d) e in
    let civil = date_is_civil y m d h.0 in
    let within = number_in (pos y) m d civil (omega (arith, signed_arith)) (omega (arith, signed_arith)) in
    let same : n ≡ days_from_civil (pos y) m d = h.1 ∙ sym (numbers y m d civil.2.0) in
    rw same (within-is_day _ within)

both_low : (a b : Bool) (o : Option ℤ) → a ≡ true → b ≡ true → (if a && b then o else None) ≡ o
both_low a b o p q = rw (p, q) refl

-- the date that has a day's number is that day's date
pub date_of_day : (year : ℤ) (m d : ℕ) (z : ℤ) → IsCivilDate year m d → days_from_civil year m d ≡ z → is_day z ≡ true
    → day_of_date year m d ≡ Some z
date_of_day (pos y) m d z h e is =
    let year = year_in (pos y) m d h (rw e (is_day-within z is)) in
    let low : 1900 ≤ y = omega (arith, signed_arith, year.0) in
    let high : y ≤ 9998 = omega (arith, signed_arith, year.1) in
    let same : day_number y m d ≡ z = sym (numbers y m d h.2.0) ∙ e in
    both_low (nat_le 1900 y) (nat_le y 9998) (checked_day_number y m d) (le-leb 1900 y low) (le-leb y 9998 high)
    ∙ sym (found y m d (omega arith) h.1.0 h.1.1 h.2.0 h.2.1) ∙ ap (λ n. Some n) same
date_of_day (negsuc y) m d z h e is =
    let year = year_in (negsuc y) m d h (rw e (is_day-within z is)) in
    absurd (omega (arith, signed_arith, year.0))
