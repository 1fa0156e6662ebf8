use Rattle.std.proofs.Common.{◌≡◌, ℕ, ℤ, ◌+◌, ◌-◌, ◌*◌, ◌≤◌, ◌≤ℤ◌, pos, arith, w16, to_z, of_z, nat_abs, true, Some, refl, sym}
use Rattle.std.proofs.lemmas.Int.{ints}
use Rattle.civil_time.specs.Calendar.{checked_day_number, is_in_month}
use Rattle.civil_time.proofs.MonthLemmas.{date_number, date_in_month, month_is}
use Rattle.civil_time.proofs.months.Month.of_day.Goals as goal

-- the year, as it is cast
year_is : (y : ℤ) → pos 1900 ≤ℤ y → y ≤ℤ pos 9998 → (to_z w16 (of_z w16 y) ≡ y) × (nat_abs y ≤ 9998)
year_is y low high = (omega (arith, ints, low, high), omega (arith, ints, low, high))

lies : (y : ℤ) (m d : ℕ) (z : ℤ) → checked_day_number (nat_abs y) m d ≡ Some z → to_z w16 (of_z w16 y) ≡ y → is_in_month (12 * nat_abs (to_z w16 (of_z w16 y)) + (m - 1)) z ≡ true
lies y m d z h e = rw e (date_in_month (nat_abs y) m d (12 * nat_abs y + (m - 1)) z h refl)

pub returns-clause-within : goal.returns-clause-within
returns-clause-within c =
    let p = c.parts-year in
    let y : ℤ = p.result.0 in
    let year = year_is y p.ensures.year.0 p.ensures.year.1 in
    lies y p.result.1 p.result.2 c.args.day (date_number y p.result.1 p.result.2 c.args.day p.ensures.date) year.0

pub returns-clause-value : goal.returns-clause-value
returns-clause-value c =
    let p = c.parts-year in
    let y : ℤ = p.result.0 in
    let year = year_is y p.ensures.year.0 p.ensures.year.1 in
    let i : ℕ = 12 * nat_abs (to_z w16 (of_z w16 y)) + (p.result.1 - 1) in
    let small : i ≤ 119_987 = rw year.0 (let h = year.1 in let m = p.ensures.month.1 in omega (arith, h, m)) in
    sym (month_is i c.args.day small (lies y p.result.1 p.result.2 c.args.day (date_number y p.result.1 p.result.2 c.args.day p.ensures.date) year.0))
