use Rattle.std.proofs.Common.{◌≡◌, ℤ, ◌≤ℤ◌, pos, arith, Some, w16, w32, w64, to_z, of_z, ◌∙◌, ap}
use Rattle.std.proofs.lemmas.Int.{ints}
use Rattle.jiff_core.specs.Calendar.{days_from_civil, IsCivilDate}
use Rattle.civil_time.proofs.DayLemmas.{date_of_day, year_in, is_day-within, IsWithin}
use Rattle.civil_time.proofs.days.Day.parts.Goals as goal

back : (n : ℤ) → IsWithin n → to_z w64 (of_z w64 (to_z w32 (of_z w32 n))) ≡ n
back n h = omega (arith, ints, h.0, h.1)

year_back : (y : ℤ) → (pos 1900 ≤ℤ y) × (y ≤ℤ pos 9998) → to_z w16 (of_z w16 y) ≡ y
year_back y h = omega (arith, ints, h.0, h.1)

pub returns-clause-date : goal.returns-clause-date
returns-clause-date c =
    let date = c.in-Ok.date in
    let within = is_day-within c.self.inside.number c.self.invariant in
    let number : days_from_civil date.year date.month date.day ≡ c.self.inside.number = c.in-Ok.ensures.value ∙ back c.self.inside.number within in
    let civil : IsCivilDate date.year date.month date.day = (date.year_in, date.month_in, date.day_in) in
    let year = year_in date.year date.month date.day civil (rw number within) in
    rw (year_back date.year year) (date_of_day date.year date.month date.day c.self.inside.number civil number c.self.invariant ∙ ap (λ n. Some n) c.self.view_is)

pub returns-clause-year : goal.returns-clause-year
returns-clause-year c =
    let date = c.in-Ok.date in
    let within = is_day-within c.self.inside.number c.self.invariant in
    let number : days_from_civil date.year date.month date.day ≡ c.self.inside.number = c.in-Ok.ensures.value ∙ back c.self.inside.number within in
    let year = year_in date.year date.month date.day (date.year_in, date.month_in, date.day_in) (rw number within) in
    rw (year_back date.year year) year
