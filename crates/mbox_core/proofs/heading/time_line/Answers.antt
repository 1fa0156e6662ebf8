use Rattle.std.proofs.Common.{◌≡◌, pos, ap, ◌∙◌, refl, rules, unsigned_abs, w16, w64, FitsSigned}
use Rattle.std.proofs.lemmas.Int.{to_z-of_z}
use Rattle.std.specs.Int.{int_rem_euclid}
use Rattle.civil_time.specs.Calendar.{weekday}
use Rattle.civil_time.specs.Dates.{Date}
use Rattle.civil_time.proofs.DateLemmas.{date_back}
use Rattle.mbox_core.proofs.HeadingLemmas.{time_is, same_line}
use Rattle.mbox_core.proofs.heading.time_line.Goals as goal

pub returns : goal.returns
returns c =
    let z = c.args.arrival in
    let y = c.parts-year.result.0 in
    let date : Date = record { year = unsigned_abs y; month = c.parts-year.result.1; day = c.parts-year.result.2 } in
    let is = time_is z c.day-day.result date (unsigned_abs (int_rem_euclid z (pos 86400))) c.day-day.ensures
    (date_back y c.parts-year.result.1 c.parts-year.result.2 c.day-day.result c.parts-year.ensures.date) refl in
    let fits_seconds : FitsSigned w64 c.seconds.result = search rules in
    let fits_rest : FitsSigned w64 c.rem_euclid-seconds.result = search rules in
    let fits_year : FitsSigned w16 y = search rules in
    let rem : c.rem_euclid-seconds.result ≡ int_rem_euclid z (pos 86400) =
    c.rem_euclid-seconds.ensures.value ∙ ap (λ x. int_rem_euclid x (pos 86400)) (to_z-of_z w64 c.seconds.result fits_seconds ∙ c.seconds.ensures.value) in
    same_line c.date_line.result z _ _ _ _ _ (weekday c.day-day.result) (unsigned_abs (int_rem_euclid z (pos 86400))) (unsigned_abs y) c.parts-year.result.1 c.parts-year.result.2
    c.date_line.ensures is c.weekday.ensures.value (ap unsigned_abs (to_z-of_z w64 c.rem_euclid-seconds.result fits_rest ∙ rem)) (ap unsigned_abs (to_z-of_z w16 y fits_year)) refl refl
