use Rattle.std.proofs.Common.{◌≡◌, pos, w16, w8, w32, ◌∙◌, arith, FitsSigned}
use Rattle.std.proofs.lemmas.Int.{to_z_pos, to_z-of_z}
use Rattle.jiff.proofs.SpanFacts.{signed_arith}
use Rattle.civil_time.proofs.CalendarLemmas.{found_of}
use Rattle.civil_time.proofs.calendar.day_number.Goals as goal

pub returns-in-Ok : goal.returns-in-Ok
returns-in-Ok c =
    let y : c.in-Ok.date.year ≡ pos c.args.year = c.in-Ok.ensures.value.0 ∙ to_z_pos w16 c.args.year (omega (arith, c.if-year-gt9999.false)) in
    let m : pos c.in-Ok.date.month ≡ pos c.args.month = c.in-Ok.ensures.value.1 ∙ to_z_pos w8 c.args.month (omega (arith, c.if-month-gt12.false)) in
    let d : pos c.in-Ok.date.day ≡ pos c.args.day = c.in-Ok.ensures.value.2 ∙ to_z_pos w8 c.args.day (omega (arith, c.if-day-gt31.false)) in
    let fits : FitsSigned w32 c.to_unix_epoch_day.result = omega (arith, signed_arith, c.to_unix_epoch_day.ensures.bound) in
    let r = rw c.to_plain.ensures at c.to_unix_epoch_day.ensures.value in
    rw (to_z-of_z w32 c.to_unix_epoch_day.result fits)
    (found_of _ _ _ _ c.args.year c.args.month c.args.day y m d r c.if-year-gt9999.false c.in-Ok.date.month_in c.in-Ok.date.day_in)
