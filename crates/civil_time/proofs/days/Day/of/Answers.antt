use Rattle.std.proofs.Common.{◌≡◌, ℕ, ℤ, ◌≤◌, arith, w16, w32, to_z, of_z, nat_abs, true}
use Rattle.std.proofs.lemmas.Int.{ints}
use Rattle.civil_time.specs.Calendar.{is_day}
use Rattle.civil_time.proofs.DayLemmas.{number_is_day, is_day-within, IsWithin}
use Rattle.civil_time.proofs.days.Day.of.Goals as goal

back : (n : ℤ) → IsWithin n → to_z w32 (of_z w32 n) ≡ n
back n h = omega (arith, ints, h.0, h.1)

pub invariant_of-result : goal.invariant_of-result
invariant_of-result c =
    let year : ℕ = nat_abs (to_z w16 (of_z w16 c.args.year)) in
    let low : 1900 ≤ year = omega (arith, ints) in
    let high : year ≤ 9998 = omega (arith, ints) in
    let day : is_day c.in_ok-number.number ≡ true = number_is_day year c.args.month c.args.day c.in_ok-number.number c.in_ok-number.ensures low high in
    rw (back c.in_ok-number.number (is_day-within c.in_ok-number.number day)) day
