use Rattle.std.proofs.Common.{◌≡◌, pos, true, false, refl, sym, ap, Some, rules, tests, w64}
use Rattle.std.specs.Prelude.{unsigned_abs, int_le}
use Rattle.std.proofs.lemmas.Int.{to_z-of_z}
use Rattle.policy_core.specs.Facts.{max_age_days}
use Rattle.policy_core.specs.Written.{value_refusal}
use Rattle.policy_core.proofs.rule_reading.read_age.Goals as goal

pub returns-in-Some : goal.returns-in-Some
unfolding value_refusal
returns-in-Some c =
    let low : int_le (pos 0) c.in-Some.days ≡ true = search (rules, tests) in
    let high : int_le c.in-Some.days (pos max_age_days) ≡ true = search (rules, tests) in
    rw (← c.in-Some.ensures, low, high) (refl, ap (λ z. Some (unsigned_abs z)) (sym (to_z-of_z w64 c.in-Some.days (search rules))))

pub returns-in-Some-2 : goal.returns-in-Some-2
unfolding value_refusal
returns-in-Some-2 c =
    let low : int_le (pos 0) c.in-Some.days ≡ true = search (rules, tests) in
    let high : int_le c.in-Some.days (pos max_age_days) ≡ false = search (rules, tests) in
    rw (← c.in-Some.ensures, low, high) refl

pub returns-in-Some-2-2 : goal.returns-in-Some-2-2
unfolding value_refusal
returns-in-Some-2-2 c =
    let low : int_le (pos 0) c.in-Some.days ≡ false = search (rules, tests) in
    rw (← c.in-Some.ensures, low) refl

pub returns-in-None : goal.returns-in-None
unfolding value_refusal
returns-in-None c = rw (← c.in-None.ensures) refl
