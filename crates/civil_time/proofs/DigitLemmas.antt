-- Digits as they are written are read.
use Rattle.std.proofs.Common.{◌≡◌, ℕ, ◌+◌, ◌-◌, ◌*◌, ◌/◌, ◌%◌, ◌<◌, ◌≤◌, true, refl, arith, ap, Some}
use Rattle.std.proofs.lemmas.Bool.{le-leb}
use Rattle.civil_time.specs.Digits.{is_digit, two_digit_number, four_digit_number}

pub digit_is : (n : ℕ) → n ≤ 9 → is_digit (48 + n) ≡ true
digit_is n h = rw (le-leb 48 (48 + n) (omega arith), le-leb (48 + n) 57 (omega (arith, h))) refl

-- two digits, read
pub two_read : (n : ℕ) → n < 100 → two_digit_number (48 + n / 10) (48 + n % 10) ≡ Some n
two_read n h =
    let high : n / 10 ≤ 9 = omega (arith, h) in
    let low : n % 10 ≤ 9 = omega arith in
    let same : 10 * (48 + n / 10 - 48) + (48 + n % 10 - 48) ≡ n = omega arith in
    rw (digit_is (n / 10) high, digit_is (n % 10) low) (ap (λ x. Some x) same)

-- four digits, read
pub four_read : (n : ℕ) → n < 10000 → four_digit_number (48 + n / 100 / 10) (48 + n / 100 % 10) (48 + n % 100 / 10) (48 + n % 100 % 10) ≡ Some n
four_read n h =
    let a : n / 100 / 10 ≤ 9 = omega (arith, h) in
    let b : n / 100 % 10 ≤ 9 = omega arith in
    let c : n % 100 / 10 ≤ 9 = omega arith in
    let d : n % 100 % 10 ≤ 9 = omega arith in
    let same : 1000 * (48 + n / 100 / 10 - 48) + 100 * (48 + n / 100 % 10 - 48) + 10 * (48 + n % 100 / 10 - 48) + (48 + n % 100 % 10 - 48) ≡ n = omega arith in
    rw (digit_is (n / 100 / 10) a, digit_is (n / 100 % 10) b, digit_is (n % 100 / 10) c, digit_is (n % 100 % 10) d) (ap (λ x. Some x) same)
