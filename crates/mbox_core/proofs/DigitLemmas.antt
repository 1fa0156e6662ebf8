-- Numbers as they are written, and as they are read.
use Rattle.std.proofs.Common.{◌≡◌, ℕ, zero, suc, ◌+◌, ◌-◌, ◌*◌, ◌/◌, ◌%◌, ◌<◌, true, refl, arith, ap, ◌∙◌, Some, [], ◌∷◌, min}
use Rattle.std.proofs.lemmas.Bool.{le-leb}
use Rattle.std.proofs.lemmas.Bool.Decides.{nat_tests}
use Rattle.civil_time.specs.Digits.{as_two_digits, as_four_digits}
use Rattle.civil_time.specs.Names.{name_at, weekday_names, month_names}
use Rattle.civil_time.proofs.DigitLemmas.{digit_is, two_read, four_read}
use Rattle.mbox_items.specs.Separator.{parsed_day_of_month, parsed_time_of_day, parsed_four_digit_year}
use Rattle.mbox_items.specs.Written.{clock_text}
use Rattle.mbox_items.proofs.RunLemmas.{is_plain, is_run}

-- a day of one digit, and of two
pub day_one : (n : ℕ) → n < 10 → parsed_day_of_month ((48 + n) ∷ []) ≡ Some n
unfolding parsed_day_of_month
day_one n h =
    let same : 48 + n - 48 ≡ n = omega arith in
    rw (digit_is n (omega (arith, h))) (ap (λ x. Some x) same)

pub day_two : (n : ℕ) → n < 100 → parsed_day_of_month (as_two_digits n) ≡ Some n
unfolding parsed_day_of_month
day_two n h = two_read n h

pub clock_read : (n : ℕ) → n < 86400 → parsed_time_of_day (clock_text n) ≡ Some n
unfolding parsed_time_of_day
clock_read n h =
    let hour : n / 3600 < 24 = omega (arith, h) in
    let minute : n / 60 % 60 < 60 = omega arith in
    let second : n % 60 < 60 = omega arith in
    let least : min (n % 60) 59 ≡ n % 60 = omega arith in
    let same : 3600 * (n / 3600) + 60 * (n / 60 % 60) + n % 60 ≡ n = omega arith in
    rw (
      two_read (n / 3600) (omega arith),
      two_read (n / 60 % 60) (omega arith),
      two_read (n % 60) (omega arith),
      le-leb (n / 3600) 23 (omega arith),
      le-leb (n / 60 % 60) 59 (omega arith),
      le-leb (n % 60) 60 (omega arith),
    ) (ap (λ x. Some (3600 * (n / 3600) + 60 * (n / 60 % 60) + x)) least ∙ ap (λ x. Some x) same)

pub year_read : (n : ℕ) → n < 10000 → parsed_four_digit_year (as_four_digits n) ≡ Some n
unfolding parsed_four_digit_year
year_read n h = four_read n h

-- ---- bytes of a token

digit_plain : (n : ℕ) → is_plain (48 + n) ≡ true
digit_plain n = grind (arith, nat_tests)

pub two_plain : (n : ℕ) → is_run (as_two_digits n) ≡ true
two_plain n = rw (digit_plain (n / 10), digit_plain (n % 10)) refl

pub one_plain : (n : ℕ) → is_run ((48 + n) ∷ []) ≡ true
one_plain n = rw (digit_plain n) refl

pub four_plain : (n : ℕ) → is_run (as_four_digits n) ≡ true
four_plain n = rw (digit_plain (n / 100 / 10), digit_plain (n / 100 % 10), digit_plain (n % 100 / 10), digit_plain (n % 100 % 10)) refl

pub clock_plain : (n : ℕ) → is_run (clock_text n) ≡ true
clock_plain n = rw (
  digit_plain (n / 3600 / 10),
  digit_plain (n / 3600 % 10),
  digit_plain (n / 60 % 60 / 10),
  digit_plain (n / 60 % 60 % 10),
  digit_plain (n % 60 / 10),
  digit_plain (n % 60 % 10),
) refl

pub weekday_plain : (n : ℕ) → n < 7 → is_run (name_at n weekday_names) ≡ true
weekday_plain zero h = refl
weekday_plain (suc zero) h = refl
weekday_plain (suc (suc zero)) h = refl
weekday_plain (suc (suc (suc zero))) h = refl
weekday_plain (suc (suc (suc (suc zero)))) h = refl
weekday_plain (suc (suc (suc (suc (suc zero))))) h = refl
weekday_plain (suc (suc (suc (suc (suc (suc zero)))))) h = refl
weekday_plain (suc (suc (suc (suc (suc (suc (suc n))))))) h = absurd (omega (arith, h))

pub month_plain : (n : ℕ) → n < 12 → is_run (name_at n month_names) ≡ true
month_plain zero h = refl
month_plain (suc zero) h = refl
month_plain (suc (suc zero)) h = refl
month_plain (suc (suc (suc zero))) h = refl
month_plain (suc (suc (suc (suc zero)))) h = refl
month_plain (suc (suc (suc (suc (suc zero))))) h = refl
month_plain (suc (suc (suc (suc (suc (suc zero)))))) h = refl
month_plain (suc (suc (suc (suc (suc (suc (suc zero))))))) h = refl
month_plain (suc (suc (suc (suc (suc (suc (suc (suc zero)))))))) h = refl
month_plain (suc (suc (suc (suc (suc (suc (suc (suc (suc zero))))))))) h = refl
month_plain (suc (suc (suc (suc (suc (suc (suc (suc (suc (suc zero)))))))))) h = refl
month_plain (suc (suc (suc (suc (suc (suc (suc (suc (suc (suc (suc zero))))))))))) h = refl
month_plain (suc (suc (suc (suc (suc (suc (suc (suc (suc (suc (suc (suc n)))))))))))) h = absurd (omega (arith, h))
