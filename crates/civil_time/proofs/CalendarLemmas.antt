-- The calendar of `jiff` beside this crate.
use Rattle.std.proofs.Common.{◌≡◌, ℕ, zero, suc, ◌+◌, ◌-◌, ◌≤◌, Bool, true, ◌&&◌, nat_le, ℤ, pos, ◌+ℤ◌, ◌-ℤ◌, unsigned_abs, refl, arith, ap, ◌∙◌, Some, None, if◌then◌else◌}
use Rattle.std.proofs.lemmas.Bool.{le-leb}
use Rattle.jiff.proofs.SpanFacts.{signed_arith}
use Rattle.jiff_core.specs.Calendar as jiff
use Rattle.civil_time.specs.Calendar.{month_days, days_before_year, days_in_first_months, days_before_date, day_number, checked_day_number}

shifted : (y k : ℕ) → k ≡ 10000 → pos (y + k) -ℤ pos 10000 ≡ pos y
shifted y k e = omega (arith, signed_arith, e)

one_more : (n m : ℕ) → m ≡ suc n → jiff.days_of_years m ≡ jiff.days_of_years n + jiff.days_in_year (pos n -ℤ pos 10000)
unfolding jiff.days_of_years
one_more n m h = rw h refl

years : (k : ℕ) → k ≡ 10000 → (y : ℕ) → jiff.days_of_years (y + k) ≡ jiff.days_of_years k + days_before_year y
unfolding days_before_year
years k e zero = ap jiff.days_of_years (let z : zero + k ≡ k = omega arith in z) ∙ (let z : jiff.days_of_years k ≡ jiff.days_of_years k + 0 = omega arith in z)
years k e (suc y) =
    one_more (y + k) (suc y + k) (omega arith)
    ∙ rw (shifted y k e) (let h = years k e y in omega (arith, h))

pub months : (y m : ℕ) → jiff.days_of_months (pos y) m ≡ days_in_first_months y m
unfolding jiff.days_of_months days_in_first_months
months y zero = refl
months y (suc m) = ap (λ n. n + month_days y (suc m)) (months y m)

-- the count of `jiff`, which begins 10000 years earlier
counts : (k : ℕ) → k ≡ 10000 → (y m d : ℕ) → 1 ≤ d → jiff.day_count (pos y) m d ≡ jiff.days_of_years k + days_before_date y m d
unfolding jiff.day_count
counts k e y m d hd =
    let at : unsigned_abs (pos y +ℤ pos 10000) ≡ y + k = rw e refl in
    rw (at, years k e y, months y (m - 1)) (omega (arith, hd))

same_gap : (a b c : ℕ) → pos (a + b) -ℤ pos (a + c) ≡ pos b -ℤ pos c
same_gap a b c = omega (arith, signed_arith)

gap : (k : ℕ) → k ≡ 10000 → (y z m d : ℕ) → 1 ≤ d
    → pos (jiff.day_count (pos y) m d) -ℤ pos (jiff.day_count (pos z) 1 1) ≡ pos (days_before_date y m d) -ℤ pos (days_before_date z 1 1)
gap k e y z m d hd = rw (counts k e y m d hd, counts k e z 1 1 (omega arith)) (same_gap (jiff.days_of_years k) (days_before_date y m d) (days_before_date z 1 1))

-- the two day numbers are one
pub numbers : (y m d : ℕ) → 1 ≤ d → jiff.days_from_civil (pos y) m d ≡ day_number y m d
unfolding jiff.days_from_civil
numbers y m d hd = gap 10000 refl y 1970 m d hd

all_true : (b c d e f : Bool) (n : ℤ) → b ≡ true → c ≡ true → d ≡ true → e ≡ true → f ≡ true
    → Some n ≡ (if b && (c && d) && (e && f) then Some n else None)
all_true b c d e f n hb hc hd he hf = rw (hb, hc, hd, he, hf) refl

-- a date in range has its number
pub found : (y m d : ℕ) → y ≤ 9999 → 1 ≤ m → m ≤ 12 → 1 ≤ d → d ≤ month_days y m → Some (day_number y m d) ≡ checked_day_number y m d
found y m d b p q r s =
    all_true (nat_le y 9999) (nat_le 1 m) (nat_le m 12) (nat_le 1 d) (nat_le d (month_days y m)) (day_number y m d)
    (le-leb y 9999 b) (le-leb 1 m p) (le-leb m 12 q) (le-leb 1 d r) (le-leb d (month_days y m) s)

-- the same of a date of `jiff` with these numbers
pub found_of : (r year : ℤ) (month day : ℕ) (y m d : ℕ) → year ≡ pos y → pos month ≡ pos m → pos day ≡ pos d
    → r ≡ jiff.days_from_civil year month day → y ≤ 9999 → (1 ≤ month) × (month ≤ 12) → (1 ≤ day) × (day ≤ jiff.days_in_month year month)
    → Some r ≡ checked_day_number y m d
found_of r year month day y m d hy hm hd hr high inm ind =
    let em : month ≡ m = omega (arith, signed_arith, hm) in
    let ed : day ≡ d = omega (arith, signed_arith, hd) in
    let in_day = rw (hy, em, ed) at ind in
    let in_month = rw em at inm in
    let e : r ≡ day_number y m d = rw (hy, em, ed) at hr ∙ numbers y m d in_day.0 in
    rw e (found y m d high in_month.0 in_month.1 in_day.0 in_day.1)
