-- Months follow one another, and each day lies in one of them.
use Rattle.std.proofs.Common.{◌≡◌, ℕ, zero, suc, ◌+◌, ◌-◌, ◌*◌, ◌/◌, ◌%◌, ◌<◌, ◌≤◌, ◌⊎◌, inl, inr, Bool, true, false, ◌&&◌, nat_le, int_le, int_lt, ℤ}
use Rattle.std.proofs.Common.{pos, negsuc, nat_abs, ◌-ℤ◌, ◌<ℤ◌, ◌≤ℤ◌, refl, arith, ap, ◌∙◌, sym, Option, Some, None, if◌then◌else◌}
use Rattle.std.proofs.lemmas.Int.{ints}
use Rattle.jiff_core.proofs.SignedLemmas.{signed_arith}
use Rattle.jiff_core.proofs.CalendarLemmas.{days_of_months_all}
use Rattle.civil_time.specs.Calendar.{year_days, month_days, days_before_year, days_in_first_months, days_before_date, day_number, checked_day_number}
use Rattle.civil_time.specs.Calendar.{is_date, day_of_date, month_start, is_in_month, last_begun, month_of_day}
use Rattle.civil_time.proofs.CalendarLemmas.{months}
use Rattle.civil_time.proofs.DayLemmas.{was_there, date_is_civil}

all_months : (y : ℕ) → days_in_first_months y 12 ≡ year_days y
all_months y = sym (months y 12) ∙ days_of_months_all (pos y)

months-more : (y m : ℕ) → days_in_first_months y (suc m) ≡ days_in_first_months y m + month_days y (suc m)
unfolding days_in_first_months
months-more y m = refl

years-more : (y : ℕ) → days_before_year (suc y) ≡ days_before_year y + year_days y
unfolding days_before_year
years-more y = refl

months-none : (y : ℕ) → days_in_first_months y 0 ≡ 0
unfolding days_in_first_months
months-none y = refl

-- the days before a month, as a natural number
abbrev before : ℕ → ℕ
before i = days_before_year (i / 12) + days_in_first_months (i / 12) (i % 12)

start_is : (i : ℕ) → month_start i ≡ pos (before i) -ℤ pos (days_before_date 1970 1 1)
start_is i = ap (λ (n : ℕ). pos (days_before_year (i / 12) + n) -ℤ pos (days_before_date 1970 1 1))
    (ends (days_in_first_months (i / 12) (i % 12 + 1 - 1)) (days_in_first_months (i / 12) (i % 12)) (ap (days_in_first_months (i / 12)) (let e : i % 12 + 1 - 1 ≡ i % 12 = omega arith in e)))
  where
    ends : (a b : ℕ) → a ≡ b → a + 1 - 1 ≡ b
    ends a b e = omega (arith, e)

-- the next month begins after the days of this one
before-next : (i : ℕ) → before (i + 1) ≡ before i + month_days (i / 12) (i % 12 + 1)
before-next i = go (let c : (i % 12 < 11) ⊎ (i % 12 ≡ 11) = grind arith in c)
  where
    inner : (y r s : ℕ) → s ≡ suc r → days_before_year y + days_in_first_months y s ≡ days_before_year y + days_in_first_months y r + month_days y (r + 1)
    inner y r s e =
        let n : r + 1 ≡ suc r = omega arith in
        let more : days_in_first_months y s ≡ days_in_first_months y r + month_days y (r + 1) = ap (days_in_first_months y) e ∙ months-more y r ∙ ap
        (λ (k : ℕ). days_in_first_months y r + month_days y k) (sym n) in
        omega (arith, more)

    last : (y r z s : ℕ) → r ≡ 11 → z ≡ suc y → s ≡ 0 → days_before_year z + days_in_first_months z s ≡ days_before_year y + days_in_first_months y r + month_days y (r + 1)
    last y r z s e f g =
        let none : days_in_first_months z s ≡ 0 = ap (days_in_first_months z) g ∙ months-none z in
        let year : days_before_year z ≡ days_before_year y + year_days y = ap days_before_year f ∙ years-more y in
        let twelve : days_in_first_months y 12 ≡ days_in_first_months y 11 + month_days y 12 = months-more y 11 in
        let eleven : days_in_first_months y r ≡ days_in_first_months y 11 = ap (days_in_first_months y) e in
        let december : month_days y (r + 1) ≡ month_days y 12 = ap (month_days y) (let k : r + 1 ≡ 12 = omega (arith, e) in k) in
        omega (arith, none, year, twelve, eleven, december, all_months y)

    go : (i % 12 < 11) ⊎ (i % 12 ≡ 11) → before (i + 1) ≡ before i + month_days (i / 12) (i % 12 + 1)
    go (inl lt) =
        let y : (i + 1) / 12 ≡ i / 12 = omega (arith, lt) in
        let r : (i + 1) % 12 ≡ suc (i % 12) = omega (arith, lt) in
        ap (λ (k : ℕ). days_before_year k + days_in_first_months k ((i + 1) % 12)) y ∙ inner (i / 12) (i % 12) ((i + 1) % 12) r
    go (inr eq) = last (i / 12) (i % 12) ((i + 1) / 12) ((i + 1) % 12) eq (omega (arith, eq)) (omega (arith, eq))

pub before-later : (i k : ℕ) → before i ≤ before (i + k)
before-later i zero = let e : i + 0 ≡ i = omega arith in rw e (omega arith)
before-later i (suc k) =
    let e : i + suc k ≡ i + k + 1 = omega arith in
    let n = before-next (i + k) in
    let h = before-later i k in
    rw e (omega (arith, n, h))

start-later : (i j : ℕ) → i ≤ j → month_start i ≤ℤ month_start j
start-later i j h =
    let e : i + (j - i) ≡ j = omega (arith, h) in
    let k : before i ≤ before j = rw e at (before-later i (j - i)) in
    rw (start_is i, start_is j) (omega (arith, signed_arith, k))

both : (a b : Bool) → (a && b) ≡ true → (a ≡ true) × (b ≡ true)
both true b h = (refl, h)
both false b h = (cc, cc)

both_true : (a b : Bool) → a ≡ true → b ≡ true → (a && b) ≡ true
both_true a b p q = rw (p, q) refl

le_of : (a b : ℤ) → int_le a b ≡ true → a ≤ℤ b
le_of a b h = grind (arith, ints)

of_le : (a b : ℤ) → a ≤ℤ b → int_le a b ≡ true
of_le a b h = grind (arith, ints)

lt_of : (a b : ℤ) → int_lt a b ≡ true → a <ℤ b
lt_of a b h = grind (arith, ints)

of_lt : (a b : ℤ) → a <ℤ b → int_lt a b ≡ true
of_lt a b h = grind (arith, ints)

not_le : (a b : ℤ) → b <ℤ a → int_le a b ≡ false
not_le a b h = grind (arith, ints)

-- the last month that has begun is the one in which the day lies
last_is : (n i : ℕ) (z : ℤ) → i ≤ n → month_start i ≤ℤ z → z <ℤ month_start (i + 1) → last_begun n z ≡ i
unfolding last_begun
last_is zero i z h low high = omega (arith, h)
last_is (suc n) i z h low high = go (let c : (i ≡ suc n) ⊎ (i ≤ n) = grind arith in c) (last_is n i z)
  where
    go : (i ≡ suc n) ⊎ (i ≤ n) → (i ≤ n → month_start i ≤ℤ z → z <ℤ month_start (i + 1) → last_begun n z ≡ i)
        → (if int_le (month_start (suc n)) z then suc n else last_begun n z) ≡ i
    go (inl e) ih = let t : int_le (month_start (suc n)) z ≡ true = of_le (month_start (suc n)) z (rw e at low) in ap (λ (b : Bool). if b then suc n else last_begun n z) t ∙ sym e
    go (inr le) ih =
        let later : month_start (i + 1) ≤ℤ month_start (suc n) = start-later (i + 1) (suc n) (omega (arith, le)) in
        let f : int_le (month_start (suc n)) z ≡ false = not_le (month_start (suc n)) z (lt_le z (month_start (i + 1)) (month_start (suc n)) high later) in
        ap (λ (b : Bool). if b then suc n else last_begun n z) f ∙ ih le low high
      where
        lt_le : (a b c : ℤ) → a <ℤ b → b ≤ℤ c → a <ℤ c
        lt_le a b c p q = omega (arith, signed_arith, p, q)

-- a day lies in one month
pub month_is : (i : ℕ) (z : ℤ) → i ≤ 119_987 → is_in_month i z ≡ true → month_of_day z ≡ i
unfolding month_of_day
month_is i z h e =
    let w = both _ _ e in
    last_is 119_987 i z h (le_of (month_start i) z w.0) (lt_of z (month_start (i + 1)) w.1)

lies : (y m d i : ℕ) → y ≡ i / 12 → m ≡ i % 12 + 1 → 1 ≤ d → d ≤ month_days y m → is_in_month i (day_number y m d) ≡ true
lies y m d i ey em low high =
    let month : days_in_first_months y (m - 1) ≡ days_in_first_months (i / 12) (i % 12) = ap (λ (k : ℕ). days_in_first_months k (m - 1)) ey ∙ ap (days_in_first_months (i / 12))
    (let k : m - 1 ≡ i % 12 = omega (arith, em) in k) in
    let year : days_before_year y ≡ days_before_year (i / 12) = ap days_before_year ey in
    let days : month_days y m ≡ month_days (i / 12) (i % 12 + 1) = ap (λ (k : ℕ). month_days k m) ey ∙ ap (month_days (i / 12)) em in
    let next = before-next i in
    let a : before i ≤ days_before_date y m d = omega (arith, month, year, low) in
    let b : days_before_date y m d < before (i + 1) = omega (arith, month, year, days, next, low, high) in
    let first : month_start i ≤ℤ day_number y m d = rw (start_is i) (omega (arith, signed_arith, a)) in
    let last : day_number y m d <ℤ month_start (i + 1) = rw (start_is (i + 1)) (omega (arith, signed_arith, b)) in
    both_true _ _ (of_le (month_start i) (day_number y m d) first) (of_lt (day_number y m d) (month_start (i + 1)) last)

-- a day with a date lies in the month of that date
pub date_in_month : (y m d i : ℕ) (z : ℤ) → checked_day_number y m d ≡ Some z → i ≡ 12 * y + (m - 1) → is_in_month i z ≡ true
date_in_month y m d i z e ei =
    let w = was_there (is_date y m d) z (day_number y m d) (sym e) in
    let civil = date_is_civil y m d w.0 in
    let low : 1 ≤ m = civil.1.0 in
    let high : m ≤ 12 = civil.1.1 in
    rw w.1 (lies y m d i (omega (arith, ei, low, high)) (omega (arith, ei, low, high)) civil.2.0 civil.2.1)

there : (b : Bool) (o : Option ℤ) (z : ℤ) → (if b then o else None) ≡ Some z → o ≡ Some z
there true o z h = h
there false o z h = cc

-- the date of a day, with its year as a natural number
pub date_number : (y : ℤ) (m d : ℕ) (z : ℤ) → day_of_date y m d ≡ Some z → checked_day_number (nat_abs y) m d ≡ Some z
date_number (pos y) m d z h = there (nat_le 1900 y && nat_le y 9998) (checked_day_number y m d) z h
date_number (negsuc y) m d z h = cc
