-- The date that comes so many days after 1900-01-01, and the number of a date: there and back.
use Rattle.std.proofs.Common.{◌≡◌, ℕ, zero, suc, ◌+◌, ◌-◌, ◌<◌, ◌≤◌, Bool, true, false, ◌&&◌, nat_lt, nat_le, refl, arith, ap, ◌∙◌, sym, if◌then◌else◌}
use Rattle.std.proofs.Common.{Option, Some, None, ℤ, pos, negsuc, ◌+ℤ◌, ◌-ℤ◌, ◌*ℤ◌, unsigned_abs, neg_ℤ, int_le, inl, inr, ◌⊎◌}
use Rattle.std.proofs.lemmas.Bool.{le-leb, cases_lt}
use Rattle.std.proofs.lemmas.Bool.Decides.{nat_tests}
use Rattle.std.proofs.lemmas.Int.{ints}
use Rattle.std.specs.Int.{int_rem_euclid}
use Rattle.civil_time.specs.Calendar.{is_leap, year_days, month_days, days_before_year, days_in_first_months, days_before_date}
use Rattle.civil_time.specs.Calendar.{day_number, is_date, checked_day_number, day_of_date, is_instant, day_of_instant}
use Rattle.civil_time.specs.Dates.{Date, year_and_day_after, month_and_day_after, date_of_days_since_1900, days_since_1900}

next_days : (y : ℕ) → days_before_year (suc y) ≡ days_before_year y + year_days y
unfolding days_before_year
next_days y = refl

next_month : (y m : ℕ) → days_in_first_months y (suc m) ≡ days_in_first_months y m + month_days y (suc m)
unfolding days_in_first_months
next_month y m = refl

no_month : (y : ℕ) → days_in_first_months y 0 ≡ 0
unfolding days_in_first_months
no_month y = refl

-- what comes n days after 1 January of the year y
pub record IsYear (y k n : ℕ) (p : ℕ × ℕ) : Type 0 where
  pub low : y ≤ p.0
  pub high : p.0 ≤ y + k
  pub same : days_before_year p.0 + p.1 ≡ days_before_year y + n
  pub within : p.1 < year_days p.0

less : (a b : ℕ) → nat_lt a b ≡ true → a < b
less a b h = grind (arith, nat_tests)

no_less : (a b : ℕ) → nat_lt a b ≡ false → b ≤ a
no_less a b h = grind (arith, nat_tests)

pub year_is : (k y n : ℕ) → days_before_year y + n < days_before_year (suc (y + k)) → IsYear y k n (year_and_day_after k y n)
unfolding year_and_day_after
year_is zero y n h =
    let e : suc (y + zero) ≡ suc y = omega arith in
    let g : days_before_year y + n < days_before_year y + year_days y = rw (ap days_before_year e, next_days y) at h in
    record { low = omega arith; high = omega arith; same = refl; within = omega (arith, g) }
year_is (suc k) y n h = cases (nat_lt n (year_days y)) refl (λ g. year_is k (suc y) (n - year_days y) g)
  where
    further : nat_lt n (year_days y) ≡ false → days_before_year (suc y) + (n - year_days y) < days_before_year (suc (suc y + k))
    further t =
        let e : suc (y + suc k) ≡ suc (suc y + k) = omega arith in
        let low = no_less n (year_days y) t in
        let g = rw (ap days_before_year e) at h in
        omega (arith, next_days y, g, low)

    cases : (t : Bool) → nat_lt n (year_days y) ≡ t → (days_before_year (suc y) + (n - year_days y) < days_before_year (suc (suc y + k))
        → IsYear (suc y) k (n - year_days y) (year_and_day_after k (suc y) (n - year_days y)))
        → IsYear y (suc k) n (if t then (y, n) else year_and_day_after k (suc y) (n - year_days y))
    cases true t later = record { low = omega arith; high = omega arith; same = refl; within = less n (year_days y) t }
    cases false t later =
        let r = later (further t) in
        let low = no_less n (year_days y) t in
        record {
          low = omega (arith, r.low);
          high = omega (arith, r.high);
          same = omega (arith, r.same, next_days y, low);
          within = r.within;
        }

-- what comes n days after the first of the month after m
pub record IsMonth (y m k n : ℕ) (p : ℕ × ℕ) : Type 0 where
  pub before : ℕ
  pub is : p.0 ≡ suc before
  pub low : m ≤ before
  pub high : before ≤ m + k
  pub same : days_in_first_months y before + p.1 ≡ days_in_first_months y m + n
  pub within : p.1 < month_days y (suc before)

pub month_is : (k y m n : ℕ) → days_in_first_months y m + n < days_in_first_months y (suc (m + k)) → IsMonth y m k n (month_and_day_after k y (suc m) n)
unfolding month_and_day_after
month_is zero y m n h =
    let e : suc (m + zero) ≡ suc m = omega arith in
    let g : days_in_first_months y m + n < days_in_first_months y m + month_days y (suc m) = rw (ap (days_in_first_months y) e, next_month y m) at h in
    record { before = m; is = refl; low = omega arith; high = omega arith; same = refl; within = omega (arith, g) }
month_is (suc k) y m n h = cases (nat_lt n (month_days y (suc m))) refl (λ g. month_is k y (suc m) (n - month_days y (suc m)) g)
  where
    further : nat_lt n (month_days y (suc m)) ≡ false → days_in_first_months y (suc m) + (n - month_days y (suc m)) < days_in_first_months y (suc (suc m + k))
    further t =
        let e : suc (m + suc k) ≡ suc (suc m + k) = omega arith in
        let low = no_less n (month_days y (suc m)) t in
        let g = rw (ap (days_in_first_months y) e) at h in
        omega (arith, next_month y m, g, low)

    cases : (t : Bool) → nat_lt n (month_days y (suc m)) ≡ t → (days_in_first_months y (suc m) + (n - month_days y (suc m)) < days_in_first_months y (suc (suc m + k))
        → IsMonth y (suc m) k (n - month_days y (suc m)) (month_and_day_after k y (suc (suc m)) (n - month_days y (suc m))))
        → IsMonth y m (suc k) n (if t then (suc m, n) else month_and_day_after k y (suc (suc m)) (n - month_days y (suc m)))
    cases true t later = record { before = m; is = refl; low = omega arith; high = omega arith; same = refl; within = less n (month_days y (suc m)) t }
    cases false t later =
        let r = later (further t) in
        let low = no_less n (month_days y (suc m)) t in
        record {
          before = r.before;
          is = r.is;
          low = omega (arith, r.low);
          high = omega (arith, r.high);
          same = omega (arith, r.same, next_month y m, low);
          within = r.within;
        }

-- a year's months are the year
pub all_months : (y : ℕ) → days_in_first_months y 12 ≡ year_days y
unfolding days_in_first_months
all_months y = cases (is_leap y) refl
  where
    cases : (t : Bool) → is_leap y ≡ t → days_in_first_months y 12 ≡ (if is_leap y then 366 else 365)
    cases true t = rw t refl
    cases false t = rw t refl

first_year : days_before_year 1900 ≡ 693961
unfolding days_before_year
first_year = refl

past_years : days_before_year 9999 ≡ 3652060
unfolding days_before_year
past_years = refl

epoch : days_before_date 1970 1 1 ≡ 719528
unfolding days_before_year days_in_first_months
epoch = refl

all_true : (b c d e f : Bool) → b ≡ true → c ≡ true → d ≡ true → e ≡ true → f ≡ true → (b && (c && d) && (e && f)) ≡ true
all_true b c d e f hb hc hd he hf = rw (hb, hc, hd, he, hf) refl

-- a date that the calendar has
pub record IsFound (n : ℕ) (date : Date) : Type 0 where
  pub first : 1900 ≤ date.year
  pub last : date.year ≤ 9998
  pub some_month : 1 ≤ date.month
  pub in_year : date.month ≤ 12
  pub some_day : 1 ≤ date.day
  pub in_month : date.day ≤ month_days date.year date.month
  pub number : days_before_date date.year date.month date.day ≡ 693961 + n

pub date_is : (n : ℕ) → 693961 + n < 3652060 → IsFound n (date_of_days_since_1900 n)
unfolding date_of_days_since_1900
date_is n h =
    let y = year_is 8098 1900 n (rw (first_year, past_years) h) in
    let year = (year_and_day_after 8098 1900 n).0 in
    let rest = (year_and_day_after 8098 1900 n).1 in
    let m = month_is 11 year 0 rest (rw (no_month year, all_months year) (omega (arith, y.within))) in
    let month = (month_and_day_after 11 year 1 rest).0 in
    let day = (month_and_day_after 11 year 1 rest).1 in
    let months : days_in_first_months year (month - 1) ≡ days_in_first_months year m.before = ap (days_in_first_months year) (omega (arith, m.is)) in
    record {
      first = y.low;
      last = omega (arith, y.high);
      some_month = omega (arith, m.is);
      in_year = omega (arith, m.is, m.high);
      some_day = omega arith;
      in_month = rw m.is (omega (arith, m.within));
      number = omega (arith, months, m.same, y.same, first_year, no_month year);
    }

-- the number of the date is the day
pub found_number : (n : ℕ) (day : ℤ) (date : Date) → IsFound n date → pos n ≡ day +ℤ pos 25567 → checked_day_number date.year date.month date.day ≡ Some day
found_number n day date f e =
    let is : is_date date.year date.month date.day ≡ true = all_true _ _ _ _ _
    (le-leb date.year 9999 (omega (arith, f.last))) (le-leb 1 date.month f.some_month) (le-leb date.month 12 f.in_year)
    (le-leb 1 date.day f.some_day) (le-leb date.day (month_days date.year date.month) f.in_month) in
    let same : day_number date.year date.month date.day ≡ day = rw (f.number, epoch) (omega (arith, ints, e)) in
    rw (is, same) refl

-- the years rise
more_days : (k y : ℕ) → days_before_year y ≤ days_before_year (y + k)
more_days zero y = omega (arith, ap days_before_year (let z : y + zero ≡ y = omega arith in z))
more_days (suc k) y =
    let e : y + suc k ≡ suc (y + k) = omega arith in
    omega (arith, ap days_before_year e, next_days (y + k), more_days k y)

more_months : (k y m : ℕ) → days_in_first_months y m ≤ days_in_first_months y (m + k)
more_months zero y m = omega (arith, ap (days_in_first_months y) (let z : m + zero ≡ m = omega arith in z))
more_months (suc k) y m =
    let e : m + suc k ≡ suc (m + k) = omega arith in
    omega (arith, ap (days_in_first_months y) e, next_month y (m + k), more_months k y m)

cases_eq : (a b : ℕ) → (a < b) ⊎ ((b < a) ⊎ (a ≡ b))
cases_eq a b = first (cases_lt a b)
  where
    first : (a < b) ⊎ (b ≤ a) → (a < b) ⊎ ((b < a) ⊎ (a ≡ b))
    first (inl lt) = inl lt
    first (inr le) = second (cases_lt b a)
      where
        second : (b < a) ⊎ (a ≤ b) → (a < b) ⊎ ((b < a) ⊎ (a ≡ b))
        second (inl lt) = inr (inl lt)
        second (inr ge) = inr (inr (omega (arith, le, ge)))

-- a later year comes after all days of an earlier one
below_year : (y z r s : ℕ) → y < z → r < year_days y → days_before_year y + r ≡ days_before_year z + s → ⊥
below_year y z r s lt w e =
    let d : suc y + (z - suc y) ≡ z = omega (arith, lt) in
    omega (arith, w, e, next_days y, more_days (z - suc y) (suc y), ap days_before_year d)

below_month : (y l m r s : ℕ) → l < m → r < month_days y (suc l) → days_in_first_months y l + r ≡ days_in_first_months y m + s → ⊥
below_month y l m r s lt w e =
    let d : suc l + (m - suc l) ≡ m = omega (arith, lt) in
    omega (arith, w, e, next_month y l, more_months (m - suc l) y (suc l), ap (days_in_first_months y) d)

same_year : (y z r s : ℕ) → r < year_days y → s < year_days z → days_before_year y + r ≡ days_before_year z + s → y ≡ z
same_year y z r s w v e = cases (cases_eq y z)
  where
    cases : (y < z) ⊎ ((z < y) ⊎ (y ≡ z)) → y ≡ z
    cases (inl lt) = absurd (below_year y z r s lt w e)
    cases (inr (inl lt)) = absurd (below_year z y s r lt v (sym e))
    cases (inr (inr same)) = same

same_month : (y l m r s : ℕ) → r < month_days y (suc l) → s < month_days y (suc m) → days_in_first_months y l + r ≡ days_in_first_months y m + s → l ≡ m
same_month y l m r s w v e = cases (cases_eq l m)
  where
    cases : (l < m) ⊎ ((m < l) ⊎ (l ≡ m)) → l ≡ m
    cases (inl lt) = absurd (below_month y l m r s lt w e)
    cases (inr (inl lt)) = absurd (below_month y m l s r lt v (sym e))
    cases (inr (inr same)) = same

-- ---- instants

-- the day of an instant, and the seconds in it
pub record IsSplit (z : ℤ) : Type 0 where
  pub low : pos (days_since_1900 (day_of_instant z)) ≡ day_of_instant z +ℤ pos 25567
  pub high : 693961 + days_since_1900 (day_of_instant z) < 3652060
  pub seconds : unsigned_abs (int_rem_euclid z (pos 86400)) < 86400
  pub same : day_of_instant z *ℤ pos 86400 +ℤ pos (unsigned_abs (int_rem_euclid z (pos 86400))) ≡ z

pub both : (a b : Bool) → (a && b) ≡ true → (a ≡ true) × (b ≡ true)
both true b h = (refl, h)
both false b h = absurd (cc)

pub split_is : (z : ℤ) → is_instant z ≡ true → IsSplit z
split_is (pos a) h =
    let r = both (int_le (neg_ℤ (pos 2208988800)) (pos a)) (int_le (pos a) (pos 253370764799)) h in
    let high : a ≤ 253370764799 = grind (arith, ints, nat_tests, r.1) in
    record {
      low = refl;
      high = omega arith;
      seconds = omega arith;
      same = omega (arith, ints);
    }
split_is (negsuc a) h =
    let r = both (int_le (neg_ℤ (pos 2208988800)) (negsuc a)) (int_le (negsuc a) (pos 253370764799)) h in
    let low : suc a ≤ 2208988800 = grind (arith, ints, nat_tests, r.0) in
    record {
      low = omega (arith, ints);
      high = omega (arith, ints);
      seconds = omega arith;
      same = omega (arith, ints);
    }

-- ---- the date of a day is the one with its number

-- the days of a year before a date
in_year : (y m d : ℕ) → 1 ≤ m → m ≤ 12 → 1 ≤ d → d ≤ month_days y m → days_in_first_months y (m - 1) + d - 1 < year_days y
in_year y m d some last one in_month =
    let s : suc (m - 1) ≡ m = omega arith in
    let k : m + (12 - m) ≡ 12 = omega arith in
    let n : days_in_first_months y m ≡ days_in_first_months y (m - 1) + month_days y m = rw s at (next_month y (m - 1)) in
    let all : days_in_first_months y m ≤ days_in_first_months y 12 = rw k at (more_months (12 - m) y m) in
    omega (arith, n, all, all_months y)

same_parts : (y m d y' m' d' : ℕ) → y ≡ y' → m ≡ m' → d ≡ d'
    → let a : Date = record { year = y; month = m; day = d } in let b : Date = record { year = y'; month = m'; day = d' } in a ≡ b
same_parts y m d y' m' d' e f g = rw (e, f, g) refl

same_date : (a b : Date) (n : ℕ) → IsFound n a → IsFound n b → a ≡ b
same_date a b n f g =
    let ra = in_year a.year a.month a.day f.some_month f.in_year f.some_day f.in_month in
    let rb = in_year b.year b.month b.day g.some_month g.in_year g.some_day g.in_month in
    let years = same_year a.year b.year (days_in_first_months a.year (a.month - 1) + a.day - 1) (days_in_first_months b.year (b.month - 1) + b.day - 1) ra rb (f.number ∙ sym g.number) in
    by_year a b n f g years
  where
    by_day : (a b : Date) (n : ℕ) → IsFound n a → IsFound n b → a.year ≡ b.year → a.month ≡ b.month → a ≡ b
    by_day a b n f g y m =
        let d : a.day ≡ b.day =
        let e = f.number ∙ sym g.number in
        let h = rw (y, m) at e in
        omega (arith, h, f.some_day, g.some_day) in
        same_parts a.year a.month a.day b.year b.month b.day y m d

    by_year : (a b : Date) (n : ℕ) → IsFound n a → IsFound n b → a.year ≡ b.year → a ≡ b
    by_year a b n f g y =
        let sa : suc (a.month - 1) ≡ a.month = omega (arith, f.some_month) in
        let sb : suc (b.month - 1) ≡ b.month = omega (arith, g.some_month) in
        let wa : a.day - 1 < month_days b.year (suc (a.month - 1)) = rw (sa, ← y) (omega (arith, f.in_month, f.some_day)) in
        let wb : b.day - 1 < month_days b.year (suc (b.month - 1)) = rw sb (omega (arith, g.in_month, g.some_day)) in
        let e = f.number ∙ sym g.number in
        let h = rw y at e in
        let m = same_month b.year (a.month - 1) (b.month - 1) (a.day - 1) (b.day - 1) wa wb (omega (arith, h, f.some_day, g.some_day)) in
        by_day a b n f g y (omega (arith, m, f.some_month, g.some_month))

-- what the calendar says of a date
pub record IsRead (y m d : ℕ) (day : ℤ) : Type 0 where
  pub first : 1900 ≤ y
  pub last : y ≤ 9998
  pub some_month : 1 ≤ m
  pub in_year : m ≤ 12
  pub some_day : 1 ≤ d
  pub in_month : d ≤ month_days y m
  pub same : day_number y m d ≡ day

guard : {A : Type 0} (b : Bool) (o : Option A) (x : A) → (if b then o else None) ≡ Some x → (b ≡ true) × (o ≡ Some x)
guard true o x h = (refl, h)
guard false o x h = absurd (cc)

at_most : (a b : ℕ) → nat_le a b ≡ true → a ≤ b
at_most a b h = grind (arith, nat_tests)

read_is : (y m d : ℕ) (day : ℤ) → day_of_date (pos y) m d ≡ Some day → IsRead y m d day
read_is y m d day h =
    let a = guard (nat_le 1900 y && nat_le y 9998) (checked_day_number y m d) day h in
    let years = both (nat_le 1900 y) (nat_le y 9998) a.0 in
    let b = guard (is_date y m d) (Some (day_number y m d)) day a.1 in
    let c = both (nat_le y 9999 && (nat_le 1 m && nat_le m 12)) (nat_le 1 d && nat_le d (month_days y m)) b.0 in
    let months = both (nat_le y 9999) (nat_le 1 m && nat_le m 12) c.0 in
    let month = both (nat_le 1 m) (nat_le m 12) months.1 in
    let days = both (nat_le 1 d) (nat_le d (month_days y m)) c.1 in
    record {
      first = at_most 1900 y years.0;
      last = at_most y 9998 years.1;
      some_month = at_most 1 m month.0;
      in_year = at_most m 12 month.1;
      some_day = at_most 1 d days.0;
      in_month = at_most d (month_days y m) days.1;
      same = let e : day_number y m d ≡ day = cc (b.1) in e;
    }

back : (y m d : ℕ) (day : ℤ) → IsRead y m d day → date_of_days_since_1900 (days_since_1900 day) ≡ record { year = y; month = m; day = d }
back y m d day r =
    let n = days_since_1900 day in
    let inside = in_year y m d r.some_month r.in_year r.some_day r.in_month in
    let k : 1900 + (y - 1900) ≡ y = omega (arith, r.first) in
    let low : days_before_year 1900 ≤ days_before_year y = rw k at (more_days (y - 1900) 1900) in
    let l : suc y + (9999 - suc y) ≡ 9999 = omega (arith, r.last) in
    let high : days_before_year (suc y) ≤ days_before_year 9999 = rw l at (more_days (9999 - suc y) (suc y)) in
    let at : pos (days_before_date y m d) -ℤ pos 719528 ≡ day = rw (ap (λ e. pos (days_before_date y m d) -ℤ pos e) (sym epoch)) r.same in
    let number : days_before_date y m d ≡ 693961 + n = rw (← at) (omega (arith, ints, low, first_year)) in
    let found : IsFound n (record { year = y; month = m; day = d }) = record {
      first = r.first;
      last = r.last;
      some_month = r.some_month;
      in_year = r.in_year;
      some_day = r.some_day;
      in_month = r.in_month;
      number = number;
    } in
    same_date (date_of_days_since_1900 n) (record { year = y; month = m; day = d }) n (date_is n (omega (arith, number, inside, high, past_years, next_days y))) found

-- the date of a day
pub date_back : (y : ℤ) (m d : ℕ) (day : ℤ) → day_of_date y m d ≡ Some day → date_of_days_since_1900 (days_since_1900 day) ≡ record { year = unsigned_abs y; month = m; day = d }
date_back (pos y) m d day h = back y m d day (read_is y m d day h)
date_back (negsuc y) m d day h = absurd (let e : None ≡ Some day = h in cc)
