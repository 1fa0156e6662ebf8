-- Worked examples of the calendar: what its definitions say of known dates.
use Rattle.std.proofs.Common.{◌≡◌, pos, negsuc, neg_ℤ, true, false, refl, Some, None, [], ◌∷◌, map}
use Rattle.std.specs.Prelude.{codes}
use Rattle.civil_time.specs.Calendar.{is_leap, month_days, days_before_year, days_in_first_months, checked_day_number, is_day, day_of_date, day_of_text, weekday}
use Rattle.civil_time.specs.Calendar.{is_instant, checked_instant, day_of_instant, is_month, month_start, is_in_month, month_of_text}

-- 1900 was no leap year, 2000 was one, 2003 was none
leap_years : map is_leap (1900 ∷ 2000 ∷ 2003 ∷ 2004 ∷ []) ≡ false ∷ true ∷ false ∷ true ∷ []
leap_years = refl

lengths_of_february : map (λ y. month_days y 2) (1900 ∷ 2000 ∷ 2003 ∷ []) ≡ 28 ∷ 29 ∷ 28 ∷ []
lengths_of_february = refl

the_epoch : day_of_date (pos 1970) 1 1 ≡ Some (pos 0)
unfolding days_before_year days_in_first_months
the_epoch = refl

the_epoch_was_a_thursday : weekday (pos 0) ≡ 3
the_epoch_was_a_thursday = refl

the_day_before_the_epoch : day_of_date (pos 1969) 12 31 ≡ Some (negsuc 0)
unfolding days_before_year days_in_first_months
the_day_before_the_epoch = refl

its_weekday : weekday (negsuc 0) ≡ 2
its_weekday = refl

a_tuesday : day_of_date (pos 2003) 3 4 ≡ Some (pos 12115)
unfolding days_before_year days_in_first_months
a_tuesday = refl

its_number : weekday (pos 12115) ≡ 1
its_number = refl

leap_day_of_2000 : day_of_date (pos 2000) 2 29 ≡ Some (pos 11016)
unfolding days_before_year days_in_first_months
leap_day_of_2000 = refl

no_leap_day_in_1900 : day_of_date (pos 1900) 2 29 ≡ None
unfolding days_before_year days_in_first_months
no_leap_day_in_1900 = refl

no_thirtieth_of_february : day_of_date (pos 2003) 2 30 ≡ None
unfolding days_before_year days_in_first_months
no_thirtieth_of_february = refl

-- the first day, a Monday, and the day before it, which the calendar has and the archive not
the_first_day : day_of_date (pos 1900) 1 1 ≡ Some (neg_ℤ (pos 25567))
unfolding days_before_year days_in_first_months
the_first_day = refl

before_the_first_day : day_of_date (pos 1899) 12 31 ≡ None
unfolding days_before_year days_in_first_months
before_the_first_day = refl

its_day_number : checked_day_number 1899 12 31 ≡ Some (neg_ℤ (pos 25568))
unfolding days_before_year days_in_first_months
its_day_number = refl

first_day_is_day : map is_day (neg_ℤ (pos 25568) ∷ neg_ℤ (pos 25567) ∷ pos 2932531 ∷ pos 2932532 ∷ []) ≡ false ∷ true ∷ true ∷ false ∷ []
first_day_is_day = refl

the_last_day : day_of_date (pos 9998) 12 31 ≡ Some (pos 2932531)
unfolding days_before_year days_in_first_months
the_last_day = refl

after_the_last_day : day_of_date (pos 9999) 1 1 ≡ None
unfolding days_before_year days_in_first_months
after_the_last_day = refl

years_before_the_first : day_of_date (negsuc 1999) 3 4 ≡ None
years_before_the_first = refl

a_text : day_of_text (codes "2003-03-04") ≡ Some (pos 12115)
unfolding days_before_year days_in_first_months
a_text = refl

a_text_without_digits : day_of_text (codes "2003-3-4") ≡ None
a_text_without_digits = refl

a_text_with_more : day_of_text (codes "2003-03-04 ") ≡ None
a_text_with_more = refl

a_text_with_slashes : day_of_text (codes "2003/03/04") ≡ None
a_text_with_slashes = refl

a_text_with_a_letter : day_of_text (codes "2003-o3-04") ≡ None
a_text_with_a_letter = refl

a_text_that_is_no_date : day_of_text (codes "2003-02-29") ≡ None
unfolding days_before_year days_in_first_months
a_text_that_is_no_date = refl

a_text_of_no_year : day_of_text (codes "9999-01-01") ≡ None
unfolding days_before_year days_in_first_months
a_text_of_no_year = refl

-- both ends of the instants, and a second beyond each
the_instants : map is_instant (neg_ℤ (pos 2208988801) ∷ neg_ℤ (pos 2208988800) ∷ pos 253370764799 ∷ pos 253370764800 ∷ []) ≡ false ∷ true ∷ true ∷ false ∷ []
the_instants = refl

no_instant : checked_instant (pos 253370764800) ≡ None
no_instant = refl

-- the day of an instant is rounded down
days_of_instants : map day_of_instant (neg_ℤ (pos 2208988800) ∷ negsuc 0 ∷ pos 0 ∷ pos 86399 ∷ pos 86400 ∷ pos 253370764799 ∷ [])
    ≡ neg_ℤ (pos 25567) ∷ negsuc 0 ∷ pos 0 ∷ pos 0 ∷ pos 1 ∷ pos 2932531 ∷ []
days_of_instants = refl

-- months: their first days, and which days lie in them
march_2003 : month_of_text (codes "2003-03") ≡ Some 24038
march_2003 = refl

no_months : map month_of_text (codes "2003-13" ∷ codes "2003-00" ∷ codes "1899-12" ∷ codes "9999-01" ∷ codes "2003-3" ∷ codes "2003/03" ∷ codes "2003-03-04" ∷ [])
    ≡ None ∷ None ∷ None ∷ None ∷ None ∷ None ∷ None ∷ []
no_months = refl

first_and_last_month : map month_of_text (codes "1900-01" ∷ codes "9998-12" ∷ []) ≡ Some 22800 ∷ Some 119987 ∷ []
first_and_last_month = refl

months_of_the_archive : map is_month (22799 ∷ 22800 ∷ 119987 ∷ 119988 ∷ []) ≡ false ∷ true ∷ true ∷ false ∷ []
months_of_the_archive = refl

start_of_march : month_start 24038 ≡ pos 12112
unfolding days_before_year days_in_first_months
start_of_march = refl

-- 28 February, 1 March, 31 March and 1 April 2003
days_of_march : map (is_in_month 24038) (pos 12111 ∷ pos 12112 ∷ pos 12142 ∷ pos 12143 ∷ []) ≡ false ∷ true ∷ true ∷ false ∷ []
unfolding days_before_year days_in_first_months
days_of_march = refl

-- 31 December 1969 lies in December, and 1 January 1970 in January
around_the_epoch : map (is_in_month 23639) (negsuc 0 ∷ pos 0 ∷ []) ≡ true ∷ false ∷ []
unfolding days_before_year days_in_first_months
around_the_epoch = refl
