-- Worked examples of texts, of names and of times of day.
use Rattle.std.proofs.Common.{◌≡◌, pos, negsuc, neg_ℤ, refl, codes, map, [], ◌∷◌, true, false, Some, None}
use Rattle.civil_time.specs.Clock.{seconds_since_midnight, second_of_day}
use Rattle.civil_time.specs.Dates.{year_and_day_after, month_and_day_after, date_of_days_since_1900}
use Rattle.civil_time.specs.Digits.{parsed_one_or_two_digits, parsed_two_digits, parsed_four_digits}
use Rattle.civil_time.specs.Names.{month_of_name, is_day_name}
use Rattle.civil_time.specs.Texts.{day_text, hour_minute_text, instant_text, instant_month_text, month_text}

-- ---- texts

a_time : instant_text (pos 1046772000) ≡ codes "2003-03-04 10:00"
unfolding instant_text date_of_days_since_1900 year_and_day_after month_and_day_after
a_time = refl

-- the last second of a leap day
late : instant_text (pos 951868799) ≡ codes "2000-02-29 23:59"
unfolding instant_text date_of_days_since_1900 year_and_day_after month_and_day_after
late = refl

before_1970 : instant_text (negsuc 0) ≡ codes "1969-12-31 23:59"
unfolding instant_text date_of_days_since_1900 year_and_day_after month_and_day_after
before_1970 = refl

the_first : instant_text (negsuc 2208988799) ≡ codes "1900-01-01 00:00"
unfolding instant_text date_of_days_since_1900 year_and_day_after month_and_day_after
the_first = refl

a_month : instant_month_text (pos 1046772000) ≡ codes "2003-03"
unfolding instant_month_text date_of_days_since_1900 year_and_day_after month_and_day_after
a_month = refl

a_month_by_number : month_text 24038 ≡ codes "2003-03"
unfolding month_text
a_month_by_number = refl

a_december : month_text 24047 ≡ codes "2003-12"
unfolding month_text
a_december = refl

-- both ends of the days, and a leap day
the_first_day : day_text (neg_ℤ (pos 25567)) ≡ codes "1900-01-01"
unfolding date_of_days_since_1900 year_and_day_after month_and_day_after
the_first_day = refl

a_leap_day : day_text (pos 11016) ≡ codes "2000-02-29"
unfolding date_of_days_since_1900 year_and_day_after month_and_day_after
a_leap_day = refl

the_last_day : day_text (pos 2932531) ≡ codes "9998-12-31"
unfolding date_of_days_since_1900 year_and_day_after month_and_day_after
the_last_day = refl

times_of_day : map (λ instant. hour_minute_text (second_of_day instant)) (pos 0 ∷ pos 59 ∷ pos 60 ∷ pos 3599 ∷ pos 3600 ∷ pos 86399 ∷ negsuc 0 ∷ [])
    ≡ codes "00:00" ∷ codes "00:00" ∷ codes "00:01" ∷ codes "00:59" ∷ codes "01:00" ∷ codes "23:59" ∷ codes "23:59" ∷ []
times_of_day = refl

-- ---- times of day

a_time_of_day : seconds_since_midnight 10 30 5 ≡ Some 37805
a_time_of_day = refl

-- a second 60 is read as 59, and no hour 24, no minute 60, no second 61
a_leap_second : seconds_since_midnight 23 59 60 ≡ Some 86399
a_leap_second = refl

no_hour : seconds_since_midnight 24 0 0 ≡ None
no_hour = refl

no_minute : seconds_since_midnight 0 60 0 ≡ None
no_minute = refl

no_second : seconds_since_midnight 0 0 61 ≡ None
no_second = refl

-- ---- numbers and names

some_numbers : parsed_one_or_two_digits (codes "7") ∷ parsed_one_or_two_digits (codes "07") ∷ parsed_two_digits (codes "07") ∷ parsed_four_digits (codes "2003") ∷ []
    ≡ Some 7 ∷ Some 7 ∷ Some 7 ∷ Some 2003 ∷ []
some_numbers = refl

no_numbers : parsed_one_or_two_digits (codes "") ∷ parsed_one_or_two_digits (codes "123") ∷ parsed_one_or_two_digits (codes "a1") ∷ parsed_two_digits (codes "7") ∷ parsed_four_digits (codes "203") ∷ []
    ≡ None ∷ None ∷ None ∷ None ∷ None ∷ []
no_numbers = refl

some_months : map month_of_name (codes "Jan" ∷ codes "fEB" ∷ codes "DEC" ∷ codes "Sept" ∷ codes "" ∷ []) ≡ Some 1 ∷ Some 2 ∷ Some 12 ∷ None ∷ None ∷ []
unfolding month_of_name
some_months = refl

some_weekdays : map is_day_name (codes "Mon" ∷ codes "sUN" ∷ codes "Sonntag" ∷ codes "Jan" ∷ []) ≡ true ∷ true ∷ false ∷ false ∷ []
unfolding is_day_name
some_weekdays = refl
