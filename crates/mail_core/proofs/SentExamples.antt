-- Worked examples of sent dates and zones; the arrival is 2003-03-04 10:00:00.
use Rattle.std.proofs.Common.{◌≡◌, [], ◌∷◌, refl, codes, pos, negsuc, neg_ℤ, ◌++◌, Some, None}
use Rattle.mail_core.specs.Comments.{after_closing_paren, comment_byte_kind}
use Rattle.civil_time.specs.Calendar.{days_before_year, days_in_first_months}
use Rattle.mail_core.specs.DateTokens.{tokens_of, tokens_from, token_at, token_byte_kind}
use Rattle.civil_time.specs.Zones.{hours_west, zone_of}
use Rattle.mail_core.specs.Sent.{sent_date_of_body, date_at, leading_two_digit_second, time_at, signed_zone_at}
use Rattle.civil_time.specs.Names.{month_of_name}

-- Tue, 4 Mar 49 10:00 EST
rfc_zone : sent_date_of_body (codes "Tue, 4 Mar 49 10:00 EST") (pos 1046772000) ≡ pos 2498482800
unfolding tokens_of tokens_from token_at token_byte_kind date_at leading_two_digit_second time_at signed_zone_at month_of_name hours_west after_closing_paren comment_byte_kind
    days_before_year days_in_first_months
rfc_zone = refl

-- 4 Mar 50 10:00:00 GMT
two_digit_year : sent_date_of_body (codes "4 Mar 50 10:00:00 GMT") (pos 1046772000) ≡ negsuc 625759199
unfolding tokens_of tokens_from token_at token_byte_kind date_at leading_two_digit_second time_at signed_zone_at month_of_name hours_west after_closing_paren comment_byte_kind
    days_before_year days_in_first_months
two_digit_year = refl

-- 4 Mar 103 9:05 +0000 (CET)
three_digit_year : sent_date_of_body (codes "4 Mar 103 9:05 +0000 (CET)") (pos 1046772000) ≡ pos 1046768700
unfolding tokens_of tokens_from token_at token_byte_kind date_at leading_two_digit_second time_at signed_zone_at month_of_name hours_west after_closing_paren comment_byte_kind
    days_before_year days_in_first_months
three_digit_year = refl

-- 31 Dec 2000 16:01:33 -0800
west : sent_date_of_body (codes "31 Dec 2000 16:01:33 -0800") (pos 1046772000) ≡ pos 978307293
unfolding tokens_of tokens_from token_at token_byte_kind date_at leading_two_digit_second time_at signed_zone_at month_of_name hours_west after_closing_paren comment_byte_kind
    days_before_year days_in_first_months
west = refl

-- 4 Mar 2003 10:00:60 +0199
leap_second : sent_date_of_body (codes "4 Mar 2003 10:00:60 +0199") (pos 1046772000) ≡ pos 1046772059
unfolding tokens_of tokens_from token_at token_byte_kind date_at leading_two_digit_second time_at signed_zone_at month_of_name hours_west after_closing_paren comment_byte_kind
    days_before_year days_in_first_months
leap_second = refl

-- 5 Mar 2003 25:00 +0100
no_time : sent_date_of_body (codes "5 Mar 2003 25:00 +0100") (pos 1046772000) ≡ pos 1046822400
unfolding tokens_of tokens_from token_at token_byte_kind date_at leading_two_digit_second time_at signed_zone_at month_of_name hours_west after_closing_paren comment_byte_kind
    days_before_year days_in_first_months
no_time = refl

-- 30 Feb 2003 12:00 +0000
no_day : sent_date_of_body (codes "30 Feb 2003 12:00 +0000") (pos 1046772000) ≡ pos 1046772000
unfolding tokens_of tokens_from token_at token_byte_kind date_at leading_two_digit_second time_at signed_zone_at month_of_name hours_west after_closing_paren comment_byte_kind
    days_before_year days_in_first_months
no_day = refl

-- 4 Mar 12003 12:00
long_year : sent_date_of_body (codes "4 Mar 12003 12:00") (pos 1046772000) ≡ pos 1046772000
unfolding tokens_of tokens_from token_at token_byte_kind date_at leading_two_digit_second time_at signed_zone_at month_of_name hours_west after_closing_paren comment_byte_kind
    days_before_year days_in_first_months
long_year = refl

-- an empty body
nothing : sent_date_of_body (codes "") (pos 1046772000) ≡ pos 1046772000
unfolding tokens_of tokens_from token_at token_byte_kind date_at leading_two_digit_second time_at signed_zone_at month_of_name hours_west after_closing_paren comment_byte_kind
    days_before_year days_in_first_months
nothing = refl

-- 31 Dec 9998 23:00 -0200
past_the_years : sent_date_of_body (codes "31 Dec 9998 23:00 -0200") (pos 1046772000) ≡ pos 1046772000
unfolding tokens_of tokens_from token_at token_byte_kind date_at leading_two_digit_second time_at signed_zone_at month_of_name hours_west after_closing_paren comment_byte_kind
    days_before_year days_in_first_months
past_the_years = refl

-- Tue , 4 Mar 2003 10:00 +0000
spaced_comma : sent_date_of_body (codes "Tue , 4 Mar 2003 10:00 +0000") (pos 1046772000) ≡ pos 1046772000
unfolding tokens_of tokens_from token_at token_byte_kind date_at leading_two_digit_second time_at signed_zone_at month_of_name hours_west after_closing_paren comment_byte_kind
    days_before_year days_in_first_months
spaced_comma = refl

-- 4Mar2003 10:00EST
run_together : sent_date_of_body (codes "4Mar2003 10:00EST") (pos 1046772000) ≡ pos 1046790000
unfolding tokens_of tokens_from token_at token_byte_kind date_at leading_two_digit_second time_at signed_zone_at month_of_name hours_west after_closing_paren comment_byte_kind
    days_before_year days_in_first_months
run_together = refl

-- 4 Mar 2003 10:00 + 0100
spaced_zone : sent_date_of_body (codes "4 Mar 2003 10:00 + 0100") (pos 1046772000) ≡ pos 1046768400
unfolding tokens_of tokens_from token_at token_byte_kind date_at leading_two_digit_second time_at signed_zone_at month_of_name hours_west after_closing_paren comment_byte_kind
    days_before_year days_in_first_months
spaced_zone = refl

-- 4 Mar 2003 10:00:5 +0100
short_second : sent_date_of_body (codes "4 Mar 2003 10:00:5 +0100") (pos 1046772000) ≡ pos 1046736000
unfolding tokens_of tokens_from token_at token_byte_kind date_at leading_two_digit_second time_at signed_zone_at month_of_name hours_west after_closing_paren comment_byte_kind
    days_before_year days_in_first_months
short_second = refl

-- Mar 4 2003
month_first : sent_date_of_body (codes "Mar 4 2003") (pos 1046772000) ≡ pos 1046772000
unfolding tokens_of tokens_from token_at token_byte_kind date_at leading_two_digit_second time_at signed_zone_at month_of_name hours_west after_closing_paren comment_byte_kind
    days_before_year days_in_first_months
month_first = refl

-- 4 (a(b) Mar) Mar 2003 10:00 (\) UT
comment_between : sent_date_of_body (codes "4 (a(b) Mar) Mar 2003 10:00 (" ++ 92 ∷ codes ") UT") (pos 1046772000) ≡ pos 1046772000
unfolding tokens_of tokens_from token_at token_byte_kind date_at leading_two_digit_second time_at signed_zone_at month_of_name hours_west after_closing_paren comment_byte_kind
    days_before_year days_in_first_months
comment_between = refl

-- 31 Dec 9998 23:59:59 +0000
last : sent_date_of_body (codes "31 Dec 9998 23:59:59 +0000") (pos 1046772000) ≡ pos 253370764799
unfolding tokens_of tokens_from token_at token_byte_kind date_at leading_two_digit_second time_at signed_zone_at month_of_name hours_west after_closing_paren comment_byte_kind
    days_before_year days_in_first_months
last = refl

-- 1 Jan 9999 00:00
past_last : sent_date_of_body (codes "1 Jan 9999 00:00") (pos 1046772000) ≡ pos 1046772000
unfolding tokens_of tokens_from token_at token_byte_kind date_at leading_two_digit_second time_at signed_zone_at month_of_name hours_west after_closing_paren comment_byte_kind
    days_before_year days_in_first_months
past_last = refl

-- 1 Jan 9999 00:30 +0100
brought_in : sent_date_of_body (codes "1 Jan 9999 00:30 +0100") (pos 1046772000) ≡ pos 253370763000
unfolding tokens_of tokens_from token_at token_byte_kind date_at leading_two_digit_second time_at signed_zone_at month_of_name hours_west after_closing_paren comment_byte_kind
    days_before_year days_in_first_months
brought_in = refl

-- 1 Jan 1900 00:00
first : sent_date_of_body (codes "1 Jan 1900 00:00") (pos 1046772000) ≡ negsuc 2208988799
unfolding tokens_of tokens_from token_at token_byte_kind date_at leading_two_digit_second time_at signed_zone_at month_of_name hours_west after_closing_paren comment_byte_kind
    days_before_year days_in_first_months
first = refl

-- 31 Dec 1899 23:00 -0200
local_1899 : sent_date_of_body (codes "31 Dec 1899 23:00 -0200") (pos 1046772000) ≡ negsuc 2208985199
unfolding tokens_of tokens_from token_at token_byte_kind date_at leading_two_digit_second time_at signed_zone_at month_of_name hours_west after_closing_paren comment_byte_kind
    days_before_year days_in_first_months
local_1899 = refl

-- 31 Dec 1899 23:59:59
before_first : sent_date_of_body (codes "31 Dec 1899 23:59:59") (pos 1046772000) ≡ pos 1046772000
unfolding tokens_of tokens_from token_at token_byte_kind date_at leading_two_digit_second time_at signed_zone_at month_of_name hours_west after_closing_paren comment_byte_kind
    days_before_year days_in_first_months
before_first = refl

-- 4 Mar 0000 10:00
year_zero : sent_date_of_body (codes "4 Mar 0000 10:00") (pos 1046772000) ≡ pos 1046772000
unfolding tokens_of tokens_from token_at token_byte_kind date_at leading_two_digit_second time_at signed_zone_at month_of_name hours_west after_closing_paren comment_byte_kind
    days_before_year days_in_first_months
year_zero = refl

-- 4 Mar 49 and 4 Mar 50 are a hundred years apart but for one
year_49 : sent_date_of_body (codes "4 Mar 49 00:00") (pos 0) ≡ pos 2498428800
unfolding tokens_of tokens_from token_at token_byte_kind date_at leading_two_digit_second time_at signed_zone_at month_of_name hours_west after_closing_paren comment_byte_kind
    days_before_year days_in_first_months
year_49 = refl

-- a zone's hours are not limited
wide_zone : zone_of (codes "+9959") ≡ Some (pos 359940)
wide_zone = refl

west_zone : zone_of (codes "-0330") ≡ Some (neg_ℤ (pos 12600))
west_zone = refl

too_many_minutes : zone_of (codes "+0160") ≡ None
too_many_minutes = refl

no_digits : zone_of (codes "+01a0") ≡ None
no_digits = refl

named_zones : zone_of (codes "pSt") ≡ Some (neg_ℤ (pos 28800))
unfolding hours_west
named_zones = refl

any_letters : zone_of (codes "CEST") ≡ Some (pos 0)
unfolding hours_west
any_letters = refl

no_zone : zone_of [] ≡ None
no_zone = refl
