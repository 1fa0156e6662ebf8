-- The sent date of a Date body: RFC 5322 sections 3.3 and 4.3; RFC 5256 section 2.2, where the arrival stands for
-- INTERNALDATE. Profile: a body that is no date, or of no instant, gives the arrival.
use Rattle.std.specs.Prelude.{ℕ, ◌+◌, ◌*◌, nat_le, List, [], ◌∷◌, Option, Some, None, unwrap_or, if◌then◌else◌, ℤ, pos, ◌-ℤ◌, ◌+ℤ◌, ◌*ℤ◌}
use Rattle.mail_core.specs.Bytes.{comma, colon}
use Rattle.civil_time.specs.Calendar.{checked_day_number, checked_instant}
use Rattle.civil_time.specs.Clock.{seconds_since_midnight}
use Rattle.civil_time.specs.Digits.{decimal_digit_value, two_digit_number, four_digit_number, parsed_one_or_two_digits, parsed_two_digits}
use Rattle.mail_core.specs.DateTokens.{Token, tokens_of, leading_digits_token, leading_letters_token, leading_byte_token, after_byte_token}
use Rattle.civil_time.specs.Names.{month_of_name}
use Rattle.civil_time.specs.Zones.{signed_zone, zone_of}

infixl 10 ◌>>=◌
abbrev pub ◌>>=◌ : {A B : Type 0} → Option A → (A → Option B) → Option B
None >>= f = None
(Some x) >>= f = f x

-- a year of two digits: 00 to 49 are 2000 to 2049, 50 to 99 are 1950 to 1999
abbrev pub year_of_two_digits : ℕ → ℕ
year_of_two_digits n = if nat_le n 49 then 2000 + n else 1900 + n

-- a year of two, three or four digits; one of three adds 1900
abbrev pub year_of_digits : List ℕ → Option ℕ
year_of_digits (a ∷ b ∷ []) = do
  n ← two_digit_number a b
  Some (year_of_two_digits n)
year_of_digits (a ∷ b ∷ c ∷ []) = do
  high ← decimal_digit_value a
  low ← two_digit_number b c
  Some (1900 + (100 * high + low))
year_of_digits (a ∷ b ∷ c ∷ d ∷ []) = four_digit_number a b c d
year_of_digits _ = None

-- the first token is left out where it is letters, and a comma behind it: the weekday is not read
abbrev pub without_comma : List Token → List Token
without_comma ts = unwrap_or (after_byte_token comma ts) ts

abbrev pub without_weekday : List Token → List Token
without_weekday ts = elim (leading_letters_token ts) [ None ↦ ts | Some word ↦ without_comma word.1 ]

-- day, month and year of a day that exists: its number, and what follows
unfoldable pub date_at : List Token → Option (ℤ × List Token)
date_at ts = do
  day ← leading_digits_token ts
  month ← leading_letters_token day.1
  year ← leading_digits_token month.1
  y ← year_of_digits year.0
  m ← month_of_name month.0
  d ← parsed_one_or_two_digits day.0
  number ← checked_day_number y m d
  Some (number, year.1)

-- a second of two digits
unfoldable pub leading_two_digit_second : List Token → Option (ℕ × List Token)
leading_two_digit_second ts = do
  second ← leading_digits_token ts
  n ← parsed_two_digits second.0
  Some (n, second.1)

-- the second behind a second colon, 0 where there is none
abbrev pub second_after_colon : List Token → Option (ℕ × List Token)
second_after_colon ts = elim (after_byte_token colon ts) [ None ↦ Some (0, ts) | Some rest ↦ leading_two_digit_second rest ]

-- hour, minute and second: the seconds since 00:00:00, and what follows
unfoldable pub time_at : List Token → Option (ℕ × List Token)
time_at ts = do
  hour ← leading_digits_token ts
  rest ← after_byte_token colon hour.1
  minute ← leading_digits_token rest
  h ← parsed_one_or_two_digits hour.0
  m ← parsed_two_digits minute.0
  second ← second_after_colon minute.1
  seconds ← seconds_since_midnight h m second.0
  Some (seconds, second.1)

-- a sign and digits
unfoldable pub signed_zone_at : List Token → Option ℤ
signed_zone_at ts = do
  sign ← leading_byte_token ts
  ds ← leading_digits_token sign.1
  signed_zone sign.0 ds.0

-- a zone: letters, or a sign and digits
abbrev pub zone_at : List Token → Option ℤ
zone_at ts = elim (leading_letters_token ts) [ Some word ↦ zone_of word.0 | None ↦ signed_zone_at ts ]

-- The seconds since the day's 00:00:00 in UTC, by the first case that holds: no valid time, then the day begins; no
-- valid zone, then the time is UTC; all valid.
abbrev pub utc_seconds_of_time : List Token → ℤ
utc_seconds_of_time ts = elim (time_at ts) [
  | None ↦ pos 0
  | Some time ↦ pos time.0 -ℤ unwrap_or (zone_at time.1) (pos 0)
]

-- the instant, and the arrival where there is no valid date or the years of instants do not have it
abbrev pub sent_date_of_tokens : List Token → ℤ → ℤ
sent_date_of_tokens ts arrival = elim (date_at (without_weekday ts)) [
  | None ↦ arrival
  | Some date ↦ unwrap_or (checked_instant ((date.0 *ℤ pos 86_400) +ℤ utc_seconds_of_time date.1)) arrival
]

-- the sent date (RFC 5256 section 2.2) by a Date body and the arrival, both in seconds since 1970-01-01 00:00:00 UTC: a zone
-- that is not valid counts as UTC, a time as 00:00:00 UTC, and for a date that is not valid the arrival stands
abbrev pub sent_date_of_body : List ℕ → ℤ → ℤ
sent_date_of_body body arrival = sent_date_of_tokens (tokens_of body) arrival
