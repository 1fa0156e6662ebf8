-- Separator lines (RFC 4155, appendix A). profile: also runs of spaces, `hh:mm`, a second 60, a zone before the year, and
-- as the sender any token, or two with `at` between them, since mail tools write all of these.
use Rattle.std.specs.Prelude.{◌≡◌, ℕ, ◌+◌, ◌==◌, Bool, true, false, not, ◌&&◌, List, [], ◌∷◌, ◌++◌, length, take, drop, slice_index, if◌then◌else◌, Option, Some, None, ℤ, pos, ◌+ℤ◌, ◌-ℤ◌, ◌*ℤ◌, codes}
use Rattle.std.specs.List.{list_any}
use Rattle.std.specs.Str.{bytes_eq}
use Rattle.mail_core.specs.Lines.{onto_first_line}
use Rattle.civil_time.specs.Calendar.{checked_day_number, checked_instant}
use Rattle.civil_time.specs.Clock.{seconds_since_midnight}
use Rattle.civil_time.specs.Digits.{two_digit_number, parsed_one_or_two_digits, parsed_four_digits}
use Rattle.civil_time.specs.Names.{month_of_name, is_day_name}
use Rattle.civil_time.specs.Zones.{zone_of}

-- whether a text begins with a byte of a token
abbrev pub begins_token : List ℕ → Bool
begins_token [] = false
begins_token (b ∷ bs) = not (b == 32)

-- the maximal runs of bytes that are no spaces
unfoldable pub tokens : List ℕ → List (List ℕ)
tokens [] = []
tokens (b ∷ bs) = if b == 32 then tokens bs else (if begins_token bs then onto_first_line b (tokens bs) else (b ∷ []) ∷ tokens bs)

infixl 10 ◌>>=◌
abbrev pub ◌>>=◌ : {A B : Type 0} → Option A → (A → Option B) → Option B
None >>= f = None
(Some x) >>= f = f x

-- the number that two digits at this place write
abbrev pub two_digit_number_at : List ℕ → ℕ → Option ℕ
two_digit_number_at t i = two_digit_number (slice_index t i) (slice_index t (i + 1))

-- a day of one or two digits
unfoldable pub parsed_day_of_month : List ℕ → Option ℕ
parsed_day_of_month t = parsed_one_or_two_digits t

-- the seconds of a time, 0 where it has none
abbrev pub parsed_seconds_part : List ℕ → Option ℕ
parsed_seconds_part t = if length t == 5 then Some 0 else (if length t == 8 && slice_index t 5 == 58 then two_digit_number_at t 6 else None)

-- `hh:mm` or `hh:mm:ss`: hours to 23, minutes to 59, seconds to 60, of which the last is read as 59
unfoldable pub parsed_time_of_day : List ℕ → Option ℕ
parsed_time_of_day t = do
  hour ← two_digit_number_at t 0
  minute ← two_digit_number_at t 3
  second ← parsed_seconds_part t
  if slice_index t 2 == 58 then seconds_since_midnight hour minute second else None

-- four digits
unfoldable pub parsed_four_digit_year : List ℕ → Option ℕ
parsed_four_digit_year t = parsed_four_digits t

-- a token of a sender: any run of bytes, but of no space and no LF, and not empty
abbrev pub is_sender_token : List ℕ → Bool
is_sender_token t = not (length t == 0) && (not (list_any (λ b. b == 32) t) && not (list_any (λ b. b == 10) t))

-- words with one space between them
abbrev pub joined_by_spaces : List (List ℕ) → List ℕ
joined_by_spaces [] = []
joined_by_spaces (word ∷ []) = word
joined_by_spaces (word ∷ next ∷ words) = word ++ 32 ∷ joined_by_spaces (next ∷ words)

-- the tokens of a sender: one, or two with the word `at` between them, in small letters
abbrev pub AreSenderTokens : List (List ℕ) → Type 0
AreSenderTokens (token ∷ []) = is_sender_token token ≡ true
AreSenderTokens (left ∷ word ∷ right ∷ []) = (is_sender_token left ≡ true) × (word ≡ codes "at") × (is_sender_token right ≡ true)
AreSenderTokens _ = ⊥

-- these tokens say a sender with this written form: they stand in it with one space between them
abbrev pub AreTokensOfSender : List (List ℕ) → List ℕ → Type 0
AreTokensOfSender who text = AreSenderTokens who × (text ≡ joined_by_spaces who)

-- the written form of a sender
abbrev pub IsSenderText : List ℕ → Type 0
IsSenderText text = (who : List (List ℕ)) × AreTokensOfSender who text

-- how many seconds east of UTC a time is, by its zone; without a zone it is in UTC
abbrev pub seconds_east_of_utc : List (List ℕ) → Option ℤ
seconds_east_of_utc [] = Some (pos 0)
seconds_east_of_utc (text ∷ []) = zone_of text
seconds_east_of_utc _ = None

-- the instant at which it is so many seconds after the day begins, so many seconds east of UTC
unfoldable pub instant_of_local_time : ℤ → ℕ → ℤ → Option ℤ
instant_of_local_time day seconds east = checked_instant (day *ℤ pos 86400 +ℤ pos seconds -ℤ east)

-- who sent a message, as it is written, and when it came: seconds since 1970-01-01 00:00:00 UTC
pub record Envelope : Type 0 where
  pub sender : List ℕ
  pub arrival : ℤ

-- Tokens say this arrival: a weekday, which is not compared, a date that the calendar has, a time of day and its zone.
pub record IsArrival (weekday month_name day_text time_text : List ℕ) (zone : List (List ℕ)) (year_text : List ℕ) (arrival : ℤ) : Type 0 where
  pub weekday_is_day_name : is_day_name weekday ≡ true
  pub month : ℕ
  pub is_month : month_of_name month_name ≡ Some month
  pub day : ℕ
  pub is_day : parsed_day_of_month day_text ≡ Some day
  pub seconds : ℕ
  pub is_time : parsed_time_of_day time_text ≡ Some seconds
  pub east : ℤ
  pub is_zone : seconds_east_of_utc zone ≡ Some east
  pub year : ℕ
  pub is_year : parsed_four_digit_year year_text ≡ Some year
  pub day_number : ℤ
  pub date_exists : checked_day_number year month day ≡ Some day_number
  pub instant : instant_of_local_time day_number seconds east ≡ Some arrival

-- A content says this envelope: `From `, and then six to nine tokens between runs of spaces, which are one or three of a
-- sender, a weekday, a month, a day, a time, a zone or none, and a year.
pub record IsSeparator (said : List ℕ) (envelope : Envelope) : Type 0 where
  pub after_from : List ℕ
  pub begins_with_from : said ≡ codes "From " ++ after_from
  pub sender_tokens : List (List ℕ)
  pub weekday : List ℕ
  pub month_name : List ℕ
  pub day_text : List ℕ
  pub time_text : List ℕ
  pub zone : List (List ℕ)
  pub year_text : List ℕ
  pub are_tokens : tokens after_from ≡ sender_tokens ++ (weekday ∷ month_name ∷ day_text ∷ time_text ∷ (zone ++ (year_text ∷ [])))
  pub are_sender_tokens : AreTokensOfSender sender_tokens envelope.sender
  pub is_arrival : IsArrival weekday month_name day_text time_text zone year_text envelope.arrival

-- ---- the same, computed

-- the arrival that tokens say, where a time is so many seconds east of UTC
unfoldable pub arrival_of : List ℕ → List ℕ → List ℕ → List ℕ → Option ℤ → List ℕ → Option ℤ
arrival_of weekday month_name day_text time_text offset year_text =
    if is_day_name weekday then (do
      month ← month_of_name month_name
      day ← parsed_day_of_month day_text
      seconds ← parsed_time_of_day time_text
      east ← offset
      year ← parsed_four_digit_year year_text
      number ← checked_day_number year month day
      instant_of_local_time number seconds east) else None

-- a sender of one token, and one of three, with an arrival
unfoldable pub envelope_of_one_token : List ℕ → Option ℤ → Option Envelope
envelope_of_one_token token when = if is_sender_token token then (do
  arrival ← when
  Some (record { sender = token; arrival = arrival })) else None

unfoldable pub envelope_of_two_tokens : List ℕ → List ℕ → List ℕ → Option ℤ → Option Envelope
envelope_of_two_tokens left word right when = if is_sender_token left && (bytes_eq word (codes "at") && is_sender_token right) then (do
  arrival ← when
  Some (record { sender = joined_by_spaces (left ∷ word ∷ right ∷ []); arrival = arrival })) else None

-- the envelope that six to nine tokens say
unfoldable pub envelope_of : List (List ℕ) → Option Envelope
envelope_of (a ∷ b ∷ c ∷ d ∷ e ∷ f ∷ []) = envelope_of_one_token a (arrival_of b c d e (Some (pos 0)) f)
envelope_of (a ∷ b ∷ c ∷ d ∷ e ∷ f ∷ g ∷ []) = envelope_of_one_token a (arrival_of b c d e (zone_of f) g)
envelope_of (a ∷ b ∷ c ∷ d ∷ e ∷ f ∷ g ∷ h ∷ []) = envelope_of_two_tokens a b c (arrival_of d e f g (Some (pos 0)) h)
envelope_of (a ∷ b ∷ c ∷ d ∷ e ∷ f ∷ g ∷ h ∷ i ∷ []) = envelope_of_two_tokens a b c (arrival_of d e f g (zone_of h) i)
envelope_of _ = None

-- The envelope of a separator line (RFC 4155, appendix A), given without its line end; None for any other line.
-- Profile: so for one whose arrival lies outside the years 1900 to 9998.
unfoldable pub separator_of : List ℕ → Option Envelope
separator_of said = if bytes_eq (take 5 said) (codes "From ") then envelope_of (tokens (drop 5 said)) else None
