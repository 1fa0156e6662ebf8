-- Worked examples of the definitions.
use Rattle.std.proofs.Common.{◌≡◌, [], ◌∷◌, refl, Some, None, pos, negsuc, codes, subst, true}
use Rattle.civil_time.specs.Calendar.{days_before_year, days_in_first_months}
use Rattle.mbox_items.specs.Written.{separator_line_text, time_text, written}
use Rattle.civil_time.specs.Dates.{date_of_days_since_1900, year_and_day_after, month_and_day_after}
use Rattle.mail_core.specs.Lines.{lines, content}
use Rattle.mbox_items.specs.Separator.{tokens, parsed_day_of_month, parsed_time_of_day, parsed_four_digit_year, instant_of_local_time}
use Rattle.mbox_items.specs.Separator.{arrival_of, envelope_of_one_token, envelope_of_two_tokens, envelope_of, separator_of}
use Rattle.civil_time.specs.Names.{month_of_name, is_day_name}
use Rattle.civil_time.specs.Zones.{hours_west}
use Rattle.mbox_items.specs.Division.{DividesIntoItems, items_of, front_and_items_of_lines, item_text_of_lines, whole}
use Rattle.mbox_core.proofs.DivisionLaws.{front_divides}

two_lines : lines (codes "ab\n\nc") ≡ codes "ab\n" ∷ codes "\n" ∷ codes "c" ∷ []
unfolding lines
two_lines = refl

crlf : content (codes "ab\r\n") ≡ codes "ab"
unfolding content
crlf = refl

separator_one : separator_of (codes "From a@b Tue Mar  4 10:00:00 2003") ≡ Some (record { sender = codes "a@b"; arrival = pos 1046772000 })
unfolding separator_of envelope_of envelope_of_one_token envelope_of_two_tokens arrival_of instant_of_local_time is_day_name month_of_name parsed_four_digit_year parsed_time_of_day
    parsed_day_of_month tokens days_before_year days_in_first_months
separator_one = refl

-- no seconds, and a dash for a sender
separator_short : separator_of (codes "From - Tue Mar  4 10:00 2003") ≡ Some (record { sender = codes "-"; arrival = pos 1046772000 })
unfolding separator_of envelope_of envelope_of_one_token envelope_of_two_tokens arrival_of instant_of_local_time is_day_name month_of_name parsed_four_digit_year parsed_time_of_day
    parsed_day_of_month tokens days_before_year days_in_first_months
separator_short = refl

-- seven tokens, of which the third is no weekday
separator_none : separator_of (codes "From a b Tue Mar 4 10:00:00 2003") ≡ None
unfolding separator_of envelope_of envelope_of_one_token envelope_of_two_tokens arrival_of instant_of_local_time is_day_name month_of_name parsed_four_digit_year parsed_time_of_day
    parsed_day_of_month tokens days_before_year days_in_first_months
separator_none = refl

-- two tokens with `at` between them: what is written has one space at each side of it
separator_at : separator_of (codes "From anna at example.org  Tue Mar  4 10:00:00 2003") ≡ Some (record { sender = codes "anna at example.org"; arrival = pos 1046772000 })
unfolding separator_of envelope_of envelope_of_one_token envelope_of_two_tokens arrival_of instant_of_local_time is_day_name month_of_name parsed_four_digit_year parsed_time_of_day
    parsed_day_of_month tokens hours_west days_before_year days_in_first_months
separator_at = refl

separator_at_spaces : separator_of (codes "From  anna  at   example.org Tue Mar 4 10:00 2003") ≡ Some (record { sender = codes "anna at example.org"; arrival = pos 1046772000 })
unfolding separator_of envelope_of envelope_of_one_token envelope_of_two_tokens arrival_of instant_of_local_time is_day_name month_of_name parsed_four_digit_year parsed_time_of_day
    parsed_day_of_month tokens hours_west days_before_year days_in_first_months
separator_at_spaces = refl

-- the word is `at` in small letters, and stands between two tokens
separator_at_large : separator_of (codes "From anna AT example.org Tue Mar 4 10:00:00 2003") ≡ None
unfolding separator_of envelope_of envelope_of_one_token envelope_of_two_tokens arrival_of instant_of_local_time is_day_name month_of_name parsed_four_digit_year parsed_time_of_day
    parsed_day_of_month tokens hours_west days_before_year days_in_first_months
separator_at_large = refl

-- a zone east of UTC, and one west of it with a sender of two tokens: nine tokens
separator_zone : separator_of (codes "From 12@xxx Tue Mar 04 10:00:00 +0100 2003") ≡ Some (record { sender = codes "12@xxx"; arrival = pos 1046768400 })
unfolding separator_of envelope_of envelope_of_one_token envelope_of_two_tokens arrival_of instant_of_local_time is_day_name month_of_name parsed_four_digit_year parsed_time_of_day
    parsed_day_of_month tokens hours_west days_before_year days_in_first_months
separator_zone = refl

separator_nine : separator_of (codes "From anna at example.org Tue Mar 4 10:00 -0130 2003") ≡ Some (record { sender = codes "anna at example.org"; arrival = pos 1046777400 })
unfolding separator_of envelope_of envelope_of_one_token envelope_of_two_tokens arrival_of instant_of_local_time is_day_name month_of_name parsed_four_digit_year parsed_time_of_day
    parsed_day_of_month tokens hours_west days_before_year days_in_first_months
separator_nine = refl

separator_pacific : separator_of (codes "From a@b Tue Mar 4 10:00:00 pst 2003") ≡ Some (record { sender = codes "a@b"; arrival = pos 1046800800 })
unfolding separator_of envelope_of envelope_of_one_token envelope_of_two_tokens arrival_of instant_of_local_time is_day_name month_of_name parsed_four_digit_year parsed_time_of_day
    parsed_day_of_month tokens hours_west days_before_year days_in_first_months
separator_pacific = refl

-- a zone that is none, a zone behind the year, and ten tokens
separator_no_zone : separator_of (codes "From a@b Tue Mar 4 10:00:00 +0160 2003") ≡ None
unfolding separator_of envelope_of envelope_of_one_token envelope_of_two_tokens arrival_of instant_of_local_time is_day_name month_of_name parsed_four_digit_year parsed_time_of_day
    parsed_day_of_month tokens hours_west days_before_year days_in_first_months
separator_no_zone = refl

separator_zone_last : separator_of (codes "From a@b Tue Mar 4 10:00:00 2003 +0100") ≡ None
unfolding separator_of envelope_of envelope_of_one_token envelope_of_two_tokens arrival_of instant_of_local_time is_day_name month_of_name parsed_four_digit_year parsed_time_of_day
    parsed_day_of_month tokens hours_west days_before_year days_in_first_months
separator_zone_last = refl

separator_ten : separator_of (codes "From anna at example.org Tue Mar 4 10:00:00 +0100 2003 x") ≡ None
unfolding separator_of envelope_of envelope_of_one_token envelope_of_two_tokens arrival_of instant_of_local_time is_day_name month_of_name parsed_four_digit_year parsed_time_of_day
    parsed_day_of_month tokens hours_west days_before_year days_in_first_months
separator_ten = refl

-- local years 1899 and 9999 that the zone brings into range, and the same without it
separator_first : separator_of (codes "From - Sun Dec 31 23:30:00 -0030 1899") ≡ Some (record { sender = codes "-"; arrival = negsuc 2208988799 })
unfolding separator_of envelope_of envelope_of_one_token envelope_of_two_tokens arrival_of instant_of_local_time is_day_name month_of_name parsed_four_digit_year parsed_time_of_day
    parsed_day_of_month tokens hours_west days_before_year days_in_first_months
separator_first = refl

separator_last : separator_of (codes "From - Fri Jan 1 00:29:59 +0030 9999") ≡ Some (record { sender = codes "-"; arrival = pos 253370764799 })
unfolding separator_of envelope_of envelope_of_one_token envelope_of_two_tokens arrival_of instant_of_local_time is_day_name month_of_name parsed_four_digit_year parsed_time_of_day
    parsed_day_of_month tokens hours_west days_before_year days_in_first_months
separator_last = refl

separator_early : separator_of (codes "From - Sun Dec 31 23:30:00 1899") ≡ None
unfolding separator_of envelope_of envelope_of_one_token envelope_of_two_tokens arrival_of instant_of_local_time is_day_name month_of_name parsed_four_digit_year parsed_time_of_day
    parsed_day_of_month tokens hours_west days_before_year days_in_first_months
separator_early = refl

separator_late : separator_of (codes "From - Fri Jan 1 00:30:00 +0030 9999") ≡ None
unfolding separator_of envelope_of envelope_of_one_token envelope_of_two_tokens arrival_of instant_of_local_time is_day_name month_of_name parsed_four_digit_year parsed_time_of_day
    parsed_day_of_month tokens hours_west days_before_year days_in_first_months
separator_late = refl

-- a day that February lacks
separator_february : separator_of (codes "From a@b Tue Feb 30 10:00:00 2003") ≡ None
unfolding separator_of envelope_of envelope_of_one_token envelope_of_two_tokens arrival_of instant_of_local_time is_day_name month_of_name parsed_four_digit_year parsed_time_of_day
    parsed_day_of_month tokens days_before_year days_in_first_months
separator_february = refl

-- nothing, and blank lines alone
none_of_nothing : front_and_items_of_lines true (lines []) ≡ record { front = []; items = [] }
unfolding front_and_items_of_lines lines
none_of_nothing = refl

none_of_blanks : items_of (codes "\n\n") ≡ []
unfolding separator_of envelope_of front_and_items_of_lines lines content
none_of_blanks = refl

-- an empty text
empty_text : items_of (codes "From a@b Tue Mar  4 10:00:00 2003\n\n") ≡ record { envelope = record { sender = codes "a@b"; arrival = pos 1046772000 }; text = [] } ∷ []
unfolding separator_of envelope_of envelope_of_one_token envelope_of_two_tokens arrival_of instant_of_local_time is_day_name month_of_name parsed_four_digit_year parsed_time_of_day
    parsed_day_of_month tokens days_before_year days_in_first_months front_and_items_of_lines lines content item_text_of_lines
empty_text = refl

-- two messages
two_messages : items_of (codes "From anna@example.org Tue Mar  4 10:00:00 2003\nFrom: Anna <anna@example.org>\nSubject: Hello\n\nOne.\n\nFrom bob@example.org Wed Mar 12 10:30:00 2003\nSubject: Re: Hello\n\nTwo.\n\n")
    ≡ record { envelope = record { sender = codes "anna@example.org"; arrival = pos 1046772000 }; text = codes "From: Anna <anna@example.org>\nSubject: Hello\n\nOne.\n" }
    ∷ record { envelope = record { sender = codes "bob@example.org"; arrival = pos 1047465000 }; text = codes "Subject: Re: Hello\n\nTwo.\n" } ∷ []
unfolding separator_of envelope_of envelope_of_one_token envelope_of_two_tokens arrival_of instant_of_local_time is_day_name month_of_name parsed_four_digit_year parsed_time_of_day
    parsed_day_of_month tokens days_before_year days_in_first_months front_and_items_of_lines lines content item_text_of_lines
two_messages = refl

-- lines that look alike and are text
text_alike : items_of (codes "From a@b Tue Mar  4 10:00:00 2003\n\nFrom here on we sail.\nFrom bob@example.org Wed Mar 12 10:30:00 2003\n\nFrom a b Tue Mar 4 10:00:00 2003\n")
    ≡ record {
      envelope = record { sender = codes "a@b"; arrival = pos 1046772000 };
      text = codes
          "\nFrom here on we sail.\nFrom bob@example.org Wed Mar 12 10:30:00 2003\n\nFrom a b Tue Mar 4 10:00:00 2003\n";
    } ∷ []
unfolding separator_of envelope_of envelope_of_one_token envelope_of_two_tokens arrival_of instant_of_local_time is_day_name month_of_name parsed_four_digit_year parsed_time_of_day
    parsed_day_of_month tokens days_before_year days_in_first_months front_and_items_of_lines lines content item_text_of_lines
text_alike = refl

-- no LF at the end
no_end : items_of (codes "From a@b Tue Mar  4 10:00:00 2003\nhello") ≡ record { envelope = record { sender = codes "a@b"; arrival = pos 1046772000 }; text = codes "hello" } ∷ []
unfolding separator_of envelope_of envelope_of_one_token envelope_of_two_tokens arrival_of instant_of_local_time is_day_name month_of_name parsed_four_digit_year parsed_time_of_day
    parsed_day_of_month tokens days_before_year days_in_first_months front_and_items_of_lines lines content item_text_of_lines
no_end = refl

whole_no_end : whole (codes "hello") ≡ codes "hello\n"
whole_no_end = refl

-- what stands before the first separator line
preamble : (front_and_items_of_lines true (lines (codes "\nhi\nFrom a@b Tue Mar  4 10:00:00 2003\n"))).front ≡ codes "\n" ∷ codes "hi\n" ∷ codes "From a@b Tue Mar  4 10:00:00 2003\n" ∷ []
unfolding separator_of envelope_of envelope_of_one_token envelope_of_two_tokens arrival_of instant_of_local_time is_day_name month_of_name parsed_four_digit_year parsed_time_of_day
    parsed_day_of_month tokens days_before_year days_in_first_months front_and_items_of_lines lines content item_text_of_lines
preamble = refl

-- the relation itself, by the law that what is computed is a division
alike_divides : DividesIntoItems (codes "From a@b Tue Mar  4 10:00:00 2003\n\nFrom here on we sail.\nFrom bob@example.org Wed Mar 12 10:30:00 2003\n\nFrom a b Tue Mar 4 10:00:00 2003\n")
    (record {
      envelope = record { sender = codes "a@b"; arrival = pos 1046772000 };
      text = codes
          "\nFrom here on we sail.\nFrom bob@example.org Wed Mar 12 10:30:00 2003\n\nFrom a b Tue Mar 4 10:00:00 2003\n";
    } ∷ [])
unfolding separator_of envelope_of envelope_of_one_token envelope_of_two_tokens arrival_of instant_of_local_time is_day_name month_of_name parsed_four_digit_year parsed_time_of_day
    parsed_day_of_month tokens days_before_year days_in_first_months front_and_items_of_lines lines content item_text_of_lines
alike_divides = subst (DividesIntoItems (codes "From a@b Tue Mar  4 10:00:00 2003\n\nFrom here on we sail.\nFrom bob@example.org Wed Mar 12 10:30:00 2003\n\nFrom a b Tue Mar 4 10:00:00 2003\n")) text_alike
    (front_divides (codes "From a@b Tue Mar  4 10:00:00 2003\n\nFrom here on we sail.\nFrom bob@example.org Wed Mar 12 10:30:00 2003\n\nFrom a b Tue Mar 4 10:00:00 2003\n") tt)

-- ---- writing

-- a day of one digit is padded by a space, and the weekday is the right one
heading_padded : separator_line_text (record { sender = codes "a@b"; arrival = pos 1046772000 }) ≡ codes "From a@b Tue Mar  4 10:00:00 2003"
unfolding time_text date_of_days_since_1900 year_and_day_after month_and_day_after days_before_year days_in_first_months
heading_padded = refl

-- a sender of two tokens
heading_at : separator_line_text (record { sender = codes "anna at example.org"; arrival = pos 1046772000 }) ≡ codes "From anna at example.org Tue Mar  4 10:00:00 2003"
unfolding time_text date_of_days_since_1900 year_and_day_after month_and_day_after days_before_year days_in_first_months
heading_at = refl

-- the first second of the years, and the last
heading_first : separator_line_text (record { sender = codes "-"; arrival = negsuc 2208988799 }) ≡ codes "From - Mon Jan  1 00:00:00 1900"
unfolding time_text date_of_days_since_1900 year_and_day_after month_and_day_after days_before_year days_in_first_months
heading_first = refl

heading_last : separator_line_text (record { sender = codes "-"; arrival = pos 253370764799 }) ≡ codes "From - Thu Dec 31 23:59:59 9998"
unfolding time_text date_of_days_since_1900 year_and_day_after month_and_day_after days_before_year days_in_first_months
heading_last = refl

-- a leap day
heading_leap : separator_line_text (record { sender = codes "-"; arrival = pos 951827696 }) ≡ codes "From - Tue Feb 29 12:34:56 2000"
unfolding time_text date_of_days_since_1900 year_and_day_after month_and_day_after days_before_year days_in_first_months
heading_leap = refl

-- a text with no LF at its end is written whole, and an empty line follows
written_no_end : written (record { envelope = record { sender = codes "a@b"; arrival = pos 1046772000 }; text = codes "hello" } ∷ []) ≡ codes "From a@b Tue Mar  4 10:00:00 2003\nhello\n\n"
unfolding time_text date_of_days_since_1900 year_and_day_after month_and_day_after days_before_year days_in_first_months
written_no_end = refl
