-- Worked examples of what a stream says.
use Rattle.std.proofs.Common.{◌≡◌, [], ◌∷◌, refl, pos, codes}
use Rattle.civil_time.specs.Calendar.{days_before_year, days_in_first_months}
use Rattle.mail_core.specs.Lines.{lines, content}
use Rattle.mbox_core.specs.Separator.{tokens, parsed_day_of_month, parsed_time_of_day, parsed_four_digit_year, instant_of_local_time}
use Rattle.mbox_core.specs.Separator.{arrival_of, envelope_of_one_token, envelope_of_two_tokens, envelope_of, separator_of}
use Rattle.civil_time.specs.Names.{month_of_name, is_day_name}
use Rattle.mbox_core.specs.Division.{front_and_items_of_lines, item_text_of_lines}
use Rattle.mbox_stream.specs.Stream.{settled_bytes, all_but_last, settled_items, file_items}

some_bytes : settled_bytes (codes "ab\nc") ≡ codes "ab\n"
unfolding settled_bytes
some_bytes = refl

-- up to the LF of the second separator line: the first message alone
first_message : settled_items (codes "From anna@example.org Tue Mar  4 10:00:00 2003\nFrom: Anna <anna@example.org>\nSubject: Hello\n\nOne.\n\nFrom bob@example.org Wed Mar 12 10:30:00 2003\n")
    ≡ record { envelope = record { sender = codes "anna@example.org"; arrival = pos 1046772000 }; text = codes "From: Anna <anna@example.org>\nSubject: Hello\n\nOne.\n" } ∷ []
unfolding settled_bytes all_but_last separator_of envelope_of envelope_of_one_token envelope_of_two_tokens arrival_of instant_of_local_time is_day_name month_of_name parsed_four_digit_year
    parsed_time_of_day parsed_day_of_month tokens
    days_before_year days_in_first_months front_and_items_of_lines lines content item_text_of_lines
first_message = refl

-- without that LF: none, since a byte more may make the line a text
no_message : settled_items (codes "From anna@example.org Tue Mar  4 10:00:00 2003\nFrom: Anna <anna@example.org>\nSubject: Hello\n\nOne.\n\nFrom bob@example.org Wed Mar 12 10:30:00 2003") ≡ []
unfolding settled_bytes all_but_last separator_of envelope_of envelope_of_one_token envelope_of_two_tokens arrival_of instant_of_local_time is_day_name month_of_name parsed_four_digit_year
    parsed_time_of_day parsed_day_of_month tokens
    days_before_year days_in_first_months front_and_items_of_lines lines content item_text_of_lines
no_message = refl

-- the end of that stream has two messages: a call at the end may give two
two_at_the_end : file_items (codes "From a@b Tue Mar  4 10:00:00 2003\nx\n\nFrom c@d Wed Mar 12 10:30:00 2003")
    ≡ record { envelope = record { sender = codes "a@b"; arrival = pos 1046772000 }; text = codes "x\n" }
    ∷ record { envelope = record { sender = codes "c@d"; arrival = pos 1047465000 }; text = [] } ∷ []
unfolding settled_bytes all_but_last separator_of envelope_of envelope_of_one_token envelope_of_two_tokens arrival_of instant_of_local_time is_day_name month_of_name parsed_four_digit_year
    parsed_time_of_day parsed_day_of_month tokens
    days_before_year days_in_first_months front_and_items_of_lines lines content item_text_of_lines
two_at_the_end = refl

-- behind a faulty line nothing is settled
faulty : settled_items (codes "x\nFrom a@b Tue Mar  4 10:00:00 2003\n\nFrom a@b Tue Mar  4 10:00:00 2003\n") ≡ []
unfolding settled_bytes all_but_last separator_of envelope_of envelope_of_one_token envelope_of_two_tokens arrival_of instant_of_local_time is_day_name month_of_name parsed_four_digit_year
    parsed_time_of_day parsed_day_of_month tokens
    days_before_year days_in_first_months front_and_items_of_lines lines content item_text_of_lines
faulty = refl

-- the empty line may be CR LF
carriage : settled_items (codes "From a@b Tue Mar  4 10:00:00 2003\nx\n\r\nFrom c@d Wed Mar 12 10:30:00 2003\n")
    ≡ record { envelope = record { sender = codes "a@b"; arrival = pos 1046772000 }; text = codes "x\n" } ∷ []
unfolding settled_bytes all_but_last separator_of envelope_of envelope_of_one_token envelope_of_two_tokens arrival_of instant_of_local_time is_day_name month_of_name parsed_four_digit_year
    parsed_time_of_day parsed_day_of_month tokens
    days_before_year days_in_first_months front_and_items_of_lines lines content item_text_of_lines
carriage = refl

-- a byte more after the year: the line is text, so the message goes on
no_separator : settled_items (codes "From a@b Tue Mar  4 10:00:00 2003\nx\n\nFrom c@d Wed Mar 12 10:30:00 2003x\n") ≡ []
unfolding settled_bytes all_but_last separator_of envelope_of envelope_of_one_token envelope_of_two_tokens arrival_of instant_of_local_time is_day_name month_of_name parsed_four_digit_year
    parsed_time_of_day parsed_day_of_month tokens
    days_before_year days_in_first_months front_and_items_of_lines lines content item_text_of_lines
no_separator = refl
