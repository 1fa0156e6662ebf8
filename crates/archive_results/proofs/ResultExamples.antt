-- Worked examples of results. The arrivals are 2003-03-04 10:00:00 and 2003-03-12 10:30:00 UTC.
use Rattle.std.proofs.Common.{◌≡◌, ℕ, ◌==◌, ℤ, pos, arith, ap, List, [], ◌∷◌, map, option_map, Option, Some, None, true, false, refl, codes}
use Rattle.mail_core.specs.Comments.{after_closing_paren, comment_byte_kind}
use Rattle.mail_core.specs.Quotes.{quote_byte_kind, after_closing_quote, unquoted}
use Rattle.civil_time.specs.Calendar.{days_before_year, days_in_first_months, day_of_instant}
use Rattle.civil_time.proofs.MonthLemmas.{month_is}
use Rattle.mail_core.specs.DateTokens.{tokens_of, tokens_from, token_at, token_byte_kind}
use Rattle.civil_time.specs.Zones.{hours_west}
use Rattle.mail_core.specs.Sent.{date_at, leading_two_digit_second, time_at, signed_zone_at}
use Rattle.civil_time.specs.Names.{month_of_name}
use Rattle.mail_core.specs.Lines.{lines, is_empty_line, content}
use Rattle.mail_core.specs.Fields.{fields_of, header_blocks, unfolded}
use Rattle.mail_core.specs.MsgIds.{is_id_left_byte, is_id_right_byte, id_right_to_close, sides_of, id_at, next_piece_id_and_rest, ids_from}
use Rattle.subject_core.specs.BaseSubject.{after_bounded_removals, after_one_removal}
use Rattle.subject_core.specs.Spaces.{with_single_spaces}
use Rattle.subject_core.specs.Removal.{without_trailer, after_literal, after_closing_bracket, without_leader, after_leader, after_refwd, without_blob, without_fwd_brackets, after_spaces}
use Rattle.subject_core.specs.Front.{without_front_piece}
use Rattle.civil_time.specs.Dates.{year_and_day_after, month_and_day_after, date_of_days_since_1900}
use Rattle.mbox_items.specs.Written.{time_text}
use Rattle.archive_results.specs.Shown.{ShownMessage, Line, line_of}
use Rattle.archive_results.specs.Results.{is_of_month, author_lines, sort_lines_by_date, TreeLine, tree_lines, thread_lines, export_text}

-- a message of this key, arrival and text
abbrev message : List ℕ → ℤ → List ℕ → ShownMessage
message key arrival text = record { key = key; item = record { envelope = record { sender = codes "a@b"; arrival = arrival }; text = text } }

abbrev hello : ShownMessage
hello = message (codes "k1") (pos 1046772000) (codes "From: Anna <anna@example.org>\nSubject: Hello\n\nOne.\n")

abbrev re_hello : ShownMessage
re_hello = message (codes "k2") (pos 1047465000) (codes "From: bob@example.org\nSubject: Re: Hello\n\nTwo.\n")

-- it came in March, and was sent in February
abbrev late : ShownMessage
late = message (codes "k3") (pos 1046772000) (codes "From: ANNA@example.org\nDate: 28 Feb 2003 23:59:59 GMT\n\n")

abbrev keys : List Line → List (List ℕ)
keys ls = map (λ l. l.key) ls

-- depth and key of each row
abbrev tree : List TreeLine → List (ℕ × Option (List ℕ))
tree rows = map (λ t. (t.depth, option_map (λ l. l.key) t.line)) rows

-- ---- months, by the sent date and not by the arrival: 24038 is March 2003

in_march : is_of_month 24038 (line_of hello) ≡ true
unfolding lines is_empty_line content fields_of header_blocks unfolded tokens_of tokens_from token_at token_byte_kind date_at days_before_year days_in_first_months
in_march = ap (λ (m : ℕ). m == 24038) (month_is 24038 (day_of_instant (line_of hello).sent) (omega arith) refl)

in_february : is_of_month 24037 (line_of late) ≡ true
unfolding lines is_empty_line content fields_of header_blocks unfolded tokens_of tokens_from token_at token_byte_kind date_at month_of_name time_at leading_two_digit_second signed_zone_at
    hours_west days_before_year days_in_first_months
in_february = ap (λ (m : ℕ). m == 24037) (month_is 24037 (day_of_instant (line_of late).sent) (omega arith) refl)

not_when_it_came : is_of_month 24038 (line_of late) ≡ false
unfolding lines is_empty_line content fields_of header_blocks unfolded tokens_of tokens_from token_at token_byte_kind date_at month_of_name time_at leading_two_digit_second signed_zone_at
    hours_west days_before_year days_in_first_months
not_when_it_came = ap (λ (m : ℕ). m == 24038) (month_is 24037 (day_of_instant (line_of late).sent) (omega arith) refl)

-- ---- authors, in lower case

by_anna : keys (author_lines (codes "anna@example.org") (hello ∷ re_hello ∷ late ∷ [])) ≡ codes "k3" ∷ codes "k1" ∷ []
unfolding lines is_empty_line content fields_of header_blocks unfolded tokens_of tokens_from token_at token_byte_kind date_at month_of_name time_at leading_two_digit_second signed_zone_at
    hours_west days_before_year days_in_first_months
by_anna = refl

case_counts_in_the_question : author_lines (codes "Anna@example.org") (hello ∷ re_hello ∷ []) ≡ []
unfolding lines is_empty_line content fields_of header_blocks unfolded tokens_of tokens_from token_at token_byte_kind date_at
case_counts_in_the_question = refl

-- those without a From field have the empty author key
by_nobody : keys (author_lines [] (hello ∷ message (codes "k4") (pos 5) [] ∷ [])) ≡ codes "k4" ∷ []
unfolding lines is_empty_line content fields_of header_blocks unfolded tokens_of tokens_from token_at token_byte_kind date_at
by_nobody = refl

-- ---- order

abbrev line : List ℕ → ℤ → Line
line key sent = record { key = key; sent = sent; author = []; subject = [] }

-- lines of one sent date stay in their order, and an earlier one comes first
in_order : keys (sort_lines_by_date (line (codes "a") (pos 7) ∷ line (codes "b") (pos 5) ∷ line (codes "c") (pos 7) ∷ line (codes "d") (pos 5) ∷ [])) ≡ codes "b" ∷ codes "d" ∷ codes "a" ∷ codes "c" ∷ []
in_order = refl

-- ---- threads

a_thread : tree (tree_lines true (hello ∷ re_hello ∷ [])) ≡ (0, Some (codes "k1")) ∷ (1, Some (codes "k2")) ∷ []
unfolding lines is_empty_line content fields_of header_blocks unfolded tokens_of tokens_from token_at token_byte_kind date_at ids_from after_bounded_removals with_single_spaces after_one_removal
    without_trailer after_literal after_closing_bracket without_leader after_leader after_refwd without_blob without_fwd_brackets after_spaces without_front_piece
a_thread = refl

-- a reply of the same subject that names no message stands for itself where threads are not gathered
not_gathered : tree (tree_lines false (hello ∷ re_hello ∷ [])) ≡ (0, Some (codes "k1")) ∷ (0, Some (codes "k2")) ∷ []
unfolding lines is_empty_line content fields_of header_blocks unfolded tokens_of tokens_from token_at token_byte_kind date_at ids_from after_bounded_removals with_single_spaces after_one_removal
    without_trailer after_literal after_closing_bracket without_leader after_leader after_refwd without_blob without_fwd_brackets after_spaces without_front_piece
not_gathered = refl

no_threads : tree_lines true [] ≡ []
no_threads = refl

abbrev reply_to_missing : List ℕ → ℤ → ShownMessage
reply_to_missing key arrival = message key arrival (codes "In-Reply-To: <p@q>\n\n")

-- one reply to a message that is missing or withheld, and two
one_reply : tree (tree_lines true (reply_to_missing (codes "a") (pos 5) ∷ [])) ≡ (0, Some (codes "a")) ∷ []
unfolding lines is_empty_line content fields_of header_blocks unfolded tokens_of tokens_from token_at token_byte_kind date_at ids_from next_piece_id_and_rest id_at sides_of id_right_to_close
    is_id_left_byte is_id_right_byte after_closing_paren comment_byte_kind after_closing_quote quote_byte_kind unquoted after_bounded_removals with_single_spaces after_one_removal
    without_trailer after_literal after_closing_bracket without_leader
    after_leader after_refwd without_blob without_fwd_brackets after_spaces without_front_piece
one_reply = refl

two_replies : tree (tree_lines true (reply_to_missing (codes "a") (pos 5) ∷ reply_to_missing (codes "b") (pos 4) ∷ [])) ≡ (0, None) ∷ (1, Some (codes "b")) ∷ (1, Some (codes "a")) ∷ []
unfolding lines is_empty_line content fields_of header_blocks unfolded tokens_of tokens_from token_at token_byte_kind date_at ids_from next_piece_id_and_rest id_at sides_of id_right_to_close
    is_id_left_byte is_id_right_byte after_closing_paren comment_byte_kind after_closing_quote quote_byte_kind unquoted after_bounded_removals with_single_spaces after_one_removal
    without_trailer after_literal after_closing_bracket without_leader
    after_leader after_refwd without_blob without_fwd_brackets after_spaces without_front_piece
two_replies = refl

-- the thread of a message is that of its top alone
of_the_reply : option_map tree (thread_lines true (codes "k2") (message (codes "k4") (pos 5) [] ∷ hello ∷ re_hello ∷ [])) ≡ Some ((0, Some (codes "k1")) ∷ (1, Some (codes "k2")) ∷ [])
unfolding lines is_empty_line content fields_of header_blocks unfolded tokens_of tokens_from token_at token_byte_kind date_at ids_from after_bounded_removals with_single_spaces after_one_removal
    without_trailer after_literal after_closing_bracket without_leader after_leader after_refwd without_blob without_fwd_brackets after_spaces without_front_piece
of_the_reply = refl

of_the_other : option_map tree (thread_lines true (codes "k4") (message (codes "k4") (pos 5) [] ∷ hello ∷ re_hello ∷ [])) ≡ Some ((0, Some (codes "k4")) ∷ [])
unfolding lines is_empty_line content fields_of header_blocks unfolded tokens_of tokens_from token_at token_byte_kind date_at ids_from after_bounded_removals with_single_spaces after_one_removal
    without_trailer after_literal after_closing_bracket without_leader after_leader after_refwd without_blob without_fwd_brackets after_spaces without_front_piece
of_the_other = refl

of_a_key_that_is_not_there : thread_lines true (codes "k9") (hello ∷ []) ≡ None
unfolding lines is_empty_line content fields_of header_blocks unfolded tokens_of tokens_from token_at token_byte_kind date_at ids_from after_bounded_removals with_single_spaces after_one_removal
    without_trailer after_literal after_closing_bracket without_leader after_leader after_refwd without_blob without_fwd_brackets after_spaces without_front_piece
of_a_key_that_is_not_there = refl

-- ---- mbox: the sender and the arrival, the text, and an empty line
exported : export_text (message (codes "k") (pos 1046772000) (codes "Subject: Hello\n\nOne.\n") ∷ message (codes "l") (pos 1047465000) [] ∷ [])
    ≡ codes "From a@b Tue Mar  4 10:00:00 2003\nSubject: Hello\n\nOne.\n\nFrom a@b Wed Mar 12 10:30:00 2003\n\n"
unfolding time_text date_of_days_since_1900 year_and_day_after month_and_day_after lines
exported = refl

nothing_exported : export_text [] ≡ []
nothing_exported = refl
