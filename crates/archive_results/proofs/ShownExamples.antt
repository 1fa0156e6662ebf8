-- Worked examples of what is shown of a message. The arrival 1046772000 is 2003-03-04 10:00:00 UTC.
use Rattle.std.proofs.Common.{◌≡◌, ℕ, pos, List, [], ◌∷◌, Some, None, true, false, refl, codes}
use Rattle.mail_core.specs.Comments.{after_closing_paren, comment_byte_kind}
use Rattle.mail_core.specs.Quotes.{quote_byte_kind, after_closing_quote, unquoted}
use Rattle.civil_time.specs.Calendar.{days_before_year, days_in_first_months}
use Rattle.civil_time.specs.Zones.{hours_west}
use Rattle.mail_core.specs.DateTokens.{tokens_of, tokens_from, token_at, token_byte_kind}
use Rattle.mail_core.specs.Sent.{date_at, leading_two_digit_second, time_at, signed_zone_at}
use Rattle.civil_time.specs.Names.{month_of_name}
use Rattle.mail_core.specs.Lines.{lines, is_empty_line, content}
use Rattle.mail_core.specs.Fields.{fields_of, header_blocks, unfolded}
use Rattle.mail_core.specs.MsgIds.{MessageId, is_id_left_byte, is_id_right_byte, id_right_to_close, sides_of, id_at, next_piece_id_and_rest, ids_from}
use Rattle.subject_core.specs.BaseSubject.{after_bounded_removals, after_one_removal}
use Rattle.subject_core.specs.Spaces.{with_single_spaces}
use Rattle.subject_core.specs.Removal.{without_trailer, after_literal, after_closing_bracket, without_leader, after_leader, after_refwd, without_blob, without_fwd_brackets, after_spaces}
use Rattle.subject_core.specs.Front.{without_front_piece}
use Rattle.mbox_items.specs.Division.{Item}
use Rattle.archive_results.specs.Shown.{shown_message, line_of, thread_entry_of}

-- a message of this text
abbrev saying : List ℕ → Item
saying text = record { envelope = record { sender = codes "a@b"; arrival = pos 1046772000 }; text = text }

abbrev id : List ℕ → List ℕ → MessageId
id left right = record { left = left; right = right }

-- neither marks nor the list are shown
key_and_item_alone : shown_message (record { list = codes "soc"; key = codes "k1"; sender = codes "a@b"; arrival = pos 1046772000; text = codes "One.\n"; withdrawn = pos 1; embargo = Some (pos 12143) })
    ≡ record { key = codes "k1"; item = saying (codes "One.\n") }
key_and_item_alone = refl

-- ---- entries

-- its own id, all its references, its date and its base subject
a_whole_entry : thread_entry_of (saying (codes "Date: 4 Mar 2003 10:00:01 +0000\nSubject: a\n b\nMessage-ID: <a@b>\nIn-Reply-To: <e@f>\nReferences: <c@d>\n <e@f>\n\n"))
    ≡ record { id = Some (id (codes "a") (codes "b")); refs = id (codes "c") (codes "d") ∷ id (codes "e") (codes "f") ∷ []; sent = pos 1046772001; base = codes "a b"; reply = false }
unfolding lines is_empty_line content fields_of header_blocks unfolded tokens_of tokens_from token_at token_byte_kind date_at month_of_name time_at leading_two_digit_second signed_zone_at
    hours_west days_before_year days_in_first_months ids_from next_piece_id_and_rest id_at sides_of id_right_to_close is_id_left_byte is_id_right_byte after_closing_paren comment_byte_kind
    after_closing_quote quote_byte_kind
    unquoted after_bounded_removals after_one_removal with_single_spaces without_trailer after_literal after_closing_bracket without_leader after_leader after_refwd without_blob
    without_fwd_brackets after_spaces without_front_piece
a_whole_entry = refl

-- without an id in References, the first of In-Reply-To alone; a Date of no day
an_entry : thread_entry_of (saying (codes "Subject: Re: [soc] Hello\nDate: 30 Feb 2003 12:00 +0000\nReferences: x\nIn-Reply-To: <a@b> <g@h>\n\nTwo.\n"))
    ≡ record { id = None; refs = id (codes "a") (codes "b") ∷ []; sent = pos 1046772000; base = codes "hello"; reply = true }
unfolding lines is_empty_line content fields_of header_blocks unfolded tokens_of tokens_from token_at token_byte_kind date_at month_of_name time_at leading_two_digit_second signed_zone_at
    hours_west days_before_year days_in_first_months ids_from next_piece_id_and_rest id_at sides_of id_right_to_close is_id_left_byte is_id_right_byte after_closing_paren comment_byte_kind
    after_closing_quote quote_byte_kind
    unquoted after_bounded_removals after_one_removal with_single_spaces without_trailer after_literal after_closing_bracket without_leader after_leader after_refwd without_blob
    without_fwd_brackets after_spaces without_front_piece
an_entry = refl

-- fields behind the header are text
an_entry_of_a_body : thread_entry_of (saying (codes "To: x\n\nMessage-ID: <a@b>\nReferences: <c@d>\nSubject: Re: x\nDate: 4 Mar 2003 10:00:01 +0000\n"))
    ≡ record { id = None; refs = []; sent = pos 1046772000; base = []; reply = false }
unfolding lines is_empty_line content fields_of header_blocks unfolded tokens_of tokens_from token_at token_byte_kind date_at month_of_name time_at leading_two_digit_second signed_zone_at
    hours_west days_before_year days_in_first_months ids_from next_piece_id_and_rest id_at sides_of id_right_to_close is_id_left_byte is_id_right_byte after_closing_paren comment_byte_kind
    after_closing_quote quote_byte_kind
    unquoted after_bounded_removals after_one_removal with_single_spaces without_trailer after_literal after_closing_bracket without_leader after_leader after_refwd without_blob
    without_fwd_brackets after_spaces without_front_piece
an_entry_of_a_body = refl

-- ---- lines

-- the subject of a line is not its base
a_line : line_of (record { key = codes "k2"; item = saying (codes "From: Bob <BOB@example.org>\nSubject:  Re: Hello \n\nTwo.\n") })
    ≡ record { key = codes "k2"; sent = pos 1046772000; author = codes "bob@example.org"; subject = codes "Re: Hello" }
unfolding lines is_empty_line content fields_of header_blocks unfolded tokens_of tokens_from token_at token_byte_kind date_at month_of_name time_at leading_two_digit_second signed_zone_at
    hours_west days_before_year days_in_first_months
a_line = refl

-- the first field of a name counts, and a line that continues it belongs to it
a_folded_line : line_of (record { key = codes "k2"; item = saying (codes "From: \tAnna \nSubject: a\r\n b\nSubject: c\nDate: 4 Mar 2003 10:00:01 +0000\n\n") })
    ≡ record { key = codes "k2"; sent = pos 1046772001; author = codes "anna"; subject = codes "a b" }
unfolding lines is_empty_line content fields_of header_blocks unfolded tokens_of tokens_from token_at token_byte_kind date_at month_of_name time_at leading_two_digit_second signed_zone_at
    hours_west days_before_year days_in_first_months
a_folded_line = refl

-- a text that is all header
a_line_of_nothing : line_of (record { key = codes "k3"; item = saying [] }) ≡ record { key = codes "k3"; sent = pos 1046772000; author = []; subject = [] }
unfolding lines is_empty_line content fields_of header_blocks unfolded tokens_of tokens_from token_at token_byte_kind date_at month_of_name time_at leading_two_digit_second signed_zone_at
    hours_west days_before_year days_in_first_months
a_line_of_nothing = refl
