-- Worked examples of what a header says; where a message arrives, it is 1970-01-01 00:00:00.
use Rattle.std.proofs.Common.{◌≡◌, ℕ, List, [], ◌∷◌, ◌++◌, refl, codes, pos, Some, None}
use Rattle.mail_core.specs.Lines.{lines, content, is_empty_line}
use Rattle.mail_core.specs.Fields.{header_blocks, fields_of, unfolded}
use Rattle.mail_core.specs.Comments.{after_closing_paren, comment_byte_kind}
use Rattle.mail_core.specs.Quotes.{quote_byte_kind, after_closing_quote, unquoted}
use Rattle.mail_core.specs.MsgIds.{MessageId, id_at, id_right_to_close, sides_of, is_id_left_byte, is_id_right_byte, next_piece_id_and_rest, ids_from}
use Rattle.civil_time.specs.Calendar.{days_before_year, days_in_first_months}
use Rattle.mail_core.specs.DateTokens.{tokens_of, tokens_from, token_at, token_byte_kind}
use Rattle.civil_time.specs.Zones.{hours_west}
use Rattle.mail_core.specs.Sent.{date_at, leading_two_digit_second, time_at, signed_zone_at}
use Rattle.civil_time.specs.Names.{month_of_name}
use Rattle.mail_core.specs.Headers.{own_id_of, references_of, sent_date_of, unfolded_subject_of, subject_line_of}

abbrev id : List ℕ → List ℕ → MessageId
id l r = record { left = l; right = r }

abbrev line : List ℕ → List ℕ
line text = text ++ 10 ∷ []

-- the first of two
own_id : own_id_of (line (codes "message-ID: (x) <a@b> <c@d>") ++ line (codes "Message-ID: <e@f>")) ≡ Some (id (codes "a") (codes "b"))
unfolding fields_of header_blocks lines content is_empty_line unfolded ids_from next_piece_id_and_rest after_closing_paren comment_byte_kind quote_byte_kind after_closing_quote unquoted
    id_at id_right_to_close sides_of is_id_left_byte is_id_right_byte
own_id = refl

no_own_id : own_id_of (line (codes "References: <a@b>") ++ line (codes "Message-ID: a@b") ++ line [] ++ codes "Message-ID: <c@d>") ≡ None
unfolding fields_of header_blocks lines content is_empty_line unfolded ids_from next_piece_id_and_rest after_closing_paren comment_byte_kind quote_byte_kind after_closing_quote unquoted
    id_at id_right_to_close sides_of is_id_left_byte is_id_right_byte
no_own_id = refl

-- all of the first References field, on two lines; neither the second one nor In-Reply-To
all_references : references_of (line (codes "In-Reply-To: <v@w>") ++ line (codes "References: <a@b>") ++ line (codes " <c@d>") ++ line (codes "References: <e@f>"))
    ≡ id (codes "a") (codes "b") ∷ id (codes "c") (codes "d") ∷ []
unfolding fields_of header_blocks lines content is_empty_line unfolded ids_from next_piece_id_and_rest after_closing_paren comment_byte_kind quote_byte_kind after_closing_quote unquoted
    id_at id_right_to_close sides_of is_id_left_byte is_id_right_byte
all_references = refl

-- References names none: the first of In-Reply-To alone
in_reply_to : references_of (line (codes "References: none") ++ line (codes "In-Reply-To: Anna's <a@b> and <c@d>")) ≡ id (codes "a") (codes "b") ∷ []
unfolding fields_of header_blocks lines content is_empty_line unfolded ids_from next_piece_id_and_rest after_closing_paren comment_byte_kind quote_byte_kind after_closing_quote unquoted
    id_at id_right_to_close sides_of is_id_left_byte is_id_right_byte
in_reply_to = refl

-- the first References field names none, so a second one is not read
an_empty_references : references_of (line (codes "References:") ++ line (codes "References: <a@b>")) ≡ []
unfolding fields_of header_blocks lines content is_empty_line unfolded ids_from next_piece_id_and_rest after_closing_paren comment_byte_kind quote_byte_kind after_closing_quote unquoted
    id_at id_right_to_close sides_of is_id_left_byte is_id_right_byte
an_empty_references = refl

sent_date : sent_date_of (line (codes "Date: 2 Jan 1970 00:00:05 +0000") ++ line []) (pos 0) ≡ pos 86405
unfolding fields_of header_blocks lines content is_empty_line tokens_of tokens_from token_at token_byte_kind date_at leading_two_digit_second time_at signed_zone_at month_of_name hours_west
    after_closing_paren comment_byte_kind days_before_year days_in_first_months
sent_date = refl

-- a Date below the header is text
a_date_in_the_body : sent_date_of (line (codes "To: x") ++ line [] ++ line (codes "Date: 2 Jan 1970 00:00:05 +0000")) (pos 0) ≡ pos 0
unfolding fields_of header_blocks lines content is_empty_line tokens_of tokens_from token_at token_byte_kind date_at leading_two_digit_second time_at signed_zone_at month_of_name hours_west
    after_closing_paren comment_byte_kind days_before_year days_in_first_months
a_date_in_the_body = refl

-- the first Date counts, though it is no date
two_dates : sent_date_of (line (codes "Date: soon") ++ line (codes "Date: 2 Jan 1970 00:00:05 +0000")) (pos 0) ≡ pos 0
unfolding fields_of header_blocks lines content is_empty_line tokens_of tokens_from token_at token_byte_kind date_at leading_two_digit_second time_at signed_zone_at month_of_name hours_west
    after_closing_paren comment_byte_kind days_before_year days_in_first_months
two_dates = refl

-- Subject: SP Re: LF TAB SP Hello TAB
abbrev folded_subject : List ℕ
folded_subject = line (codes "Subject:  Re:") ++ 9 ∷ codes " Hello" ++ 9 ∷ []

subject_line : subject_line_of folded_subject ≡ codes "Re:" ++ 9 ∷ codes " Hello"
unfolding fields_of header_blocks lines content is_empty_line unfolded
subject_line = refl

unfolded_subject : unfolded_subject_of folded_subject ≡ codes "  Re:" ++ 9 ∷ codes " Hello" ++ 9 ∷ []
unfolding fields_of header_blocks lines content is_empty_line unfolded
unfolded_subject = refl

no_subject : subject_line_of (line (codes "To: x")) ≡ []
unfolding fields_of header_blocks lines content is_empty_line unfolded
no_subject = refl
