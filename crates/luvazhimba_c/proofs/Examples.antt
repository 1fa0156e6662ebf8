-- Worked examples of the definitions.
use Rattle.std.proofs.Common.{◌≡◌, ℕ, List, [], ◌∷◌, refl, Some, None, pos, codes, true, false}
use Rattle.civil_time.specs.Calendar.{days_before_year, days_in_first_months}
use Rattle.civil_time.specs.Names.{month_of_name, is_day_name}
use Rattle.mail_core.specs.Fields.{header_blocks, fields_of, unfolded}
use Rattle.mail_core.specs.Lines.{lines, content, is_empty_line}
use Rattle.mail_core.specs.MsgIds.{ids_from, next_piece_id_and_rest, id_at, sides_of, is_id_left_byte, is_id_right_byte, id_right_to_close}
use Rattle.mbox_core.specs.Separator.{Envelope, tokens, parsed_day_of_month, parsed_time_of_day, parsed_four_digit_year}
use Rattle.mbox_core.specs.Separator.{instant_of_local_time, arrival_of, envelope_of_one_token, envelope_of_two_tokens, envelope_of, separator_of}
use Rattle.mbox_items.proofs.SeparatorLemmas.{separator_is}
use Rattle.luvazhimba_c.specs.Fields.{field_texts, field_text_lengths}
use Rattle.luvazhimba_c.specs.Ids.{id_text}
use Rattle.luvazhimba_c.specs.Numbers.{refusal_number}
use Rattle.luvazhimba_c.specs.Places.{IsMessageAtOffset, AreMessagesFromOffset}
use Rattle.luvazhimba_c.specs.Rows.{rows_of_luv_rows}
use Rattle.luvazhimba_c.specs.declared.refusals.Refusal.TheVariants.{Mbox}

abbrev heading : List ℕ
heading = codes "From a@b Tue Mar  4 10:00:00 2003"

abbrev said : Envelope
said = record { sender = codes "a@b"; arrival = pos 1046772000 }

heading_says : separator_of heading ≡ Some said
unfolding separator_of envelope_of envelope_of_one_token envelope_of_two_tokens arrival_of instant_of_local_time is_day_name month_of_name parsed_four_digit_year parsed_time_of_day
    parsed_day_of_month tokens days_before_year days_in_first_months
heading_says = refl

-- A message with a text and its empty line, and one whose separator line ends the bytes.
abbrev mbox : List ℕ
mbox = codes "From a@b Tue Mar  4 10:00:00 2003\nx\n\nFrom a@b Tue Mar  4 10:00:00 2003\n"

first_stands : IsMessageAtOffset mbox 0 (record { envelope = said; text = codes "x\n" }) (record { start = 34; end = 36; arrival = pos 1046772000 }) 37
unfolding lines content
first_stands = record {
  heading = codes "From a@b Tue Mar  4 10:00:00 2003\n";
  blank_line = codes "\n";
  heading_is_first_line = refl;
  heading_separates = separator_is heading said heading_says;
  is_blank = refl;
  bytes_are = refl;
  start_is_after_heading = refl;
  end_is_after_text = refl;
  next_is_after_blank = refl;
  arrival_is = refl;
}

second_stands : IsMessageAtOffset mbox 37 (record { envelope = said; text = [] }) (record { start = 71; end = 71; arrival = pos 1046772000 }) 71
unfolding lines content
second_stands = record {
  heading = codes "From a@b Tue Mar  4 10:00:00 2003\n";
  blank_line = [];
  heading_is_first_line = refl;
  heading_separates = separator_is heading said heading_says;
  is_blank = refl;
  bytes_are = refl;
  start_is_after_heading = refl;
  end_is_after_text = refl;
  next_is_after_blank = refl;
  arrival_is = refl;
}

both_stand : AreMessagesFromOffset mbox 0 (record { envelope = said; text = codes "x\n" } ∷ record { envelope = said; text = [] } ∷ [])
    (record { start = 34; end = 36; arrival = pos 1046772000 } ∷ record { start = 71; end = 71; arrival = pos 1046772000 } ∷ [])
both_stand = (37, first_stands, (71, second_stands, refl))

an_id : id_text (record { left = codes "a"; right = codes "b" }) ≡ codes "a@b"
an_id = refl

-- A folded From, a subject and an id. The texts begin with the space that stands behind the colon.
abbrev message : List ℕ
message = codes "From: a\n <b>\nSubject: x\nMessage-ID: <a@b>\n\n"

its_texts : field_texts message ≡ codes " x a <b>a@b"
unfolding lines content is_empty_line header_blocks fields_of unfolded ids_from next_piece_id_and_rest id_at sides_of is_id_left_byte is_id_right_byte id_right_to_close
its_texts = refl

its_lens : field_text_lengths message ≡ 2 ∷ 6 ∷ 3 ∷ []
unfolding lines content is_empty_line header_blocks fields_of unfolded ids_from next_piece_id_and_rest id_at sides_of is_id_left_byte is_id_right_byte id_right_to_close
its_lens = refl

a_number : refusal_number Mbox ≡ 5
a_number = refl

two_rows : rows_of_luv_rows 2 (record { depth = 0; place = 7; is_message = false } ∷ record { depth = 1; place = 7; is_message = true } ∷ record { depth = 9; place = 9; is_message = true } ∷ [])
    ≡ record { depth = 0; place = None } ∷ record { depth = 1; place = Some 7 } ∷ []
two_rows = refl
