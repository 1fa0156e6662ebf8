-- All that a message says of itself, in one reading (RFC 5322, sections 3.6.1 to 3.6.5): its subject, who it is from, its ids, and
-- when it was sent.
use Rattle.std.specs.Prelude.{◌≡◌, ◌<◌, ◌⊎◌, ℕ, ℤ, pos, Bool, List, ◌∷◌, ◌++◌, length, take, map, codes}
use Rattle.std.specs.List.{flat_map}
use Rattle.std.specs.Ordering.{int_eq}
use Rattle.mail_core.specs.Fields.{field_of, unfolded}
use Rattle.mail_core.specs.Headers.{own_id_of, id_option_to_list, or_empty, sent_date_of, unfolded_subject_of}
use Rattle.mail_core.specs.Places.{between}
use Rattle.mbox_core.specs.Division.{Item, DividesIntoItems}
use Rattle.luvazhimba_c.specs.Ids.{id_texts, id_text_lengths}
use Rattle.luvazhimba_c.specs.Places.{ArePlacesOfMessages}
use Rattle.luvazhimba_c.specs.declared.messages.LuvMessage.{LuvMessage}
use Rattle.luvazhimba_c.specs.declared.fields.LuvFields.{LuvFields}
use Rattle.luvazhimba_c.specs.declared.mbox_fields.LuvTotals.{LuvTotals}

-- the unfolded body of the From field (RFC 5322, section 3.6.2), spaces and tabs at its ends included; empty without the field
abbrev pub unfolded_from_of : List ℕ → List ℕ
unfolded_from_of message = unfolded (or_empty (field_of message (codes "from")))

-- whether the Date field says when a message was sent: then it says the same whenever the message arrived
abbrev pub has_sent_date : List ℕ → Bool
has_sent_date message = int_eq (sent_date_of message (pos 0)) (sent_date_of message (pos 1))

-- The texts of a message, one behind the other: its subject, its From, its own id, where it has one, and the ids that it refers to.
abbrev pub field_texts : List ℕ → List ℕ
field_texts message = unfolded_subject_of message ++ (unfolded_from_of message ++ id_texts message)

-- how long each of them is
abbrev pub field_text_lengths : List ℕ → List ℕ
field_text_lengths message = length (unfolded_subject_of message) ∷ length (unfolded_from_of message) ∷ id_text_lengths message

-- When a message was sent that arrived then, how many ids are its own, how many texts it has, how long these are together, and whether
-- its Date field says when it was sent.
abbrev pub field_numbers : List ℕ → ℤ → LuvFields
field_numbers message arrival = record {
  sent = sent_date_of message arrival;
  own = length (id_option_to_list (own_id_of message));
  count = length (field_text_lengths message);
  len = length (field_texts message);
  is_dated = has_sent_date message;
}

-- the arrays begin with the texts of a message that arrived then, and with their lengths
pub record HoldMessageFields (message : List ℕ) (arrival : ℤ) (bytes sizes : List ℕ) (found : LuvFields) : Type 0 where
  pub texts : take found.len bytes ≡ field_texts message
  pub lens : take found.count sizes ≡ field_text_lengths message
  pub numbers : found ≡ field_numbers message arrival

-- one of the arrays is too short for these, and what is wanted is said
pub record LacksRoomForFields (message : List ℕ) (arrival : ℤ) (texts lens : List ℕ) (found : LuvFields) : Type 0 where
  pub array_too_short : (length texts < found.len) ⊎ (length lens < found.count)
  pub numbers : found ≡ field_numbers message arrival

-- ---- of each message of an mbox

-- the texts of the messages, those of one behind those of another
abbrev pub all_field_texts : List Item → List ℕ
all_field_texts items = flat_map (λ (item : Item). field_texts item.text) items

-- how long each text is
abbrev pub all_field_text_lengths : List Item → List ℕ
all_field_text_lengths items = flat_map (λ (item : Item). field_text_lengths item.text) items

-- what is said of a message of an mbox in numbers
abbrev pub field_numbers_of_item : Item → LuvFields
field_numbers_of_item item = field_numbers item.text item.envelope.arrival

-- the text of a message by its place
abbrev pub message_text_at : List ℕ → LuvMessage → List ℕ
message_text_at mbox m = between mbox m.start m.end

-- how many messages there are, how many texts, and how long these are together
abbrev pub mbox_totals : List Item → LuvTotals
mbox_totals items = record {
  messages = length items;
  count = length (all_field_text_lengths items);
  len = length (all_field_texts items);
}

-- The arrays begin with the places of the messages of an mbox, which has one division, with what is said of each in numbers, with the
-- texts of all of them, and with the lengths of these.
pub record HoldMboxFields (mbox : List ℕ) (messages : List LuvMessage) (fields : List LuvFields) (bytes sizes : List ℕ) (found : LuvTotals) : Type 0 where
  pub items : List Item
  pub divides_into_items : DividesIntoItems mbox items
  pub places : ArePlacesOfMessages mbox (take found.messages messages)
  pub numbers : take found.messages fields ≡ map field_numbers_of_item items
  pub texts : take found.len bytes ≡ all_field_texts items
  pub lens : take found.count sizes ≡ all_field_text_lengths items
  pub totals : found ≡ mbox_totals items

-- one of the arrays is too short for these, and what is wanted is said
pub record LacksRoomForMboxFields (mbox : List ℕ) (messages : List LuvMessage) (fields : List LuvFields) (texts lens : List ℕ) (found : LuvTotals) : Type 0 where
  pub items : List Item
  pub divides_into_items : DividesIntoItems mbox items
  pub array_too_short : (length messages < found.messages) ⊎ (length fields < found.messages) ⊎ (length texts < found.len) ⊎ (length lens < found.count)
  pub totals : found ≡ mbox_totals items
