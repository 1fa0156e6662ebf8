-- The message ids of a message as texts.
use Rattle.std.specs.Prelude.{◌≡◌, ◌<◌, ◌⊎◌, ℕ, List, ◌∷◌, ◌++◌, length, take, map}
use Rattle.std.specs.List.{flat_map}
use Rattle.mail_core.specs.Headers.{Header, header_of, own_id_in, own_id_of, references_in, id_option_to_list}
use Rattle.mail_core.specs.MsgIds.{MessageId}
use Rattle.luvazhimba_c.specs.declared.ids.LuvIds.{LuvIds}

-- An id as a text. The last @ divides its sides, since none stands in the right one.
abbrev pub id_text : MessageId → List ℕ
id_text id = id.left ++ 64 ∷ id.right

-- how long that is
abbrev pub id_text_length : MessageId → ℕ
id_text_length id = length (id_text id)

-- the message's own id, where it has one, and then those that it refers to, by its header
abbrev pub ids_of_header : Header → List MessageId
ids_of_header header = id_option_to_list (own_id_in header) ++ references_in header

-- the same of a message
abbrev pub ids_of_message : List ℕ → List MessageId
ids_of_message message = ids_of_header (header_of message)

-- their texts, one behind the other
abbrev pub id_texts : List ℕ → List ℕ
id_texts message = flat_map id_text (ids_of_message message)

-- how long each of them is
abbrev pub id_text_lengths : List ℕ → List ℕ
id_text_lengths message = map id_text_length (ids_of_message message)

-- how many ids there are, and how long their texts are together
pub record CountsMessageIds (message : List ℕ) (found : LuvIds) : Type 0 where
  pub own_count_is : found.own ≡ length (id_option_to_list (own_id_of message))
  pub count_is : found.count ≡ length (ids_of_message message)
  pub len : found.len ≡ length (id_texts message)

-- the arrays begin with the texts of the ids and with their lengths
pub record HoldMessageIds (message bytes numbers : List ℕ) (found : LuvIds) : Type 0 where
  pub texts : take (length (id_texts message)) bytes ≡ id_texts message
  pub lens : take (length (id_text_lengths message)) numbers ≡ id_text_lengths message
  pub counts : CountsMessageIds message found

-- one of the arrays is too short, and what is wanted is said
pub record LacksRoomForIds (message texts lens : List ℕ) (found : LuvIds) : Type 0 where
  pub array_too_short : (length texts < found.len) ⊎ (length lens < found.count)
  pub counts : CountsMessageIds message found
