-- What is filed of a message, and which messages stand under a month or an author key.
use Rattle.std.specs.Prelude.{ℕ, ℤ, pos, int_lt, Bool, ◌&&◌, List, [], ◌∷◌, map, filter, zip, bytes_eq, if◌then◌else◌}
use Rattle.std.specs.Ordering.{int_eq}
use Rattle.civil_time.specs.Calendar.{month_of_instant}
use Rattle.mail_core.specs.Author.{author_of}
use Rattle.mail_core.specs.Headers.{sent_date_of}
use Rattle.mbox_items.specs.Division.{Item, whole}
use Rattle.archive_model.specs.Records.{Message, IndexColumns, Archive}

-- ---- what is filed of a text

-- by the sent date
abbrev pub index_columns_by_date : (sent : ℤ) (author : List ℕ) → IndexColumns
index_columns_by_date sent author = record { sent = sent; month = pos (month_of_instant sent); author = author }

-- of a whole text that arrived at this instant
abbrev pub index_columns_of_text : (text : List ℕ) (arrival : ℤ) → IndexColumns
index_columns_of_text text arrival = index_columns_by_date (sent_date_of text arrival) (author_of text)

abbrev pub item_index_columns : Item → IndexColumns
item_index_columns item = index_columns_of_text (whole item.text) item.envelope.arrival

abbrev pub message_index_columns : Message → IndexColumns
message_index_columns m = index_columns_of_text m.text m.arrival

-- ---- what is found by it

-- a message, with what is filed of it
abbrev pub IndexedMessage : Type 0
IndexedMessage = Message × IndexColumns

-- each message with the sent date, month and author key that it is found by, in the order in which they came
abbrev pub indexed_messages : Archive → List IndexedMessage
indexed_messages archive = zip archive.messages archive.index_columns

abbrev pub is_sent_before : IndexedMessage → IndexedMessage → Bool
is_sent_before f g = int_lt f.1.sent g.1.sent

-- a message before the first that was not sent before it
abbrev pub insert_by_indexed_date : IndexedMessage → List IndexedMessage → List IndexedMessage
insert_by_indexed_date f [] = f ∷ []
insert_by_indexed_date f (g ∷ gs) = if is_sent_before g f then g ∷ insert_by_indexed_date f gs else f ∷ g ∷ gs

-- By the sent date that is filed; those of one sent date stay in their order.
abbrev pub sort_by_indexed_date : List IndexedMessage → List IndexedMessage
sort_by_indexed_date [] = []
sort_by_indexed_date (f ∷ fs) = insert_by_indexed_date f (sort_by_indexed_date fs)

abbrev pub is_indexed_in_month : (list : List ℕ) (month : ℤ) → IndexedMessage → Bool
is_indexed_in_month list month f = bytes_eq f.0.list list && int_eq f.1.month month

abbrev pub is_indexed_by_author : (list key : List ℕ) → IndexedMessage → Bool
is_indexed_by_author list key f = bytes_eq f.0.list list && bytes_eq f.1.author key

-- the messages of a list that are filed under a month, by the sent date that is filed and then in mailbox order
abbrev pub messages_in_month : Archive → (list : List ℕ) → (month : ℤ) → List Message
messages_in_month archive list month = map (λ (f : IndexedMessage). f.0) (sort_by_indexed_date (filter (is_indexed_in_month list month) (indexed_messages archive)))

-- the same of an author key
abbrev pub messages_by_author : Archive → (list key : List ℕ) → List Message
messages_by_author archive list key = map (λ (f : IndexedMessage). f.0) (sort_by_indexed_date (filter (is_indexed_by_author list key) (indexed_messages archive)))
