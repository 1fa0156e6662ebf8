-- What the queries show of a record, and the record of what was read.
use Rattle.std.specs.Prelude.{◌≡◌, ◌⊎◌, if◌then◌else◌, Bool, IsUtf8, ℕ, ℤ, pos, List, [], ◌∷◌, map, filter, find, bytes_eq, string_bytes, Option, None, option_map}
use Rattle.std.specs.Ordering.{int_eq}
use Rattle.sqlite.specs.declared.types.Value.TheVariants.{Int, Text, Blob}
use Rattle.sqlite.specs.Order.{Row, column}
use Rattle.sqlite.specs.Tree.{Trees}
use Rattle.sqlite.specs.declared.error.Error.{Error}
use Rattle.sqlite.specs.declared.error.Error.TheVariants.{SqliteFailure, Utf8Error}
use Rattle.sqlite.specs.declared.error.ErrorCode.TheVariants.{OutOfMemory}
use Rattle.archive_model.specs.Records.{Grant, Message, IndexColumns as Filed, ListOption}
use Rattle.archive_model.specs.Filing.{IndexedMessage, is_indexed_in_month, is_indexed_by_author, is_sent_before}
use Rattle.archive_tables.specs.Tables.{int_or_null_value, merge_flag, NumberedRecord, numbered_from_row, indexed_message_from_row}
use Rattle.archive_tables.specs.declared.rows.MessageRow.{MessageRow}
use Rattle.archive_tables.specs.declared.rows.NewMessage.{NewMessage}
use Rattle.archive_tables.specs.declared.rows.IndexColumns.{IndexColumns}
use Rattle.archive_tables.specs.declared.rows.DatedMarksRow.{DatedMarksRow}
use Rattle.archive_tables.specs.declared.rows.GrantRow.{GrantRow}

-- a message as it comes in: not withdrawn, and under no embargo
abbrev pub unmarked_message : List ℕ → List ℕ → List ℕ → ℤ → List ℕ → Message
unmarked_message list key sender arrival text = record { list = list; key = key; sender = sender; arrival = arrival; text = text; withdrawn = pos 0; embargo = None }

-- that message as the code has it, and what it is filed under
abbrev pub added_message : List ℕ → NewMessage → Message
added_message list m = unmarked_message list m.key.now m.sender.now m.arrival m.text.now

abbrev pub model_index_columns : IndexColumns → Filed
model_index_columns c = record { sent = c.sent; month = c.month; author = c.author.now }

-- the numbers of all versions
abbrev pub version_result_rows : Trees → List Row
version_result_rows trees = map (λ row. column row 1 ∷ []) (trees 0)

-- a row of one column: the name of a list or of a person
abbrev pub name_result_row : List ℕ → Row
name_result_row name = Text name ∷ []

-- a message without its list
abbrev pub message_result_row : Message → Row
message_result_row m = Text m.key ∷ Blob m.sender ∷ Int m.arrival ∷ Blob m.text ∷ Int m.withdrawn ∷ int_or_null_value m.embargo ∷ []

-- the message that a row says; its list is the one that the query asked for, and has no column
abbrev pub message_from_result_row : List ℕ → MessageRow → Message
message_from_result_row list r = record {
  list = list;
  key = string_bytes r.key;
  sender = r.sender.items;
  arrival = r.arrival;
  text = r.text.items;
  withdrawn = r.withdrawn;
  embargo = r.embargo;
}

-- when a message came, and its two marks: who withdrew it, and the day up to which it is held back
abbrev pub dated_marks_result_row : Message → Row
dated_marks_result_row m = Int m.arrival ∷ Int m.withdrawn ∷ int_or_null_value m.embargo ∷ []

-- the same as they are read: the arrival in seconds, who withdrew it (0 nobody, 1 its author, 2 the board), and the embargo's day
abbrev pub decoded_dated_marks : Message → DatedMarksRow
decoded_dated_marks m = record { arrival = m.arrival; withdrawn = m.withdrawn; embargo = m.embargo }

-- what is said of the threads of a list
abbrev pub merge_result_row : ListOption → Row
merge_result_row o = Int (merge_flag o.merge) ∷ []

-- a grant without its person and list
abbrev pub grant_result_row : Grant → Row
grant_result_row g = Int g.rank ∷ Int g.from_day ∷ Int g.until_day ∷ []

-- the grant that a row says; its person and list are those that the query asked for, and have no columns
abbrev pub grant_from_result_row : List ℕ → List ℕ → GrantRow → Grant
grant_from_result_row person list r = record { person = person; list = list; rank = r.rank; from_day = r.from_day; until_day = r.until_day }

-- ---- why a row is not read

-- SQLite's SQLITE_NOMEM: the one fault for which no row is to blame
abbrev pub out_of_memory_error : Error
out_of_memory_error = SqliteFailure OutOfMemory

-- of a row that begins with a text: there is no memory, or the text is no UTF-8
abbrev pub IsTextReadError : List ℕ → Error → Type 0
IsTextReadError text e = (e ≡ out_of_memory_error) ⊎ ((¬ IsUtf8 text) × (e ≡ Utf8Error 0))

-- ---- the messages by their numbers

abbrev pub numbered_indexed_messages : Trees → List (NumberedRecord IndexedMessage)
numbered_indexed_messages trees = map (numbered_from_row indexed_message_from_row) (trees 8)

-- the numbers of a list's messages, in mailbox order
abbrev pub message_rowids_in : Trees → List ℕ → List ℤ
message_rowids_in trees list = map (λ (r : NumberedRecord IndexedMessage). r.number) (filter (λ (r : NumberedRecord IndexedMessage). bytes_eq r.content.0.list list) (numbered_indexed_messages trees))

-- the message of a number
abbrev pub message_at : Trees → ℤ → Option Message
message_at trees place = option_map (λ (r : NumberedRecord IndexedMessage). r.content.0) (find (λ (r : NumberedRecord IndexedMessage). int_eq r.number place) (numbered_indexed_messages trees))

-- a row of one column: the rowid of a message, its column `pos`
abbrev pub rowid_result_row : ℤ → Row
rowid_result_row place = Int place ∷ []

-- ---- the messages that are filed under a month or an author key, by the numbers of their rows

abbrev pub was_sent_before : NumberedRecord IndexedMessage → NumberedRecord IndexedMessage → Bool
was_sent_before r s = is_sent_before r.content s.content

-- a row before the first that was not sent before it
abbrev pub with_dated_row : NumberedRecord IndexedMessage → List (NumberedRecord IndexedMessage) → List (NumberedRecord IndexedMessage)
with_dated_row r [] = r ∷ []
with_dated_row r (s ∷ rows) = if was_sent_before s r then s ∷ with_dated_row r rows else r ∷ s ∷ rows

-- by the sent date that is filed, and then by their numbers
abbrev pub rows_by_date : List (NumberedRecord IndexedMessage) → List (NumberedRecord IndexedMessage)
rows_by_date [] = []
rows_by_date (r ∷ rows) = with_dated_row r (rows_by_date rows)

-- the numbers of the rows of which this holds
abbrev pub message_rowids_where : (IndexedMessage → Bool) → Trees → List ℤ
message_rowids_where wanted trees = map (λ (r : NumberedRecord IndexedMessage). r.number)
    (rows_by_date (filter (λ (r : NumberedRecord IndexedMessage). wanted r.content) (numbered_indexed_messages trees)))

-- the rowids of a list's messages that were sent in a month (year times 12 plus month less 1, in UTC), by sent date and then in
-- mailbox order
abbrev pub month_rowids : Trees → (list : List ℕ) → (month : ℤ) → List ℤ
month_rowids trees list month = message_rowids_where (is_indexed_in_month list month) trees

-- the rowids of a list's messages of an author key, by sent date and then in mailbox order
abbrev pub author_rowids : Trees → (list key : List ℕ) → List ℤ
author_rowids trees list key = message_rowids_where (is_indexed_by_author list key) trees
