-- All messages by the names of their lists, and what a query shows of one with what is filed of it.
use Rattle.std.specs.Prelude.{if◌then◌else◌, Bool, ℕ, ℤ, List, [], ◌∷◌, map, find, Option, Some, None, option_map}
use Rattle.std.specs.Ordering.{int_eq}
use Rattle.sqlite.specs.declared.types.Value.{Value}
use Rattle.sqlite.specs.declared.types.Value.TheVariants.{Int, Text, Blob}
use Rattle.sqlite.specs.Order.{Row}
use Rattle.sqlite.specs.Tree.{Trees}
use Rattle.archive_model.specs.Filing.{IndexedMessage}
use Rattle.archive_model.specs.Damage.{has_lower_list_name}
use Rattle.archive_tables.specs.Tables.{NumberedRecord}
use Rattle.archive_tables.specs.Rows.{numbered_indexed_messages}
use Rattle.archive_tables.specs.declared.filed.IndexedRow.{IndexedRow}

-- ---- the numbers of all messages

abbrev pub was_listed_before : NumberedRecord IndexedMessage → NumberedRecord IndexedMessage → Bool
was_listed_before r s = has_lower_list_name r.content s.content

-- a row before the first whose list has no lower name
abbrev pub insert_row_by_list : NumberedRecord IndexedMessage → List (NumberedRecord IndexedMessage) → List (NumberedRecord IndexedMessage)
insert_row_by_list r [] = r ∷ []
insert_row_by_list r (s ∷ rows) = if was_listed_before s r then s ∷ insert_row_by_list r rows else r ∷ s ∷ rows

-- by the names of the lists, and then by their numbers
abbrev pub rows_by_list : List (NumberedRecord IndexedMessage) → List (NumberedRecord IndexedMessage)
rows_by_list [] = []
rows_by_list (r ∷ rows) = insert_row_by_list r (rows_by_list rows)

-- the rowids of all messages, lists in the byte order of their names, each list in mailbox order
abbrev pub all_rowids : Trees → List ℤ
all_rowids trees = map (λ (r : NumberedRecord IndexedMessage). r.number) (rows_by_list (numbered_indexed_messages trees))

-- ---- the message of a number, with what is filed of it

-- the message whose row has this rowid, with what is filed of it
abbrev pub filed_at : Trees → ℤ → Option IndexedMessage
filed_at trees place = option_map (λ (r : NumberedRecord IndexedMessage). r.content) (find (λ (r : NumberedRecord IndexedMessage). int_eq r.number place) (numbered_indexed_messages trees))

-- without its marks
abbrev pub indexed_result_row : IndexedMessage → Row
indexed_result_row f = Text f.0.list ∷ Text f.0.key ∷ Blob f.0.sender ∷ Int f.0.arrival ∷ Blob f.0.text ∷ Int f.1.sent ∷ Int f.1.month ∷ Blob f.1.author ∷ []

-- as it was read, with these marks
abbrev pub indexed_message_from_result_row : (withdrawn : ℤ) (embargo : Option ℤ) → IndexedRow → IndexedMessage
indexed_message_from_result_row withdrawn embargo r = (
  record {
    list = r.list.now;
    key = r.key.now;
    sender = r.sender.now;
    arrival = r.arrival;
    text = r.text.now;
    withdrawn = withdrawn;
    embargo = embargo;
  },
  record { sent = r.sent; month = r.month; author = r.author.now },
)

-- the bytes of a value that has some
abbrev pub bytes_of_value : Value → Option (List ℕ)
bytes_of_value (Text t) = Some t
bytes_of_value (Blob b) = Some b
bytes_of_value _ = None
