-- A database that holds an archive, and has room for what a command writes.
use Rattle.std.specs.Prelude.{⊤, ◌≡◌, ◌≤◌, ◌≤ℤ◌, ◌<ℤ◌, ◌+◌, ◌+ℤ◌, ◌^◌, ℕ, ℤ, pos, negsuc, true, List, length, drop, None}
use Rattle.std.specs.List.{AllByRecursion}
use Rattle.sqlite.specs.Edit.{id_in, next_rowid}
use Rattle.sqlite.specs.Effect.{Database}
use Rattle.sqlite.specs.Ops.{fits_i64}
use Rattle.sqlite.specs.Order.{Row}
use Rattle.sqlite.specs.Rows.{count_of, counter_in}
use Rattle.sqlite.specs.Tree.{Trees, rowid}
use Rattle.sqlite_schema.specs.Rules.{Obeys}
use Rattle.mbox_items.specs.Division.{Item}
use Rattle.archive_model.specs.Addresses.{normalize_address}
use Rattle.archive_model.specs.Commands.{Command, list_add, person_add, grant, revoke, add, withdraw, restore, embargo, lift, merge_set, address_set}
use Rattle.archive_model.specs.Filing.{IndexedMessage, indexed_messages}
use Rattle.archive_tables.specs.Schema.{archive_schema, message_table, sequence_table}
use Rattle.archive_tables.specs.Tables.{AreArchiveTables, HoldsRecords, archive_in_trees}

-- ---- the database

-- It has the tables of an archive, each row passes the rules of its table, and each index has an entry for each row. The database of an
-- open connection obeys its schema so (`IsDatabase` of sqlite).
pub record IsSoundArchive (db : Database) : Type 0 where
  pub schema : db.schema ≡ archive_schema
  pub tables : AreArchiveTables db.trees
  pub obeys : Obeys archive_schema db.trees

-- ---- the room

-- A row of SQL has a billion bytes at most. This much is left for texts, whatever the table is: each column takes up to 18 bytes beside
-- what it holds.
abbrev pub longest_row : ℕ
longest_row = 999_999_000

-- the same beside a key, and a sender, a whole text and an author key that the machine takes in
abbrev pub longest_list_name : ℕ
longest_list_name = 66_000_000

-- the bytes of all texts of a message's row
abbrev pub message_bytes : IndexedMessage → ℕ
message_bytes f = length f.0.list + (length f.0.key + (length f.0.sender + (length f.0.text + length f.1.author)))

-- each of an archive's messages, with what is filed of it, leaves a row for it within the limit
abbrev pub AreShort : List IndexedMessage → Type 0
AreShort = AllByRecursion (λ f. message_bytes f ≤ longest_row)

-- the number of each row is one of 64 bits
abbrev pub HaveShortNumbers : List Row → Type 0
HaveShortNumbers = AllByRecursion (λ row. fits_i64 (id_in (rowid row)) ≡ true)

-- the number of the next row is one of 64 bits
abbrev pub HasFreeNumber : List Row → Type 0
HasFreeNumber rows = fits_i64 (next_rowid rows) ≡ true

-- the row of `sqlite_sequence` behind its number: the name of a table, and the highest number that was given there
abbrev pub sequence_cells : Row → Row
sequence_cells cells = cells

abbrev pub sequence_from_row : Row → Row
sequence_from_row row = drop 1 row

-- the highest number that `sqlite_sequence` says of the messages
abbrev pub message_count : Trees → ℤ
message_count trees = count_of (counter_in trees message_table sequence_table)

-- The next message gets a number of 64 bits: the number after the last message's is one, and the number after the count.
-- `sqlite_sequence` has rows under rising numbers of 64 bits. If none of them counts messages, its next number is of 64 bits too.
pub record HasCountedNumber (trees : Trees) : Type 0 where
  pub after_last : HasFreeNumber (trees 8)
  pub after_count : fits_i64 (message_count trees +ℤ pos 1) ≡ true
  pub sequence : HoldsRecords sequence_cells sequence_from_row (trees 10)
  pub numbers : HaveShortNumbers (trees 10)
  pub number : counter_in trees message_table sequence_table ≡ None → HasFreeNumber (trees 10)

-- As many messages as this get numbers of 64 bits, one after the other
pub record HasNumbersFor (more : ℕ) (trees : Trees) : Type 0 where
  pub last_is_positive : pos 0 ≤ℤ next_rowid (trees 8)
  pub last : (next_rowid (trees 8) +ℤ pos more) ≤ℤ pos (2 ^ 63)
  pub count_is_positive : pos 0 ≤ℤ message_count trees
  pub count : (message_count trees +ℤ pos more) <ℤ pos (2 ^ 63)
  pub sequence : HoldsRecords sequence_cells sequence_from_row (trees 10)
  pub numbers : HaveShortNumbers (trees 10)
  pub number : counter_in trees message_table sequence_table ≡ None → HasFreeNumber (trees 10)

-- a message can be marked: the row of each is short enough, and its number is of 64 bits
pub record HasRoomForMarks (db : Database) : Type 0 where
  pub messages : AreShort (indexed_messages (archive_in_trees db.trees))
  pub numbers : HaveShortNumbers (db.trees 8)

-- a row of these can be changed to one with so many bytes of text
pub record HasRoomForChange (rows : List Row) (bytes : ℕ) : Type 0 where
  pub short : bytes ≤ longest_row
  pub numbers : HaveShortNumbers rows

-- the same, and a row can be added
pub record HasRoomForUpsert (rows : List Row) (bytes : ℕ) : Type 0 where
  pub short : bytes ≤ longest_row
  pub numbers : HaveShortNumbers rows
  pub number : HasFreeNumber rows

-- a list comes with its option
pub record HasRoomForList (db : Database) : Type 0 where
  pub list : HasFreeNumber (db.trees 1)
  pub option : HasFreeNumber (db.trees 13)

-- A message comes with what is filed of it. The machine bounds its sender and its text, and by that its author key, and a key has 64
-- bytes; so it is the name of its list that has to be short.
pub record HasRoomForMessage (list : List ℕ) (db : Database) : Type 0 where
  pub short : length list ≤ longest_list_name
  pub number : HasCountedNumber db.trees

-- the same of many messages, one after the other
pub record HasRoomForMessages (list : List ℕ) (items : List Item) (db : Database) : Type 0 where
  pub short : length list ≤ longest_list_name
  pub numbers : HasNumbersFor (length items) db.trees

-- The room that a command needs. The machine bounds the names and the token of a list or a person that is added, and what is taken away
-- needs no room.
abbrev pub HasRoom : Command → Database → Type 0
HasRoom (list_add name) db = HasRoomForList db
HasRoom (person_add name token) db = HasFreeNumber (db.trees 3)
HasRoom (grant person list rank from_day until_day) db = HasRoomForUpsert (db.trees 6) (length person + length list)
HasRoom (revoke person list rank) db = ⊤
HasRoom (add list item) db = HasRoomForMessage list db
HasRoom (withdraw list key party) db = HasRoomForMarks db
HasRoom (restore list key) db = HasRoomForMarks db
HasRoom (embargo list key until_day) db = HasRoomForMarks db
HasRoom (lift list key) db = HasRoomForMarks db
HasRoom (merge_set list merge) db = HasRoomForChange (db.trees 13) (length list)
HasRoom (address_set person address) db = HasRoomForUpsert (db.trees 15) (length person + length (normalize_address address))

-- ---- the numbers that a command has

-- 1 the author, 2 the board
pub record IsParty (party : ℤ) : Type 0 where
  pub at_least : pos 1 ≤ℤ party
  pub at_most : party ≤ℤ pos 2

-- 1 a member, 2 a subscriber, 3 a moderator
pub record IsRank (rank : ℤ) : Type 0 where
  pub at_least : pos 1 ≤ℤ rank
  pub at_most : rank ≤ℤ pos 3

-- 1900-01-01 to 9998-12-31
pub record IsDay (day : ℤ) : Type 0 where
  pub at_least : negsuc 25566 ≤ℤ day
  pub at_most : day ≤ℤ pos 2932531

-- a rank from the first day to the last
pub record IsGrantInRange (rank from_day until_day : ℤ) : Type 0 where
  pub rank_is : IsRank rank
  pub from_is : IsDay from_day
  pub until_is : IsDay until_day

-- Each number of a command is a rank, a party or a day.
abbrev pub IsCommandInRange : Command → Type 0
IsCommandInRange (grant person list rank from_day until_day) = IsGrantInRange rank from_day until_day
IsCommandInRange (withdraw list key party) = IsParty party
IsCommandInRange (embargo list key until_day) = IsDay until_day
IsCommandInRange _ = ⊤
