-- The room that many commands need, one after the other, and what they make of the rows.
use Rattle.std.specs.Prelude.{⊤, ◌≡◌, ◌<◌, ◌≤◌, ◌≤ℤ◌, ◌<ℤ◌, ◌+◌, ◌+ℤ◌, ◌^◌, ℕ, ℤ, pos, true, List, [], ◌∷◌, ◌++◌, length, None}
use Rattle.std.specs.List.{AllByRecursion}
use Rattle.sqlite.specs.Edit.{id_in}
use Rattle.sqlite.specs.Effect.{Database}
use Rattle.sqlite.specs.Ops.{fits_i64}
use Rattle.sqlite.specs.Order.{Row}
use Rattle.sqlite.specs.Rows.{counter_in}
use Rattle.sqlite.specs.Tree.{Trees, rowid}
use Rattle.archive_model.specs.Addresses.{normalize_address}
use Rattle.archive_model.specs.Commands.{Command, list_add, person_add, grant, revoke, add, withdraw, restore, embargo, lift, merge_set, address_set}
use Rattle.archive_model.specs.Commands.{CommandReply, already_known, refused as refused_by}
use Rattle.archive_model.specs.Filing.{indexed_messages}
use Rattle.archive_model.specs.Keys.{item_key}
use Rattle.archive_model.specs.Machine.{default_list_option, step}
use Rattle.archive_tables.specs.Schema.{message_table, sequence_table}
use Rattle.archive_tables.specs.Statements.{Statement, StatementsExecuteTo, insert_list_statement, insert_option_statement, insert_person_statement, delete_grant_statement}
use Rattle.archive_tables.specs.Statements.{set_withdrawn_statement, set_embargo_statement, clear_embargo_statement, update_option_statement}
use Rattle.archive_tables.specs.Tables.{HoldsRecords, archive_in_trees}
use Rattle.archive_database.specs.Taking.{insert_item_statement}
use Rattle.archive_store.specs.Refusals.{IsCommandRefused, upsert_grant_statement, upsert_address_statement}
use Rattle.archive_sound.specs.Room.{AreShort, HaveShortNumbers, HasFreeNumber, IsCommandInRange, longest_list_name, longest_row, message_count, sequence_cells, sequence_from_row}

-- ---- the room

-- the number is one of 64 bits, and so are as many above it
pub record HasNumbersAbove (more : ℕ) (number : ℤ) : Type 0 where
  pub fits : fits_i64 number ≡ true
  pub above : (number +ℤ pos more) <ℤ pos (2 ^ 63)

-- as many rows can come after these, each under the number after the last
abbrev pub LeaveNumbers : ℕ → List Row → Type 0
LeaveNumbers more = AllByRecursion (λ row. HasNumbersAbove more (id_in (rowid row)))

-- as many messages can be counted, each under the next number (`sqlite_sequence`)
pub record CanCount (more : ℕ) (trees : Trees) : Type 0 where
  pub is_positive : pos 0 ≤ℤ message_count trees
  pub above : (message_count trees +ℤ pos more) <ℤ pos (2 ^ 63)
  pub sequence : HoldsRecords sequence_cells sequence_from_row (trees 10)
  pub numbers : HaveShortNumbers (trees 10)
  pub number : counter_in trees message_table sequence_table ≡ None → HasFreeNumber (trees 10)

-- Room for as many commands, one after the other, whichever they are: each may add a row to a table of lists, persons, grants, messages,
-- options or addresses, or mark a message, whose row has to be short for that.
pub record HasRoomFor (more : ℕ) (trees : Trees) : Type 0 where
  pub is_number : more < 2 ^ 63
  pub lists : LeaveNumbers more (trees 1)
  pub persons : LeaveNumbers more (trees 3)
  pub grants : LeaveNumbers more (trees 6)
  pub messages : LeaveNumbers more (trees 8)
  pub options : LeaveNumbers more (trees 13)
  pub addresses : LeaveNumbers more (trees 15)
  pub count : CanCount more trees
  pub short : AreShort (indexed_messages (archive_in_trees trees))

-- ---- the commands

-- What has no other bound in a command is short: the machine bounds the names and the token of a list or a person that is added, and the
-- sender and the text of a message, and what is taken away or marked is found by its name.
abbrev pub IsCommandShort : Command → Type 0
IsCommandShort (grant person list rank from_day until_day) = length person + length list ≤ longest_row
IsCommandShort (add list item) = length list ≤ longest_list_name
IsCommandShort (merge_set list merge) = length list ≤ longest_row
IsCommandShort (address_set person address) = length person + length (normalize_address address) ≤ longest_row
IsCommandShort _ = ⊤

-- A command whose names and address are short, and whose numbers are ranks, parties and days.
pub record IsOrdinaryCommand (command : Command) : Type 0 where
  pub is_short : IsCommandShort command
  pub is_in_range : IsCommandInRange command

-- ---- what they make of the rows

-- the statements that a command writes, one after the other (`IsWriteRefused`): a list comes with its option
abbrev pub statements_of : Command → Database → List Statement
statements_of (list_add name) db = insert_list_statement name ∷ insert_option_statement (default_list_option name) ∷ []
statements_of (person_add name token) db = insert_person_statement (record { name = name; token = token }) ∷ []
statements_of (grant person list rank from_day until_day) db =
    upsert_grant_statement (record { person = person; list = list; rank = rank; from_day = from_day; until_day = until_day }) db ∷ []
statements_of (revoke person list rank) db = delete_grant_statement person list rank ∷ []
statements_of (add list item) db = insert_item_statement list (item_key item) item ∷ []
statements_of (withdraw list key party) db = set_withdrawn_statement list key party ∷ []
statements_of (restore list key) db = set_withdrawn_statement list key (pos 0) ∷ []
statements_of (embargo list key until_day) db = set_embargo_statement list key until_day ∷ []
statements_of (lift list key) db = clear_embargo_statement list key ∷ []
statements_of (merge_set list merge) db = update_option_statement (record { list = list; merge = merge }) ∷ []
statements_of (address_set person address) db = upsert_address_statement (record { person = person; address = normalize_address address }) db ∷ []

-- a command that the machine carries out is written down, and one that it refuses, or a message that it knows, leaves the rows
abbrev pub WritesCommandIfExecuted : Command → CommandReply → Database → Database → Type 0
WritesCommandIfExecuted command (refused_by why) db after = after ≡ db
WritesCommandIfExecuted command already_known db after = after ≡ db
WritesCommandIfExecuted command _ db after = StatementsExecuteTo (statements_of command db) db after

-- what a command makes of the rows, by the machine's answer
abbrev pub CommandMakesRows : Command → Database → Database → Type 0
CommandMakesRows command db after = WritesCommandIfExecuted command (step (archive_in_trees db.trees) command).1 db after

-- what some commands make of the rows, one after the other
unfoldable pub CommandsMakeRows : List Command → Database → Database → Type 0
CommandsMakeRows [] db after = after ≡ db
CommandsMakeRows (command ∷ commands) db after = (mid : Database) × CommandMakesRows command db mid × CommandsMakeRows commands mid after

-- Some of the commands make rows that refuse the next, which the machine carries out.
pub record RowsRefuseACommand (commands : List Command) (db : Database) : Type 0 where
  pub commands_before : List Command
  pub command : Command
  pub commands_after : List Command
  pub commands_are : commands_before ++ command ∷ commands_after ≡ commands
  pub database : Database
  pub makes_rows : CommandsMakeRows commands_before db database
  pub is_refused : IsCommandRefused command database
