-- Which statement a command carries out, by what the rows of the database are: why they refuse it (`IsStatementRefused` of the tables).
use Rattle.std.specs.Prelude.{◌≡◌, ⊤, ℕ, pos, List, [], ◌∷◌, ◌++◌, length, if◌then◌else◌}
use Rattle.mbox_items.specs.Division.{Item}
use Rattle.sqlite.specs.Effect.{Database}
use Rattle.archive_model.specs.Records.{Archive, Grant, Address}
use Rattle.archive_model.specs.Addresses.{normalize_address}
use Rattle.archive_model.specs.Commands.{Command, list_add, person_add, grant, revoke, add, withdraw, restore, embargo, lift}
use Rattle.archive_model.specs.Commands.{merge_set, address_set, CommandReply, taken_in, already_known, refused as refused_by}
use Rattle.archive_model.specs.Keys.{item_key}
use Rattle.archive_model.specs.Questions.{has_grant, has_address}
use Rattle.archive_model.specs.Machine.{StepOutcome, add_within_limit, message_limit, step_within_limit}
use Rattle.archive_tables.specs.Tables.{archive_in_trees}
use Rattle.archive_tables.specs.Statements.{Statement, insert_person_statement, update_grant_statement, insert_grant_statement, delete_grant_statement, set_withdrawn_statement, set_embargo_statement}
use Rattle.archive_tables.specs.Statements.{clear_embargo_statement, update_option_statement, update_address_statement, insert_address_statement, IsStatementRefused, StatementExecutesTo}
use Rattle.archive_database.specs.Lists.{IsListRefused}
use Rattle.archive_database.specs.Taking.{insert_item_statement}

-- ---- a command

-- the machine carries a command out: it neither refuses it nor is told of a message that it knows
abbrev pub IsExecutedReply : CommandReply → Type 0
IsExecutedReply (refused_by why) = ⊥
IsExecutedReply already_known = ⊥
IsExecutedReply _ = ⊤

-- The machine carries a step out, and the rows refuse what it writes.
pub record RowsRefuse (step : Archive → StepOutcome) (Refused : Database → Type 0) (db : Database) : Type 0 where
  pub would_execute : IsExecutedReply (step (archive_in_trees db.trees)).1
  pub refuses_rows : Refused db

-- the grant of the same person, list and rank gets the days of this one; where there is none, this one is added
abbrev pub upsert_grant_statement : Grant → Database → Statement
upsert_grant_statement g db = if has_grant (archive_in_trees db.trees) g.person g.list g.rank then update_grant_statement g else insert_grant_statement g

abbrev pub IsGrantRefused : Grant → Database → Type 0
IsGrantRefused g db = IsStatementRefused (upsert_grant_statement g db) db

-- the address of the same person becomes this one; where there is none, this one is added
abbrev pub upsert_address_statement : Address → Database → Statement
upsert_address_statement a db = if has_address (archive_in_trees db.trees) a.person then update_address_statement a else insert_address_statement a

abbrev pub IsAddressRefused : Address → Database → Type 0
IsAddressRefused a db = IsStatementRefused (upsert_address_statement a db) db

-- the message is added, filed by what its text says
abbrev pub IsMessageRefused : List ℕ → Item → Database → Type 0
IsMessageRefused list item = IsStatementRefused (insert_item_statement list (item_key item) item)

-- ---- any command

-- the rows refuse what a command writes
abbrev pub IsWriteRefused : Command → Database → Type 0
IsWriteRefused (list_add name) = IsListRefused name
IsWriteRefused (person_add name token) = IsStatementRefused (insert_person_statement (record { name = name; token = token }))
IsWriteRefused (grant person list rank from until) =
    IsGrantRefused (record { person = person; list = list; rank = rank; from_day = from; until_day = until })
IsWriteRefused (revoke person list rank) = IsStatementRefused (delete_grant_statement person list rank)
IsWriteRefused (add list item) = IsMessageRefused list item
IsWriteRefused (withdraw list key party) = IsStatementRefused (set_withdrawn_statement list key party)
IsWriteRefused (restore list key) = IsStatementRefused (set_withdrawn_statement list key (pos 0))
IsWriteRefused (embargo list key until) = IsStatementRefused (set_embargo_statement list key until)
IsWriteRefused (lift list key) = IsStatementRefused (clear_embargo_statement list key)
IsWriteRefused (merge_set list merge) = IsStatementRefused (update_option_statement (record { list = list; merge = merge }))
IsWriteRefused (address_set person address) = IsAddressRefused (record { person = person; address = normalize_address address })

-- the machine carries a command out, under this limit, and the rows refuse what it writes
abbrev pub IsCommandRefusedWithin : ℕ → Command → Database → Type 0
IsCommandRefusedWithin limit command = RowsRefuse (λ a. step_within_limit limit a command) (IsWriteRefused command)

abbrev pub IsCommandRefused : Command → Database → Type 0
IsCommandRefused = IsCommandRefusedWithin message_limit

-- ---- many messages

-- what a message makes of the rows: one that is taken in is written down, and any other leaves them
abbrev pub WritesMessageIfAdded : List ℕ → Item → CommandReply → Database → Database → Type 0
WritesMessageIfAdded list item taken_in db after = StatementExecutesTo (insert_item_statement list (item_key item) item) db after
WritesMessageIfAdded list item _ db after = after ≡ db

-- what some make of them, one after the other
unfoldable pub MakeRows : List ℕ → List Item → Database → Database → Type 0
MakeRows list [] db after = after ≡ db
MakeRows list (item ∷ items) db after =
    (mid : Database) × WritesMessageIfAdded list item (add_within_limit message_limit (archive_in_trees db.trees) list item).1 db mid × MakeRows list items mid after

-- Some of the items make rows that refuse the next, which the machine takes in.
pub record RowsRefuseAnItem (list : List ℕ) (items : List Item) (db : Database) : Type 0 where
  pub items_before : List Item
  pub item : Item
  pub items_after : List Item
  pub items_are : items_before ++ item ∷ items_after ≡ items
  pub database : Database
  pub makes_rows : MakeRows list items_before db database
  pub is_refused : IsCommandRefused (add list item) database

-- ---- many commands

-- The machine carries out the command behind the first `done`, and the rows refuse what it writes.
pub record RowsRefuseNextCommand (commands : List Command) (done : ℕ) (db : Database) : Type 0 where
  pub commands_before : List Command
  pub command : Command
  pub commands_after : List Command
  pub commands_are : commands_before ++ command ∷ commands_after ≡ commands
  pub done_is_count : length commands_before ≡ done
  pub is_refused : IsCommandRefused command db
