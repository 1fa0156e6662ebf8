-- What the tables hold: each as a list of records, in the order of the rows' numbers. An update keeps a row's number, so this is
-- the order in which the records came.
use Rattle.std.specs.Prelude.{◌≡◌, ◌≤◌, ⊤, ℕ, ℤ, pos, int_le, nat_le, Bool, true, false, IsTrue, List, [], ◌∷◌, map, Option, Some, None, if◌then◌else◌}
use Rattle.std.specs.List.{AllByRecursion, list_any}
use Rattle.std.specs.Ordering.{int_eq}
use Rattle.std.specs.declared.cmp.Ordering.TheVariants.{Less}
use Rattle.sqlite.specs.declared.types.Value.{Value}
use Rattle.sqlite.specs.declared.types.Value.TheVariants.{Null, Int, Text, Blob}
use Rattle.sqlite.specs.Order.{Row, column, bytes, value_cmp}
use Rattle.sqlite.specs.Tree.{Trees, IsTable, rowid}
use Rattle.sqlite.specs.Edit.{id_in}
use Rattle.sqlite.specs.Effect.{Database}
use Rattle.sqlite.specs.Schema.{Schema}
use Rattle.sqlite.specs.State.{State}
use Rattle.archive_model.specs.Records.{Person, Grant, Message, IndexColumns, ListOption, Address, Archive}
use Rattle.archive_model.specs.Filing.{IndexedMessage}
use Rattle.archive_model.specs.Questions.{is_grant_of_rank, is_message_at_key, is_option_of, is_address_of}
use Rattle.archive_model.specs.Machine.{default_list_option}
use Rattle.archive_tables.specs.Schema.{schema_of_version}

-- ---- the columns of a record, and the record of a row; a row begins with its number

abbrev pub int_or_null_value : Option ℤ → Value
int_or_null_value None = Null
int_or_null_value (Some n) = Int n

abbrev pub int_of_value : Value → Option ℤ
int_of_value (Int n) = Some n
int_of_value _ = None

abbrev pub list_cells : List ℕ → Row
list_cells name = Text name ∷ []

abbrev pub list_from_row : Row → List ℕ
list_from_row row = bytes (column row 1)

abbrev pub person_cells : Person → Row
person_cells p = Text p.name ∷ Text p.token ∷ []

abbrev pub person_from_row : Row → Person
person_from_row row = record { name = bytes (column row 1); token = bytes (column row 2) }

abbrev pub grant_cells : Grant → Row
grant_cells g = Text g.person ∷ Text g.list ∷ Int g.rank ∷ Int g.from_day ∷ Int g.until_day ∷ []

abbrev pub grant_from_row : Row → Grant
grant_from_row row = record {
  person = bytes (column row 1);
  list = bytes (column row 2);
  rank = id_in (column row 3);
  from_day = id_in (column row 4);
  until_day = id_in (column row 5);
}

-- the number stands in the place of the column `pos`
abbrev pub message_from_row : Row → Message
message_from_row row = record {
  list = bytes (column row 2);
  key = bytes (column row 3);
  sender = bytes (column row 4);
  arrival = id_in (column row 5);
  text = bytes (column row 6);
  withdrawn = id_in (column row 7);
  embargo = int_of_value (column row 8);
}

-- 1 where the threads of the list are gathered by subject
abbrev pub merge_flag : Bool → ℤ
merge_flag merge = if merge then pos 1 else pos 0

abbrev pub option_cells : ListOption → Row
option_cells o = Text o.list ∷ Int (merge_flag o.merge) ∷ []

abbrev pub option_from_row : Row → ListOption
option_from_row row = record { list = bytes (column row 1); merge = int_eq (id_in (column row 2)) (pos 1) }

abbrev pub address_cells : Address → Row
address_cells a = Text a.person ∷ Text a.address ∷ []

abbrev pub address_from_row : Row → Address
address_from_row row = record { person = bytes (column row 1); address = bytes (column row 2) }

-- ---- what is filed of a message

-- The columns of a message, and behind them those of what is filed of it
abbrev pub indexed_message_cells : IndexedMessage → Row
indexed_message_cells f = Null ∷ Text f.0.list ∷ Text f.0.key ∷ Blob f.0.sender ∷ Int f.0.arrival ∷ Blob f.0.text ∷ Int f.0.withdrawn ∷ int_or_null_value f.0.embargo
    ∷ Int f.1.sent ∷ Int f.1.month ∷ Blob f.1.author ∷ []

abbrev pub index_columns_from_row : Row → IndexColumns
index_columns_from_row row = record { sent = id_in (column row 9); month = id_in (column row 10); author = bytes (column row 11) }

abbrev pub indexed_message_from_row : Row → IndexedMessage
indexed_message_from_row row = (message_from_row row, index_columns_from_row row)

-- ---- the rows of a table

pub record NumberedRecord (R : Type 0) : Type 0 where
  pub number : ℤ
  pub content : R

abbrev pub numbered_row : {R : Type 0} → (R → Row) → NumberedRecord R → Row
numbered_row cells r = Int r.number ∷ cells r.content

abbrev pub numbered_from_row : {R : Type 0} → (Row → R) → Row → NumberedRecord R
numbered_from_row read row = record { number = id_in (rowid row); content = read row }

-- rows of records, with rising numbers
pub record HoldsRecords {R : Type 0} (cells : R → Row) (read : Row → R) (rows : List Row) : Type 0 where
  pub rows_read_back : rows ≡ map (numbered_row cells) (map (numbered_from_row read) rows)
  pub is_table : IsTable rows

-- no two are the same
abbrev pub HaveDistinctKeys : {R : Type 0} → (R → R → Bool) → List R → Type 0
HaveDistinctKeys same [] = ⊤
HaveDistinctKeys same (r ∷ rest) = (list_any (same r) rest ≡ false) × HaveDistinctKeys same rest

-- every number is above zero
abbrev pub HavePositiveRowids : List Row → Type 0
HavePositiveRowids = AllByRecursion (λ row. value_cmp (Int (pos 0)) (rowid row) ≡ Less)

-- some message has a number of at least this
abbrev pub has_rowid_at_least : Trees → ℕ → Bool
has_rowid_at_least trees limit = list_any (λ row. int_le (pos limit) (id_in (rowid row))) (trees 8)

-- ---- records of the same key

abbrev pub same_grant_key : Grant → Grant → Bool
same_grant_key a b = is_grant_of_rank a.person a.list a.rank b

abbrev pub same_message_key : Message → Message → Bool
same_message_key a b = is_message_at_key a.list a.key b

abbrev pub same_option_key : ListOption → ListOption → Bool
same_option_key a b = is_option_of a.list b

abbrev pub same_address_key : Address → Address → Bool
same_address_key a b = is_address_of a.person b

-- ---- the database

-- the row of a version's number
abbrev pub version_rows : ℤ → List Row
version_rows number = (Int (pos 1) ∷ Int number ∷ []) ∷ []

-- the table `version` holds one row, of this number
abbrev pub HasVersionRow : ℤ → Trees → Type 0
HasVersionRow number trees = (row : Row) × (trees 0 ≡ row ∷ []) × (column row 1 ≡ Int number)

-- how many versions there are: 1 is the first, 2 brought `list_option`, and 3 `address`
abbrev pub newest_version : ℕ
newest_version = 3

-- a version that this program reads: the first to the newest
pub record IsKnownVersion (number : ℕ) : Type 0 where
  pub at_least_one : 1 ≤ number
  pub at_most_newest : number ≤ newest_version

abbrev pub HoldsIf : Bool → Type 0 → Type 0
HoldsIf true It = It
HoldsIf false It = ⊤

-- what a version brought holds of its tables, and of those of each later one
abbrev pub HoldsSinceVersion : (first number : ℕ) → Type 0 → Type 0
HoldsSinceVersion first number It = HoldsIf (nat_le first number) It

-- The tables of a version, of which `version` says this number: each holds rows of its records, and no two grants, messages, options
-- or addresses have the same key.
pub record AreTablesWithVersionRow (said : ℤ) (number : ℕ) (trees : Trees) : Type 0 where
  pub version : trees 0 ≡ version_rows said
  pub lists : HoldsRecords list_cells list_from_row (trees 1)
  pub persons : HoldsRecords person_cells person_from_row (trees 3)
  pub grants : HoldsRecords grant_cells grant_from_row (trees 6)
  pub messages : HoldsRecords indexed_message_cells indexed_message_from_row (trees 8)
  pub grants_distinct : HaveDistinctKeys same_grant_key (map grant_from_row (trees 6))
  pub messages_distinct : HaveDistinctKeys same_message_key (map message_from_row (trees 8))
  pub rowids_are_positive : HavePositiveRowids (trees 8)
  pub options : HoldsSinceVersion 2 number (HoldsRecords option_cells option_from_row (trees 13))
  pub options_distinct : HoldsSinceVersion 2 number (HaveDistinctKeys same_option_key (map option_from_row (trees 13)))
  pub addresses : HoldsSinceVersion 3 number (HoldsRecords address_cells address_from_row (trees 15))
  pub addresses_distinct : HoldsSinceVersion 3 number (HaveDistinctKeys same_address_key (map address_from_row (trees 15)))

-- their number is that of the version
abbrev pub AreTablesOfVersion : ℕ → Trees → Type 0
AreTablesOfVersion number = AreTablesWithVersionRow (pos number) number

-- these are rows of the newest version: records under rising rowids, no grant, message, option or address twice
abbrev pub AreArchiveTables : Trees → Type 0
AreArchiveTables = AreTablesOfVersion newest_version

-- What a database of a version remembers: before version 2 the threads of each list are gathered by subject, and before version 3
-- nobody has an address.
abbrev pub archive_of_version : (number : ℕ) → Trees → Archive
archive_of_version number trees = record {
  lists = map list_from_row (trees 1);
  persons = map person_from_row (trees 3);
  grants = map grant_from_row (trees 6);
  messages = map message_from_row (trees 8);
  index_columns = map index_columns_from_row (trees 8);
  options = if nat_le 2 number then map option_from_row (trees 13) else map default_list_option (map list_from_row (trees 1));
  addresses = if nat_le 3 number then map address_from_row (trees 15) else [];
}

-- the archive that rows of the newest version stand for
abbrev pub archive_in_trees : Trees → Archive
archive_in_trees = archive_of_version newest_version

-- the archive that the connection sees: within a transaction, with what is not committed yet
abbrev pub archive_of : State → Archive
archive_of s = archive_in_trees s.now.trees

-- ---- versions

-- The tables of a version: their schema, of which rows they are, and which archive these stand for.
pub record TablesFormat : Type 1 where
  pub schema : Schema
  pub AreTablesOf : Trees → Type 0
  pub archive_of_trees : Trees → Archive

-- a file of this version: its schema, its rows, and the archive that they stand for
abbrev pub format_of_version : (number : ℕ) → TablesFormat
format_of_version number = record { schema = schema_of_version number; AreTablesOf = AreTablesOfVersion number; archive_of_trees = archive_of_version number }

-- those that this program makes
abbrev pub newest_format : TablesFormat
newest_format = format_of_version newest_version

-- ---- outside a transaction (`None`), or within one that goes back to a database

abbrev pub is_in_transaction : Option Database → Bool
is_in_transaction None = false
is_in_transaction (Some db) = true

-- what is committed, where the connection sees this
abbrev pub committed_database : Option Database → Database → Database
committed_database None now = now
committed_database (Some db) now = db

-- what is behind a transaction is an archive too
abbrev pub RollbackLeavesArchive : TablesFormat → Option Database → Type 0
RollbackLeavesArchive form None = ⊤
RollbackLeavesArchive form (Some db) = (db.schema ≡ form.schema) × form.AreTablesOf db.trees

-- The premise on a database: it is open, with this behind it, and its schema and its tables are of this form, as this crate
-- leaves them.
pub record IsOpenArchiveInFormat (form : TablesFormat) (behind : Option Database) (s : State) : Type 0 where
  pub is_open : IsTrue s.is_open
  pub autocommit : s.in_transaction ≡ is_in_transaction behind
  pub committed_is : s.committed ≡ committed_database behind s.now
  pub schema : s.now.schema ≡ form.schema
  pub tables : form.AreTablesOf s.now.trees
  pub rollback_leaves_archive : RollbackLeavesArchive form behind

-- The premise on a call, in a transaction or not: the newest version, open, and a rollback would leave an archive too.
abbrev pub IsOpenArchive : Option Database → State → Type 0
IsOpenArchive = IsOpenArchiveInFormat newest_format

-- The same outside a transaction. Each call is given it and gives it back.
abbrev pub IsArchiveAtRest : State → Type 0
IsArchiveAtRest = IsOpenArchive None

-- the same, but that its tables may hold any rows
pub record HasSchemaOfFormat (form : TablesFormat) (s : State) : Type 0 where
  pub is_open : IsTrue s.is_open
  pub autocommit : s.in_transaction ≡ false
  pub committed_is_now : s.committed ≡ s.now
  pub schema : s.now.schema ≡ form.schema

-- an open file of the newest version's schema, outside a transaction; its rows may be damaged
abbrev pub HasArchiveSchema : State → Type 0
HasArchiveSchema = HasSchemaOfFormat newest_format
