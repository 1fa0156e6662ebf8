-- The tables of the archive, as SQL texts and as the schema that these texts make.
use Rattle.std.specs.Prelude.{true, false, ℕ, ℤ, pos, negsuc, List, [], ◌∷◌, Some, None, codes, ◌==◌, if◌then◌else◌}
use Rattle.sqlite.specs.declared.types.Value.TheVariants.{Null, Int}
use Rattle.sqlite.specs.Collation.TheVariants.{Binary}
use Rattle.sqlite.specs.Kind.{Kind}
use Rattle.sqlite.specs.Kind.TheVariants.{Integer, Text, Blob, Any}
use Rattle.sqlite.specs.Change.{created, indexed}
use Rattle.sqlite.specs.Table.{Table}
use Rattle.sqlite.specs.Schema.{Schema}
use Rattle.sqlite.specs.Term.{Term, lit, col, op2}
use Rattle.sqlite_sql.specs.declared.ops.BinaryOp.TheVariants.{And, Compare}
use Rattle.sqlite_sql.specs.declared.ops.CompareOp.TheVariants.{Ge, Le}
use Rattle.sqlite_schema.specs.declared.schema.Column.{Column}
use Rattle.sqlite_schema.specs.declared.schema.Reference.{Reference}
use Rattle.sqlite_schema.specs.declared.schema.Index.{Index}
use Rattle.sqlite_schema.specs.declared.schema.Action.TheVariants.{NoAction}
use Rattle.sqlite_value.specs.Keys.{plain}

-- ---- the texts

abbrev pub create_version_table : List ℕ
create_version_table = codes "CREATE TABLE version (number INTEGER NOT NULL) STRICT"

abbrev pub create_list_table : List ℕ
create_list_table = codes "CREATE TABLE list (name TEXT NOT NULL PRIMARY KEY) STRICT"

abbrev pub create_person_table : List ℕ
create_person_table = codes "CREATE TABLE person (name TEXT NOT NULL PRIMARY KEY, token TEXT NOT NULL UNIQUE) STRICT"

abbrev pub create_grant_table : List ℕ
create_grant_table = codes "CREATE TABLE grant_row (person TEXT NOT NULL REFERENCES person (name), list TEXT NOT NULL REFERENCES list (name), kind INTEGER NOT NULL CHECK (kind BETWEEN 1 AND 3), from_day INTEGER NOT NULL CHECK (from_day BETWEEN -25567 AND 2932531), until_day INTEGER NOT NULL CHECK (until_day BETWEEN -25567 AND 2932531), PRIMARY KEY (person, list, kind), CHECK (from_day <= until_day)) STRICT"

abbrev pub create_message_table : List ℕ
create_message_table = codes "CREATE TABLE message (pos INTEGER PRIMARY KEY AUTOINCREMENT, list TEXT NOT NULL REFERENCES list (name), key TEXT NOT NULL, sender BLOB NOT NULL, arrival INTEGER NOT NULL, text BLOB NOT NULL, withdrawn INTEGER NOT NULL CHECK (withdrawn BETWEEN 0 AND 2), embargo INTEGER CHECK (embargo BETWEEN -25567 AND 2932531), sent INTEGER NOT NULL, month INTEGER NOT NULL, author BLOB NOT NULL, UNIQUE (list, key)) STRICT"

abbrev pub create_month_index : List ℕ
create_month_index = codes "CREATE INDEX message_by_month ON message (list, month, sent, pos)"

abbrev pub create_author_index : List ℕ
create_author_index = codes "CREATE INDEX message_by_author ON message (list, author, sent, pos)"

abbrev pub create_option_table : List ℕ
create_option_table = codes "CREATE TABLE list_option (list TEXT NOT NULL PRIMARY KEY REFERENCES list (name), merge INTEGER NOT NULL CHECK (merge BETWEEN 0 AND 1)) STRICT"

abbrev pub create_address_table : List ℕ
create_address_table = codes "CREATE TABLE address (person TEXT NOT NULL PRIMARY KEY REFERENCES person (name), address TEXT NOT NULL) STRICT"

-- ---- what they define: a tree for the rows of each table, and one for each key that is no rowid

abbrev needed : List ℕ → Kind → Column
needed name kind = record { name = name; kind = kind; is_strict = true; not_null = true; default = Null; collation = Binary }

abbrev optional : List ℕ → Kind → Column
optional name kind = record { name = name; kind = kind; is_strict = true; not_null = false; default = Null; collation = Binary }

abbrev free : List ℕ → Column
free name = record { name = name; kind = Any; is_strict = false; not_null = false; default = Null; collation = Binary }

-- the column refers to the name of a row of another table
abbrev names_row_of : List ℕ → ℕ → Reference
names_row_of parent place = record {
  columns = place ∷ [];
  parent = parent;
  parent_columns = codes "name" ∷ [];
  on_delete = NoAction;
  on_update = NoAction;
  is_deferred = false;
}

abbrev is_within : ℤ → ℤ → ℕ → Term
is_within low high place = op2 And (op2 (Compare Ge Binary) (col 1 place) (lit (Int low))) (op2 (Compare Le Binary) (col 1 place) (lit (Int high)))

-- 1900-01-01 to 9998-12-31
abbrev is_day : ℕ → Term
is_day = is_within (negsuc 25566) (pos 2932531)

abbrev table : List ℕ → ℕ → List Column → Table
table name tree columns = record {
  name = name;
  tree = tree;
  columns = columns;
  key = None;
  primary = [];
  uniques = [];
  orders = [];
  checks = [];
  references = [];
  computed = [];
  stamps = record { places = []; terms = []; formats = [] };
  is_counted = false;
}

abbrev pub version_table : Table
version_table = table (codes "version") 0 (needed (codes "number") Integer ∷ [])

abbrev pub list_table : Table
list_table = record (table (codes "list") 1 (needed (codes "name") Text ∷ [])) { primary = 1 ∷ []; uniques = (1 ∷ []) ∷ []; orders = plain ∷ [] }

abbrev pub person_table : Table
person_table = record (table (codes "person") 3 (needed (codes "name") Text ∷ needed (codes "token") Text ∷ []))
    { primary = 1 ∷ []; uniques = (1 ∷ []) ∷ (2 ∷ []) ∷ []; orders = plain ∷ plain ∷ [] }

abbrev pub grant_table : Table
grant_table = record (table (codes "grant_row") 6 (needed (codes "person") Text ∷ needed (codes "list") Text ∷ needed (codes "kind") Integer
    ∷ needed (codes "from_day") Integer ∷ needed (codes "until_day") Integer ∷ [])) {
      primary = 1 ∷ 2 ∷ 3 ∷ [];
      uniques = (1 ∷ 2 ∷ 3 ∷ []) ∷ [];
      orders = plain ∷ [];
      checks = is_within (pos 1) (pos 3) 3 ∷ is_day 4 ∷ is_day 5 ∷ op2 (Compare Le Binary) (col 1 4) (col 1 5) ∷ [];
      references = names_row_of (codes "person") 1 ∷ names_row_of (codes "list") 2 ∷ [];
    }

abbrev pub message_table : Table
message_table = record (table (codes "message") 8 (optional (codes "pos") Integer ∷ needed (codes "list") Text ∷ needed (codes "key") Text
    ∷ needed (codes "sender") Blob ∷ needed (codes "arrival") Integer ∷ needed (codes "text") Blob ∷ needed (codes "withdrawn") Integer
    ∷ optional (codes "embargo") Integer ∷ needed (codes "sent") Integer ∷ needed (codes "month") Integer ∷ needed (codes "author") Blob ∷ [])) {
      key = Some 0;
      primary = 0 ∷ [];
      uniques = (2 ∷ 3 ∷ []) ∷ [];
      orders = plain ∷ [];
      checks = is_within (pos 0) (pos 2) 7 ∷ is_day 8 ∷ [];
      references = names_row_of (codes "list") 2 ∷ [];
      is_counted = true;
    }

-- the highest number that AUTOINCREMENT has given, in a table that the first such table brings along
abbrev pub sequence_table : Table
sequence_table = table (codes "sqlite_sequence") 10 (free (codes "name") ∷ free (codes "seq") ∷ [])

abbrev key_of : List ℕ → ℕ → ℕ → List ℕ → Index
key_of name tree table columns = record { name = name; tree = tree; table = table; columns = columns; order = plain; is_unique = true }

-- an index that is no key
abbrev index_of : List ℕ → List ℕ → Index
index_of name columns = record {
  name = name;
  tree = 0;
  table = 8;
  columns = columns;
  order = plain;
  is_unique = false;
}

abbrev pub month_index : Index
month_index = index_of (codes "message_by_month") (2 ∷ 10 ∷ 9 ∷ 0 ∷ [])

abbrev pub author_index : Index
author_index = index_of (codes "message_by_author") (2 ∷ 11 ∷ 9 ∷ 0 ∷ [])

abbrev pub option_table : Table
option_table = record (table (codes "list_option") 13 (needed (codes "list") Text ∷ needed (codes "merge") Integer ∷ [])) {
  primary = 1 ∷ [];
  uniques = (1 ∷ []) ∷ [];
  orders = plain ∷ [];
  checks = is_within (pos 0) (pos 1) 2 ∷ [];
  references = names_row_of (codes "list") 1 ∷ [];
}

abbrev pub address_table : Table
address_table = record (table (codes "address") 15 (needed (codes "person") Text ∷ needed (codes "address") Text ∷ [])) {
  primary = 1 ∷ [];
  uniques = (1 ∷ []) ∷ [];
  orders = plain ∷ [];
  references = names_row_of (codes "person") 1 ∷ [];
}

-- ---- the schema of each version: a table more behind those of the one before, so that a file that is brought over has the schema
-- of one that is new

-- the schema of a new file, in which nothing was made (SQLite's file format, section 2.6)
abbrev pub empty_schema : Schema
empty_schema = record { tables = []; indexes = []; views = [] }

-- Version 1: lists, persons, grants and messages, found by month and by author key; with them SQLite's own `sqlite_sequence` and
-- `sqlite_autoindex` objects (SQLite's file format, section 2.6).
abbrev pub schema_1 : Schema
schema_1 = record {
  tables = version_table ∷ list_table ∷ person_table ∷ grant_table ∷ message_table ∷ sequence_table ∷ [];
  indexes =
      key_of (codes "sqlite_autoindex_list_1") 2 1 (1 ∷ []) ∷ key_of (codes "sqlite_autoindex_person_1") 4 3 (1 ∷ [])
      ∷ key_of (codes "sqlite_autoindex_person_2") 5 3 (2 ∷ []) ∷ key_of (codes "sqlite_autoindex_grant_row_1") 7 6 (1 ∷ 2 ∷ 3 ∷ [])
      ∷ key_of (codes "sqlite_autoindex_message_1") 9 8 (2 ∷ 3 ∷ []) ∷ record month_index { tree = 11 } ∷ record author_index { tree = 12 } ∷ [];
  views = [];
}

-- version 2, with an option for each list: whether its threads are gathered by subject (RFC 5256, THREAD=REFERENCES, step 5)
abbrev pub schema_2 : Schema
schema_2 = created schema_1 option_table

abbrev pub schema_3 : Schema
schema_3 = created schema_2 address_table

-- that of the tables that this program makes
abbrev pub archive_schema : Schema
archive_schema = schema_3

-- by the number of a version, 1 to 3
abbrev pub schema_of_version : (number : ℕ) → Schema
schema_of_version number = if number == 1 then schema_1 else if number == 2 then schema_2 else schema_3

-- ---- what is there after each of the texts, up to the last of version 1

-- `version` comes first: its one row says which version the tables are of
abbrev pub schema_with_version_table : Schema
schema_with_version_table = created empty_schema version_table

-- then `list`: the names of the mailing lists, no name twice
abbrev pub schema_with_lists : Schema
schema_with_lists = created schema_with_version_table list_table

-- then `person`: names and bearer tokens, neither of them twice
abbrev pub schema_with_persons : Schema
schema_with_persons = created schema_with_lists person_table

-- then `grant_row`: grants refer to persons and lists, and a person has one of a kind on a list
abbrev pub schema_with_grants : Schema
schema_with_grants = created schema_with_persons grant_table

-- then `message`, and `sqlite_sequence` (SQLite's file format, section 2.6), which AUTOINCREMENT brings so that no rowid is given
-- twice
abbrev pub schema_with_messages : Schema
schema_with_messages = created (created schema_with_grants message_table) sequence_table

-- then the index of messages by list, month and sent date; of version 1 only the index by author key is missing
abbrev pub schema_with_month_index : Schema
schema_with_month_index = indexed schema_with_messages message_table month_index
