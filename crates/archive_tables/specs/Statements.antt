-- The statements that change an archive, and what SQL says of them on the rows of a database.
use Rattle.std.specs.Prelude.{◌≡◌, ◌⊎◌, ℕ, ℤ, pos, false, List, [], ◌∷◌, ◌++◌, ◌==◌, if◌then◌else◌, codes, Option, None, Result, Ok, Err}
use Rattle.sqlite.specs.declared.error.Error.{Error}
use Rattle.sqlite.specs.declared.run.Mode.{Mode}
use Rattle.sqlite.specs.declared.types.Value.TheVariants.{Int, Text, Blob}
use Rattle.sqlite.specs.Does.{Tally, Does}
use Rattle.sqlite.specs.Effect.{Database}
use Rattle.sqlite.specs.Listing.{understood}
use Rattle.sqlite.specs.Order.{Row}
use Rattle.sqlite.specs.State.{text_of}
use Rattle.sqlite_resolve.specs.declared.compiled.Compiled.{Compiled}
use Rattle.sqlite_resolve.specs.declared.error.CompileError.{CompileError}
use Rattle.sqlite_schema.specs.declared.schema.Keys.TheVariants.{Enforced}
use Rattle.archive_model.specs.Records.{Person, Grant, Message, IndexColumns, ListOption, Address}
use Rattle.archive_tables.specs.Schema.{create_version_table, create_list_table, create_person_table, create_grant_table}
use Rattle.archive_tables.specs.Schema.{create_message_table, create_month_index, create_author_index, create_option_table, create_address_table}
use Rattle.archive_tables.specs.Tables.{newest_version, person_cells, grant_cells, option_cells, address_cells}

-- the text of a statement, and what is put in for its parameters
pub record Statement : Type 0 where
  pub sql : List ℕ
  pub parameters : Row

abbrev pub insert_list_statement : List ℕ → Statement
insert_list_statement name = record { sql = codes "INSERT INTO list (name) VALUES (?1)"; parameters = Text name ∷ [] }

abbrev pub insert_person_statement : Person → Statement
insert_person_statement p = record { sql = codes "INSERT INTO person (name, token) VALUES (?1, ?2)"; parameters = person_cells p }

abbrev pub insert_grant_statement : Grant → Statement
insert_grant_statement g = record {
  sql = codes "INSERT INTO grant_row (person, list, kind, from_day, until_day) VALUES (?1, ?2, ?3, ?4, ?5)";
  parameters = grant_cells g;
}

-- the grant of the same person, list and rank gets the days of this one
abbrev pub update_grant_statement : Grant → Statement
update_grant_statement g = record {
  sql = codes "UPDATE grant_row SET from_day = ?4, until_day = ?5 WHERE person = ?1 AND list = ?2 AND kind = ?3";
  parameters = grant_cells g;
}

abbrev pub delete_grant_statement : (person list : List ℕ) (rank : ℤ) → Statement
delete_grant_statement person list rank = record {
  sql = codes "DELETE FROM grant_row WHERE person = ?1 AND list = ?2 AND kind = ?3";
  parameters = Text person ∷ Text list ∷ Int rank ∷ [];
}

-- it is neither withdrawn nor under embargo, whatever its marks say
abbrev pub insert_message_statement : Message → IndexColumns → Statement
insert_message_statement m filing = record {
  sql = codes "INSERT INTO message (list, key, sender, arrival, text, withdrawn, embargo, sent, month, author) VALUES (?1, ?2, ?3, ?4, ?5, 0, NULL, ?6, ?7, ?8)";
  parameters = Text m.list ∷ Text m.key ∷ Blob m.sender ∷ Int m.arrival ∷ Blob m.text ∷ Int filing.sent ∷ Int filing.month ∷ Blob filing.author ∷ [];
}

abbrev pub set_withdrawn_statement : (list key : List ℕ) (by : ℤ) → Statement
set_withdrawn_statement list key by = record {
  sql = codes "UPDATE message SET withdrawn = ?3 WHERE list = ?1 AND key = ?2";
  parameters = Text list ∷ Text key ∷ Int by ∷ [];
}

abbrev pub set_embargo_statement : (list key : List ℕ) (until : ℤ) → Statement
set_embargo_statement list key until = record {
  sql = codes "UPDATE message SET embargo = ?3 WHERE list = ?1 AND key = ?2";
  parameters = Text list ∷ Text key ∷ Int until ∷ [];
}

abbrev pub clear_embargo_statement : (list key : List ℕ) → Statement
clear_embargo_statement list key = record { sql = codes "UPDATE message SET embargo = NULL WHERE list = ?1 AND key = ?2"; parameters = Text list ∷ Text key ∷ [] }

abbrev pub insert_option_statement : ListOption → Statement
insert_option_statement o = record { sql = codes "INSERT INTO list_option (list, merge) VALUES (?1, ?2)"; parameters = option_cells o }

abbrev pub update_option_statement : ListOption → Statement
update_option_statement o = record { sql = codes "UPDATE list_option SET merge = ?2 WHERE list = ?1"; parameters = option_cells o }

abbrev pub insert_address_statement : Address → Statement
insert_address_statement a = record { sql = codes "INSERT INTO address (person, address) VALUES (?1, ?2)"; parameters = address_cells a }

abbrev pub update_address_statement : Address → Statement
update_address_statement a = record { sql = codes "UPDATE address SET address = ?2 WHERE person = ?1"; parameters = address_cells a }

-- the texts of the schema

abbrev creating : List ℕ → Statement
creating text = record { sql = text; parameters = [] }

abbrev pub create_version_statement : Statement
create_version_statement = creating create_version_table

abbrev pub create_list_statement : Statement
create_list_statement = creating create_list_table

abbrev pub create_person_statement : Statement
create_person_statement = creating create_person_table

abbrev pub create_grant_statement : Statement
create_grant_statement = creating create_grant_table

abbrev pub create_message_statement : Statement
create_message_statement = creating create_message_table

abbrev pub create_month_index_statement : Statement
create_month_index_statement = creating create_month_index

abbrev pub create_author_index_statement : Statement
create_author_index_statement = creating create_author_index

abbrev pub create_option_statement : Statement
create_option_statement = creating create_option_table

abbrev pub create_address_statement : Statement
create_address_statement = creating create_address_table

-- the number of the newest version
abbrev pub insert_version_statement : Statement
insert_version_statement = record { sql = codes "INSERT INTO version (number) VALUES (?1)"; parameters = Int (pos newest_version) ∷ [] }

-- the same in the place of an older one
abbrev pub update_version_statement : Statement
update_version_statement = record { sql = codes "UPDATE version SET number = ?1"; parameters = Int (pos newest_version) ∷ [] }

-- an option for each list
abbrev pub backfill_options_statement : Statement
backfill_options_statement = record { sql = codes "INSERT INTO list_option (list, merge) SELECT name, 1 FROM list ORDER BY rowid"; parameters = [] }

-- ---- what SQL says of one

-- every foreign key holds behind every statement
abbrev at_once : Mode
at_once = record { keys = Enforced; in_doubt = false; may_wait = false }

abbrev ends_as : Result Compiled CompileError → Statement → Database → Result (Tally × Database) (Option Error) → Type 0
ends_as (Ok c) st db out = Does None at_once st.parameters db (text_of st.sql c) c.returning c.command out
ends_as (Err e) st db out = ⊥

-- how a statement may end on a database, but for want of memory and the disk
abbrev pub StatementMayEndIn : Statement → Database → Result (Tally × Database) (Option Error) → Type 0
StatementMayEndIn st db out = ends_as (understood db.schema st.sql) st db out

-- The rows themselves refuse the statement: a row that it makes breaks a rule of the schema (a key that is there twice, a name that
-- no row has, a value out of its range), has no number of 64 bits, or is too long to be stored (IsStatementRefused, IsOversized of sqlite).
abbrev pub IsStatementRefused : Statement → Database → Type 0
IsStatementRefused st db = (stop : Option Error) × StatementMayEndIn st db (Err stop)

-- this is what the statement makes of it
abbrev pub StatementExecutesTo : Statement → Database → Database → Type 0
StatementExecutesTo st db after = (tally : Tally) × StatementMayEndIn st db (Ok (tally, after))

-- ---- one after the other

-- SQL refuses one of these, on what those before it make of the database.
abbrev pub IsAnyStatementRefused : List Statement → Database → Type 0
IsAnyStatementRefused [] db = ⊥
IsAnyStatementRefused (st ∷ rest) db = IsStatementRefused st db ⊎ ((next : Database) × StatementExecutesTo st db next × IsAnyStatementRefused rest next)

-- and this is what all of them make of it
abbrev pub StatementsExecuteTo : List Statement → Database → Database → Type 0
StatementsExecuteTo [] db after = after ≡ db
StatementsExecuteTo (st ∷ rest) db after = (next : Database) × StatementExecutesTo st db next × StatementsExecuteTo rest next after

-- what makes the tables in an empty database, in the order in which it is done
abbrev pub first_create_statements : List Statement
first_create_statements = create_version_statement ∷ create_list_statement ∷ create_person_statement ∷ []

abbrev pub second_create_statements : List Statement
second_create_statements = create_grant_statement ∷ create_message_statement ∷ []

abbrev pub create_index_statements : List Statement
create_index_statements = create_month_index_statement ∷ create_author_index_statement ∷ []

abbrev pub last_create_statements : List Statement
last_create_statements = create_option_statement ∷ create_address_statement ∷ insert_version_statement ∷ []

abbrev pub all_create_statements : List Statement
all_create_statements = first_create_statements ++ second_create_statements ++ create_index_statements ++ last_create_statements

-- what brings tables of version 1 to 2
abbrev pub option_migration_statements : (number : ℕ) → List Statement
option_migration_statements number = if number == 1 then create_option_statement ∷ backfill_options_statement ∷ [] else []

-- what brings tables of an older version to the newest
abbrev pub migration_statements : (number : ℕ) → List Statement
migration_statements number = option_migration_statements number ++ create_address_statement ∷ update_version_statement ∷ []
