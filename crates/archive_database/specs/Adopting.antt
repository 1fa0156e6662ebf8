-- Which databases are taken over.
use Rattle.std.specs.Prelude.{◌≡◌, ◌⊎◌, ◌≤◌, ◌<◌, ℕ, pos, length, None}
use Rattle.sqlite.specs.Effect.{Database}
use Rattle.sqlite.specs.Held.{Held, state}
use Rattle.sqlite.specs.Schema.{Schema}
use Rattle.sqlite.specs.State.{HasCleanDisk}
use Rattle.sqlite.specs.Store.{Ghosts}
use Rattle.archive_tables.specs.Schema.{empty_schema, schema_of_version}
use Rattle.archive_tables.specs.Tables.{IsKnownVersion, HasVersionRow, newest_version, IsOpenArchiveInFormat, IsArchiveAtRest, HasArchiveSchema, HasSchemaOfFormat}
use Rattle.archive_tables.specs.Tables.{format_of_version, archive_of_version, archive_of}
use Rattle.archive_tables.specs.Statements.{IsAnyStatementRefused, migration_statements}
use Rattle.archive_tables.specs.Crashes.{CrashAddsNothing}
use Rattle.archive_tables.specs.Making.{IsCreatingTables, IsIdle, IsRolledBackIfOpen}
use Rattle.archive_database.specs.declared.faults.DatabaseError.{DatabaseError}
use Rattle.archive_database.specs.declared.faults.DatabaseError.TheVariants as faults

-- so many tables and indexes, and no view
pub record HasObjectCounts (tables indexes : ℕ) (schema : Schema) : Type 0 where
  pub table_count : length schema.tables ≡ tables
  pub index_count : length schema.indexes ≡ indexes
  pub view_count : length schema.views ≡ 0

-- as many tables, indexes and views as an archive of this version has
pub record HasObjectCountsOfVersion (number : ℕ) (schema : Schema) : Type 0 where
  pub table_count_is : length schema.tables ≡ length (schema_of_version number).tables
  pub index_count_is : length schema.indexes ≡ length (schema_of_version number).indexes
  pub view_count_is : length schema.views ≡ length (schema_of_version number).views

-- an empty database, or one with as many objects as an archive of some version has
abbrev pub MayBeAdopted : Schema → Type 0
MayBeAdopted schema = (schema ≡ empty_schema) ⊎ ((number : ℕ) × IsKnownVersion number × HasObjectCountsOfVersion number schema)

-- the tables of a version, whatever their rows are
abbrev pub IsSchemaOfSomeVersion : Schema → Type 0
IsSchemaOfSomeVersion schema = (number : ℕ) × IsKnownVersion number × (schema ≡ schema_of_version number)

-- a database that adopting understands: an empty one, or one of the tables of a version
abbrev pub IsEmptyOrArchiveSchema : Schema → Type 0
IsEmptyOrArchiveSchema schema = (schema ≡ empty_schema) ⊎ IsSchemaOfSomeVersion schema

-- a version before the newest
pub record IsOlderVersion (number : ℕ) : Type 0 where
  pub at_least_one : 1 ≤ number
  pub below_newest : number < newest_version

-- within a transaction over the tables of this schema, without rows, a stop of the machine leaves nothing that it did not leave before
abbrev pub CrashAddsNothingWhileCreating : {S : Type 0} → Ghosts S → Held S → Held S → Schema → Type 0
CrashAddsNothingWhileCreating g old new schema = (before : Database) → IsCreatingTables (state g old) schema before → CrashAddsNothing g old new

-- ---- why a database that adopting understands is not taken, but for want of memory and the disk: an empty one always is

-- its tables are those of a version, and `version` does not hold one row, of its number
abbrev pub HasWrongVersionRow : Database → Type 0
HasWrongVersionRow db = (number : ℕ) × IsKnownVersion number × (db.schema ≡ schema_of_version number) × (¬ HasVersionRow (pos number) db.trees)

-- its tables are those of an older version, and SQL refuses in its turn a statement that brings them over
abbrev pub IsMigrationRefused : Database → Type 0
IsMigrationRefused db = (number : ℕ) × IsOlderVersion number × (db.schema ≡ schema_of_version number) × IsAnyStatementRefused (migration_statements number) db

-- one of these
abbrev pub IsAdoptionRefused : Database → Type 0
IsAdoptionRefused db = HasWrongVersionRow db ⊎ IsMigrationRefused db

-- ---- what a migration did

module _ {S : Type 0} (g : Ghosts S) (old new : Held S) where
  -- Tables that were taken over. An archive of any version, the newest too, has become one of the newest and remembers the same; a database
  -- of the newest schema is as it was, whatever its rows. It was empty, or had as many objects as an archive of some version has; if its
  -- schema was that of a version, the table `version` held this number.
  pub record IsMigrated : Type 0 where
    pub keeps_archive : HasCleanDisk (state g new) → (number : ℕ) → IsKnownVersion number → IsOpenArchiveInFormat (format_of_version number) None (state g old)
        → IsArchiveAtRest (state g new) × (archive_of (state g new) ≡ archive_of_version number (state g old).now.trees)
    pub keeps_rows : HasCleanDisk (state g new) → HasArchiveSchema (state g old) → IsRolledBackIfOpen (state g new) (state g old).now
    pub may_be_adopted : MayBeAdopted (state g old).now.schema
    pub version : HasCleanDisk (state g new) → (number : ℕ) → IsKnownVersion number → HasSchemaOfFormat (format_of_version number) (state g old)
        → HasVersionRow (pos number) (state g old).now.trees

  -- Tables that were not taken over, and why. Those of a version are as they were, outside a transaction, if the connection is still open.
  -- A connection to a database that has the objects of no version is untouched, and the fault is not want of memory.
  pub record IsNotMigrated (fault : DatabaseError) : Type 0 where
    pub rows_restored : HasCleanDisk (state g new) → IsIdle (state g old) → IsSchemaOfSomeVersion (state g old).now.schema → IsRolledBackIfOpen (state g new) (state g old).now
    pub foreign_is_untouched : ¬ MayBeAdopted (state g old).now.schema → new ≡ old
    pub foreign_fault_is_database : ¬ MayBeAdopted (state g old).now.schema → fault ≡ faults.Database
