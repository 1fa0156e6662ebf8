-- What a stop of the machine may leave of an archive, and what a call adds to that.
use Rattle.std.specs.Prelude.{◌≡◌, ◌⊎◌, Option, None}
use Rattle.sqlite_trees.specs.Objects.{catalog_tree}
use Rattle.sqlite_catalog.specs.Listing.{Lists}
use Rattle.sqlite.specs.Tree.{Trees}
use Rattle.sqlite.specs.Effect.{Database}
use Rattle.sqlite.specs.Store.{Ghosts}
use Rattle.sqlite.specs.Held.{Held, state}
use Rattle.sqlite.specs.State.{State, HasCleanDisk, IsLive}
use Rattle.archive_model.specs.Records.{Archive}
use Rattle.archive_tables.specs.Tables.{TablesFormat, newest_format, IsOpenArchive, archive_of}

-- Trees that list the schema of this form, are its tables, and remember this archive.
pub record IsArchiveStoredInFormat (form : TablesFormat) (archive : Archive) (db : Trees) : Type 0 where
  pub lists : Lists (db catalog_tree) form.schema
  pub tables : form.AreTablesOf db
  pub archive_is : form.archive_of_trees db ≡ archive

-- the same of the newest version
abbrev pub IsArchiveStored : Archive → Trees → Type 0
IsArchiveStored = IsArchiveStoredInFormat newest_format

-- Whatever a stop at this moment leaves, the next open finds an archive in it, of which this holds.
abbrev pub CrashLeavesArchiveWhere : State → (Archive → Type 0) → Type 0
CrashLeavesArchiveWhere s P = (db : Trees) → s.may_leave db → (archive : Archive) × P archive × IsArchiveStored archive db

-- A stop leaves what is remembered, and nothing else.
abbrev pub IsCrashSafe : State → Type 0
IsCrashSafe s = (db : Trees) → s.may_leave db → IsArchiveStored (archive_of s) db

-- what COMMIT commits: what the connection sees, which is a database where it is open
abbrev pub IsCommitOf : State → Trees → Type 0
IsCommitOf s db = (db ≡ s.now.trees) × IsLive s

module _ {S : Type 0} (g : Ghosts S) (old new : Held S) where
  -- A stop leaves nothing that it did not leave before the call. So it is of a question, and of what is done within a transaction.
  abbrev pub CrashAddsNothing : Type 0
  CrashAddsNothing = HasCleanDisk (state g new) → (db : Trees) → (state g new).may_leave db → (state g old).may_leave db

  -- What a stop leaves after the call it left before, or this is so of it.
  abbrev pub CrashAddsOnly : (Trees → Type 0) → Type 0
  CrashAddsOnly Is = HasCleanDisk (state g new) → (db : Trees) → (state g new).may_leave db → (state g old).may_leave db ⊎ Is db

  -- A write of an archive that is as the write needs it: outside a transaction a stop may leave what the write makes of the archive,
  -- and within one nothing new.
  abbrev pub CrashLeavesOldOrChanged : (Archive → Type 0) → (Archive → Archive) → Type 0
  CrashLeavesOldOrChanged Needs change = (behind : Option Database) → IsOpenArchive behind (state g old) → Needs (archive_of (state g old))
      → CrashAddsOnly (λ db. (behind ≡ None) × IsArchiveStored (change (archive_of (state g old))) db)

  -- COMMIT: a stop may leave what the connection saw.
  abbrev pub CrashAddsOnlyCommit : Type 0
  CrashAddsOnlyCommit = CrashAddsOnly (IsCommitOf (state g old))
