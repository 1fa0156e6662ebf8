-- What becomes of a database that is opened by its name, and closed again.
use Rattle.std.specs.Prelude.{◌≡◌, ◌⊎◌, ℕ, List, Ok, Err}
use Rattle.archive_port.specs.declared.faults.StoreFault.{StoreFault}
use Rattle.archive_port.specs.declared.databases.Databases.{Ghosts}

module _ {S D : Type 0} (keeps : Ghosts D S) (old new : D) (file : List ℕ) where
  -- The database of this name was opened; this became of its store; and it was closed. Nothing else was asked of the device.
  pub record UsesDatabase (Becomes : S → S → Type 0) : Type 0 where
    pub device : D
    pub store_before : S
    pub store_after : S
    pub opens_database : keeps.opens old device file (Ok store_before)
    pub store_changes : Becomes store_before store_after
    pub closes_database : keeps.closes device new store_after

  -- It was not opened, for this fault.
  abbrev pub GivesNoDatabase : StoreFault → Type 0
  GivesNoDatabase fault = keeps.opens old new file (Err fault)

  -- It was not opened, for some fault; or it was opened, this became of its store, and it was closed.
  abbrev pub UsesDatabaseIfOpened : (S → S → Type 0) → Type 0
  UsesDatabaseIfOpened Becomes = ((fault : StoreFault) × GivesNoDatabase fault) ⊎ UsesDatabase Becomes

  -- The databases are as before, or this became of the one of this name, if it was opened.
  abbrev pub LeavesOrUsesDatabase : (S → S → Type 0) → Type 0
  LeavesOrUsesDatabase Becomes = (new ≡ old) ⊎ UsesDatabaseIfOpened Becomes
