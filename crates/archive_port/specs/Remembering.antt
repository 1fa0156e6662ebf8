-- The laws of a device of databases: what it holds under a name is what an opened store remembers, and what a closed one remembered. An
-- opening that fails leaves it.
use Rattle.std.specs.Prelude.{◌≡◌, ℕ, List, Ok, Err}
use Rattle.archive_port.specs.declared.state.ArchiveState.{Ghosts}
use Rattle.archive_model.specs.Records.{Archive}
use Rattle.archive_port.specs.Told.{HasNoStepLimit, StoreHasCleanDisk, HoldsTables, archive_in}
use Rattle.archive_port.specs.declared.faults.StoreFault.{StoreFault}
use Rattle.archive_port.specs.declared.databases.Databases.{Ghosts as Keeps}

-- where its disk has returned what was written to it, the tables of a store are an archive's, and hold this one
abbrev pub StoreHoldsArchive : {S W : Type 0} → Ghosts S W → S → Archive → Type 0
StoreHoldsArchive g store archive = StoreHasCleanDisk g store → HoldsTables g store × (archive_in g store ≡ archive)

module _ {S W D : Type 0} (g : Ghosts S W) (keeps : Keeps D S) where
  -- A database that holds an archive gives a store that remembers it, and no limit is set on the steps of its queries.
  abbrev pub OpenedStoreHoldsArchive : Type 0
  OpenedStoreHoldsArchive = (old new : D) (file : List ℕ) (store : S) (archive : Archive) → keeps.holds old file archive
      → keeps.opens old new file (Ok store) → StoreHoldsArchive g store archive × HasNoStepLimit g store

  -- A database that held one when it was opened holds what its store remembers when it is closed.
  abbrev pub ClosedDatabaseHoldsArchive : Type 0
  ClosedDatabaseHoldsArchive = (old device new : D) (file : List ℕ) (before after : S) (archive : Archive) → keeps.holds old file archive
      → keeps.opens old device file (Ok before) → keeps.closes device new after → StoreHasCleanDisk g after → HoldsTables g after
      → keeps.holds new file (archive_in g after)

-- A database that was not opened, for whatever fault, still holds each archive that it held.
abbrev pub UnopenedDatabaseHoldsArchive : {S D : Type 0} → Keeps D S → Type 0
UnopenedDatabaseHoldsArchive {S} {D} keeps = (old new : D) (file : List ℕ) (fault : StoreFault) (archive : Archive) → keeps.holds old file archive
    → keeps.opens old new file (Err fault) → keeps.holds new file archive
