-- An import into files that are then closed, opened again and asked.
use Rattle.std.specs.Prelude.{◌≡◌, ℕ, List, None, MatchOption}
use Rattle.sqlite_disk.specs.declared.Disk.{Ghosts}
use Rattle.sqlite_disk.specs.declared.Files.{Files}
use Rattle.sqlite_store.specs.declared.store.FileStore.{FileStore}
use Rattle.sqlite.specs.Files.{over_files}
use Rattle.archive_model.specs.Records.{Archive}
use Rattle.archive_port.specs.Replies.{refusal_of_fault}
use Rattle.archive_port.specs.Told.{StoreHasCleanDisk}
use Rattle.archive_store.specs.State.{state_of}
use Rattle.archive_store.specs.declared.store.Store.{Store}
use Rattle.archive_desk.specs.Importing.{IsImported, IsRefusedImport, IsBrokenImport, import_stop_reason}
use Rattle.archive_desk.specs.declared.importing.Report.{Report}
use Rattle.example_reopened.specs.Reopening.{FilesHoldClosedArchive, RelatesFilesToStore, RelatesFilesToOpenStore}
use Rattle.example_reopened.specs.declared.importing.ReimportError.{ReimportError}
use Rattle.example_reopened.specs.declared.importing.ReimportError.TheVariants.{Store as NotOpened, Import as NotImported}

module _ {D : Type 0} {g : Ghosts D} (files : Files D) where
  -- Where the disk has returned what was written to it: an import made an archive out of what the files held before they were
  -- opened, and this is so of the one that it made.
  abbrev pub IsTrueOfImportedArchive : Store (FileStore D g) → (list text : List ℕ) → Report → (Archive → Type 0) → Type 0
  IsTrueOfImportedArchive store list text report Says = StoreHasCleanDisk (state_of over_files) store → (before : Archive) → FilesHoldClosedArchive g files before
      → (after : Archive) × IsImported list text before after report × Says after

  -- The files were not opened, not closed or not opened again (E14, E15); or the import into what they held stopped, for its own
  -- reasons, and here is the store that it left.
  abbrev pub IsReimportError : (list text : List ℕ) → ReimportError (FileStore D g) → Type 0
  IsReimportError list text (NotOpened fault) = refusal_of_fault fault ≡ None
  IsReimportError list text (NotImported store stop) = MatchOption (import_stop_reason stop)
      (RelatesFilesToOpenStore files store (λ a b. IsBrokenImport list text a b stop.done stop.fault))
      (λ why. RelatesFilesToStore files store (λ a b. IsRefusedImport list text a b why.0 why.1))
