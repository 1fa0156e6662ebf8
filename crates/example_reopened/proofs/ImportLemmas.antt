-- An import into files, and a request after they were closed and opened again.
use Rattle.std.proofs.Common.{◌≡◌, ℕ, List, Option, Some, None}
use Rattle.std.specs.Prelude.{MatchOption}
use Rattle.sqlite_disk.specs.declared.Disk.{Ghosts as DiskGhosts}
use Rattle.sqlite_disk.specs.declared.Files.{Files}
use Rattle.sqlite_store.specs.declared.store.FileStore.{FileStore}
use Rattle.sqlite.specs.Files.{over_files}
use Rattle.archive_model.specs.Records.{Archive}
use Rattle.archive_port.specs.Told.{StoreHasCleanDisk, HoldsTables, archive_in, RelatesReadyArchives, RelatesReadyArchivesIfOpen}
use Rattle.archive_store.specs.State.{state_of}
use Rattle.archive_store.specs.declared.store.Store.{Store}
use Rattle.archive_desk.specs.Holding.{RelatesTableArchivesIfOpen}
use Rattle.archive_desk.specs.Importing.{ImportStopCause, IsImported, IsRefusedImport, IsBrokenImport, import_stop_reason}
use Rattle.archive_desk.specs.declared.importing.Report.{Report}
use Rattle.archive_desk.specs.declared.importing.ImportStop.{ImportStop}
use Rattle.example_reopened.specs.Reopening.{RelatesFilesToStore, RelatesFilesToOpenStore}
use Rattle.example_reopened.specs.Importing.{IsTrueOfImportedArchive, IsReimportError}
use Rattle.example_reopened.specs.declared.importing.ReimportError.TheVariants.{Import as NotImported}
use Rattle.example_reopened.proofs.ReopenLemmas.{leads_on, leads_on_if_open}

module _ {D : Type 0} {g : DiskGhosts D} (files : Files D) (mid new : Store (FileStore D g)) (list text : List ℕ) where
  -- an import that stopped
  pub stopped : (stop : ImportStop) → RelatesFilesToStore files mid (λ a b. b ≡ a)
      → MatchOption (import_stop_reason stop) (RelatesReadyArchivesIfOpen (state_of over_files) mid new (λ a b. IsBrokenImport list text a b stop.done stop.fault))
      (λ why. RelatesReadyArchives (state_of over_files) mid new (λ a b. IsRefusedImport list text a b why.0 why.1))
      → IsReimportError files list text (NotImported new stop)
  stopped stop before goes = by_reason (import_stop_reason stop) goes
    where
      by_reason : (r : Option (ℕ × ImportStopCause))
          → MatchOption r (RelatesReadyArchivesIfOpen (state_of over_files) mid new (λ a b. IsBrokenImport list text a b stop.done stop.fault))
          (λ why. RelatesReadyArchives (state_of over_files) mid new (λ a b. IsRefusedImport list text a b why.0 why.1))
          → MatchOption r (RelatesFilesToOpenStore files new (λ a b. IsBrokenImport list text a b stop.done stop.fault))
          (λ why. RelatesFilesToStore files new (λ a b. IsRefusedImport list text a b why.0 why.1))
      by_reason None goes = leads_on_if_open files mid new (λ a b. IsBrokenImport list text a b stop.done stop.fault) before goes
      by_reason (Some why) goes = leads_on files mid new (λ a b. IsRefusedImport list text a b why.0 why.1) before goes

  -- what is so of the archive that a store remembers before a request is so of the one that the import made
  pub of_imported : (report : Report) (Says : Archive → Type 0) → RelatesFilesToStore files mid (λ a b. IsImported list text a b report)
      → RelatesTableArchivesIfOpen (state_of over_files) mid new (λ a b. b ≡ a) → (StoreHasCleanDisk (state_of over_files) new → HoldsTables (state_of over_files) mid → Says
      (archive_in (state_of over_files) mid))
      → IsTrueOfImportedArchive files new list text report Says
  of_imported report Says before goes says returned archive held =
      let here = before (goes.0.disk_was_clean returned) archive held in
      (archive_in (state_of over_files) mid, here.1, says returned here.0.is_archive_at_rest)
