-- A machine that stops, and files that are opened again behind it.
use Rattle.std.specs.Prelude.{◌≡◌, ◌⊎◌, Option, MatchOption}
use Rattle.sqlite_disk.specs.declared.Disk.{Ghosts}
use Rattle.sqlite_disk.specs.declared.Files.{Files}
use Rattle.sqlite_wal.specs.Reads.{AreClean}
use Rattle.sqlite_store.specs.declared.store.FileStore.{FileStore}
use Rattle.sqlite.specs.Tree.{Trees}
use Rattle.sqlite.specs.Files.{over_files, file_state, HoldsDatabase, image_of}
use Rattle.archive_model.specs.Records.{Archive}
use Rattle.archive_model.specs.Commands.{CommandReply}
use Rattle.archive_model.specs.Machine.{StepOutcome}
use Rattle.archive_model.specs.Sound.{IsIndexedCorrectly}
use Rattle.archive_tables.specs.Crashes.{IsArchiveStored, IsCrashSafe}
use Rattle.archive_store.specs.Held.{store_connection}
use Rattle.archive_store.specs.Told.{StoreHasCleanDisk, IsReady, archive_in}
use Rattle.archive_store.specs.declared.store.Store.{Store}

-- These files hold a database that stores this archive, in which what is filed of each message is what its text says.
pub record FilesHoldArchive {D : Type 0} (g : Ghosts D) (files : Files D) (archive : Archive) : Type 0 where
  pub db : Trees
  pub files_hold_database : HoldsDatabase (image_of g files) db
  pub stores_archive : IsArchiveStored archive db
  pub is_indexed_correctly : IsIndexedCorrectly archive

module _ {D : Type 0} {g : Ghosts D} where
  -- The store is ready and remembers this archive, and a stop of the machine leaves nothing else.
  pub record RemembersDurably (store : Store (FileStore D g)) (archive : Archive) : Type 0 where
    pub is_ready : IsReady over_files store
    pub archive_is : archive_in over_files store ≡ archive
    pub is_crash_safe : IsCrashSafe (file_state (store_connection store))

  -- A store that was opened from files: where the disk has returned what was written to it, it remembers what they held.
  pub record IsOpenedFrom (files : Files D) (store : Store (FileStore D g)) : Type 0 where
    pub clean : StoreHasCleanDisk over_files store → AreClean g files.log files.db
    pub remembers_durably : StoreHasCleanDisk over_files store → (archive : Archive) → FilesHoldArchive g files archive → RemembersDurably store archive

  -- What a stop of the machine left of a store's files: where the disk has returned what was written to it, they hold a database that
  -- the stop may leave.
  pub record AreFilesAfterCrash (store : Store (FileStore D g)) (files : Files D) : Type 0 where
    pub clean : AreClean g files.log files.db → StoreHasCleanDisk over_files store
    pub found : AreClean g files.log files.db
        → ∥ ((db : Trees) × (file_state (store_connection store)).may_leave db × HoldsDatabase (image_of g files) db) ∥₁

  -- A store that was opened behind a stop of the machine: where the disk has returned what was written to it, there is a database that
  -- the stop may leave of the other store, and whatever archive that stores, this one remembers.
  abbrev pub IsReopenedAfterCrash : (store again : Store (FileStore D g)) → Type 0
  IsReopenedAfterCrash store again = StoreHasCleanDisk over_files again → StoreHasCleanDisk over_files store
      × ∥ ((db : Trees) × (file_state (store_connection store)).may_leave db
      × ((archive : Archive) → IsArchiveStored archive db → IsIndexedCorrectly archive → RemembersDurably again archive)) ∥₁

  -- A command to a store over files that held an archive, and a stop of the machine in it or behind it. The store that is opened then
  -- remembers the archive before the command or the one that the machine makes of it; where the command was answered, the latter, and
  -- the answer is the machine's.
  abbrev pub CommandSurvivesCrash : Files D → (again : Store (FileStore D g)) → (Archive → StepOutcome) → Option CommandReply → Type 0
  CommandSurvivesCrash files again step reply = StoreHasCleanDisk over_files again → (before : Archive) → FilesHoldArchive g files before
      → ∥ ((archive : Archive) × MatchOption reply ((archive ≡ before) ⊎ (archive ≡ (step before).0)) (λ told. (archive, told) ≡ step before)
      × RemembersDurably again archive) ∥₁
