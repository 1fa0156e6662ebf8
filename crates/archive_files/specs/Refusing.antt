-- Why a database of a system's files was not opened, or not again.
use Rattle.std.specs.List.{starts_with}
use Rattle.std.specs.Prelude.{◌≡◌, ◌⊎◌, ◌||◌, ℕ, Bool, false, List, Option, Some, None, IsTrue, MatchOption, bytes_eq, codes, nat_eq}
use Rattle.std.specs.declared.io.ErrorKind.{ErrorKind}
use Rattle.std.specs.declared.io.ErrorKind.TheVariants.{OutOfMemory}
use Rattle.std.specs.IoError.{error_kind}
use Rattle.sqlite_disk.specs.declared.Disk.{Ghosts}
use Rattle.sqlite_disk.specs.declared.Files.{Files}
use Rattle.sqlite_std_file.specs.declared.pair.OpenError.{OpenError}
use Rattle.sqlite_std_file.specs.declared.pair.OpenError.TheVariants as opening
use Rattle.sqlite_wal.specs.Files.{outcomes}
use Rattle.sqlite_wal.specs.Recovery.{Image}
use Rattle.sqlite_store.specs.declared.store.FileStore.{FileStore}
use Rattle.sqlite.specs.Files.{over_files, file_state, image_of, FailsToOpenFiles, Finds, IsCleanLeft, IsClosed, IsOpened, LeavesFiles}
use Rattle.sqlite.specs.Held.{Held}
use Rattle.sqlite.specs.Start.{FindsIn}
use Rattle.sqlite.specs.State.{HasCleanDisk}
use Rattle.sqlite.specs.declared.error.Error.{Error}
use Rattle.sqlite.specs.declared.file.Leftover.{Leftover}
use Rattle.archive_store.specs.Adopting.{IsNotAdopted}
use Rattle.archive_store.specs.Replies.{store_fault_of_error}
use Rattle.archive_store.specs.declared.adopting.AdoptStop.{AdoptStop}
use Rattle.archive_port.specs.declared.faults.StoreFault.{StoreFault}
use Rattle.archive_port.specs.declared.faults.StoreFault.TheVariants.{Memory, Store}
use Rattle.archive_files.specs.Closing.{CloseResult, IsConnectionCloseResult}
use Rattle.archive_files.specs.Leaving.{AreFilesLeft, may_reopen}
use Rattle.archive_files.specs.declared.databases.FilesLeft.{FilesLeft}
use Rattle.archive_files.specs.declared.databases.FilesLeft.TheVariants.{NotOpened, Unread, Reread, NotAdopted}

-- the names that stand for a database in memory, or for a URI
abbrev pub is_memory_or_uri_name : List ℕ → Bool
is_memory_or_uri_name name = bytes_eq name (codes ":memory:") || starts_with nat_eq name (codes "file:")

-- E14 exactly if a system's fault is want of memory, else E15
abbrev pub store_fault_of_kind : ErrorKind → StoreFault
store_fault_of_kind OutOfMemory = Memory
store_fault_of_kind _ = Store

-- E14 exactly if files were not opened for want of memory, else E15: they are in use, or another program has to play a journal back
abbrev pub store_fault_of_open_error : OpenError → StoreFault
store_fault_of_open_error opening.OutOfMemory = Memory
store_fault_of_open_error (opening.Io cause) = store_fault_of_kind (error_kind cause)
store_fault_of_open_error opening.Busy = Store
store_fault_of_open_error opening.HotJournal = Store

-- No store took this connection over, for this fault. The connection was closed, and this is left of its files: a crash may leave no more
-- of it than before the close.
pub record IsRefusedAndClosed {D : Type 0} {g : Ghosts D} (connection : Held (FileStore D g)) (left : FilesLeft D g) (fault : StoreFault) : Type 0 where
  pub stop : AdoptStop (FileStore D g)
  pub is_not_adopted : IsNotAdopted over_files connection stop
  pub last : FileStore D g
  pub is_closed : IsClosed stop.connection last
  pub closed : CloseResult g
  pub closes : IsConnectionCloseResult stop.connection closed
  pub left_is : left ≡ NotAdopted closed
  pub fault_is_of_stop : fault ≡ stop.fault

-- ---- the first opening

-- what a system gave, the name of a database, whose files held this, and what is left of them
module _ {R D : Type 0} (g : Ghosts D) (seeds : R → Bool → Type 0) (opens : R → List ℕ → Option OpenError → Type 0) (system : R) (name : List ℕ)
    (image : Image) (left : FilesLeft D g) where
  -- The files were opened, and no connection came of them, by what the database says of files that it does not open. It says what it
  -- leaves of the files: only if there was no database, they may have been written over.
  pub record FailsToReadFiles (fault : StoreFault) : Type 0 where
    pub opens_name : opens system name None
    pub files : Files D
    pub image_is : image_of g files ≡ image
    -- a crash at their opening leaves this and nothing else
    pub leaves_only_image : (other : Image) → outcomes g files.log files.db other → other ≡ image_of g files
    pub leftover : Leftover D g
    pub error : Error
    pub cause : IsCleanLeft leftover → FailsToOpenFiles files leftover error
    pub leaves_files : IsCleanLeft leftover → LeavesFiles files leftover
    pub left_is : left ≡ Unread leftover
    pub fault_is_of_error : fault ≡ store_fault_of_error error

  -- No connection: E15 if the name stands for no file, or the system gave no random bytes; or the files were not opened, or not read.
  abbrev pub FailsToConnect : StoreFault → Type 0
  FailsToConnect fault =
      ((left ≡ NotOpened) × ((IsTrue (is_memory_or_uri_name name) × (fault ≡ Store))
      ⊎ ((seeds system false × (fault ≡ Store)) ⊎ ((error : OpenError) × opens system name (Some error) × (fault ≡ store_fault_of_open_error error)))))
      ⊎ FailsToReadFiles fault

  -- A connection found what the files held, and no store took it over, for this fault.
  pub record FailsToAdopt (fault : StoreFault) : Type 0 where
    pub opens_name : opens system name None
    pub connection : Held (FileStore D g)
    pub finds_image : HasCleanDisk (file_state connection) → FindsIn image (file_state connection)
    pub is_opened : HasCleanDisk (file_state connection) → IsOpened connection
    pub is_refused : IsRefusedAndClosed connection left fault

  -- no archive: there is no connection, or the store did not take it over
  abbrev pub FailsToOpenStore : StoreFault → Type 0
  FailsToOpenStore fault = FailsToConnect fault ⊎ FailsToAdopt fault

-- ---- another opening, of files that were left

module _ {D : Type 0} {g : Ghosts D} (files : Files D) (left : FilesLeft D g) (fault : StoreFault) where
  -- No connection came of them, by what the database says of files that it does not open. It says what it leaves of them.
  pub record FailsToReread : Type 0 where
    pub leftover : Leftover D g
    pub error : Error
    pub cause : IsCleanLeft leftover → FailsToOpenFiles files leftover error
    pub leaves_files : IsCleanLeft leftover → LeavesFiles files leftover
    pub left_is : left ≡ Reread leftover
    pub fault_is_of_error : fault ≡ store_fault_of_error error

  -- A connection found what they held, and no store took it over, for this fault.
  pub record FailsToReadopt : Type 0 where
    pub connection : Held (FileStore D g)
    pub finds_files : HasCleanDisk (file_state connection) → Finds files connection
    pub is_opened : HasCleanDisk (file_state connection) → IsOpened connection
    pub is_refused : IsRefusedAndClosed connection left fault

  -- no archive: there is no connection, or no store took it over
  abbrev pub FailsToReopen : Type 0
  FailsToReopen = FailsToReread ⊎ FailsToReadopt

-- The name by which a database was opened is known, and is this one.
abbrev pub is_known_as : (known : Option (List ℕ)) → (name : List ℕ) → Bool
is_known_as None name = false
is_known_as (Some known) name = bytes_eq known name

module _ {R D : Type 0} {g : Ghosts D} (seeds : R → Bool → Type 0) (system : R) (known : Option (List ℕ)) (name : List ℕ) (before after : Option (FilesLeft D g)) where
  -- E15, and the files are as they were: they are not known by this name, none was left that may be opened again, or the system gave no
  -- random bytes.
  abbrev pub LeavesUnopened : StoreFault → Type 0
  LeavesUnopened fault = (fault ≡ Store) × (after ≡ before) × ((is_known_as known name ≡ false) ⊎ ((may_reopen before ≡ false) ⊎ seeds system false))

  -- A device does not open again what was left. It leaves it, or files were left of which no archive came.
  abbrev pub FailsToReopenDatabase : StoreFault → Type 0
  FailsToReopenDatabase fault = LeavesUnopened fault
      ⊎ ((files : Files D) × AreFilesLeft before files × MatchOption after ⊥ (λ left. FailsToReopen files left fault))
