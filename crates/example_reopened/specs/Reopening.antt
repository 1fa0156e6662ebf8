-- A store that was closed and opened again, and what is asked of it.
use Rattle.std.specs.Prelude.{◌≡◌, ℕ, List, map, Option, None, Some, Result, MatchResult, MatchOption}
use Rattle.sqlite_disk.specs.declared.Disk.{Ghosts}
use Rattle.sqlite_disk.specs.declared.Files.{Files}
use Rattle.sqlite_wal.specs.Reads.{AreClean}
use Rattle.sqlite_store.specs.declared.store.FileStore.{FileStore}
use Rattle.sqlite.specs.Held.{Held}
use Rattle.sqlite.specs.State.{IsLive}
use Rattle.sqlite.specs.Closing.{IsCopied}
use Rattle.sqlite.specs.Files.{over_files, file_state, Finds, IsOpened}
use Rattle.archive_model.specs.Records.{Archive}
use Rattle.archive_model.specs.Questions.{merge_of}
use Rattle.archive_model.specs.Sound.{IsIndexedCorrectly}
use Rattle.archive_tables.specs.Tables.{IsKnownVersion, IsOpenArchiveInFormat, format_of_version, archive_of_version}
use Rattle.archive_store.specs.Held.{store_connection}
use Rattle.archive_port.specs.Told.{HoldsTables, StoreHasCleanDisk, IsOpen, IsReady, archive_in}
use Rattle.archive_store.specs.State.{state_of}
use Rattle.archive_store.specs.declared.store.Store.{Store}
use Rattle.archive_results.specs.Access.{Ask, view_of}
use Rattle.archive_results.specs.Results.{TreeLine, month_lines, tree_lines}
use Rattle.archive_results.specs.Shown.{Line, shown_message}
use Rattle.archive_stored.specs.Reopened.{IsReopened}

-- ---- files, and a store that was opened from them

-- A connection to the tables of some version, 1 to 3, was closed to these files (`close_files`), and its tables stood for this
-- archive, whatever is filed of a message.
pub record FilesHoldClosedRows {D : Type 0} (g : Ghosts D) (files : Files D) (archive : Archive) : Type 0 where
  pub number : ℕ
  pub is_known_version : IsKnownVersion number
  pub closed_connection : Held (FileStore D g)
  pub tables : IsOpenArchiveInFormat (format_of_version number) None (file_state closed_connection)
  pub rows_stand_for_archive : archive_of_version number (file_state closed_connection).now.trees ≡ archive
  pub is_live : IsLive (file_state closed_connection)
  pub is_copied : AreClean g files.log files.db → IsCopied closed_connection files

-- The files hold this archive, of whatever version: the same, and what is filed of each message is what its text says.
pub record FilesHoldClosedArchive {D : Type 0} (g : Ghosts D) (files : Files D) (archive : Archive) : Type 0 where
  pub rows : FilesHoldClosedRows g files archive
  pub is_indexed_correctly : IsIndexedCorrectly archive

module _ {D : Type 0} {g : Ghosts D} where
  -- Where the disk has returned what was written to it, a connection was opened from the files, and the store took it over: tables
  -- of whatever version stand for the same archive as before.
  abbrev pub StoreAdoptsFiles : Files D → Store (FileStore D g) → Type 0
  StoreAdoptsFiles files store = StoreHasCleanDisk (state_of over_files) store → (opened : Held (FileStore D g)) × Finds files opened × IsOpened opened
      × ((number : ℕ) → IsKnownVersion number → IsOpenArchiveInFormat (format_of_version number) None (file_state opened)
      → HoldsTables (state_of over_files) store × (archive_in (state_of over_files) store ≡ archive_of_version number (file_state opened).now.trees))

  module _ (files : Files D) (store : Store (FileStore D g)) where
    -- Where the disk has returned what was written to it, and the files held an archive before they were opened, the store is
    -- ready, and this holds of that archive and of the one that it remembers.
    abbrev pub RelatesFilesToStore : (Archive → Archive → Type 0) → Type 0
    RelatesFilesToStore R = StoreHasCleanDisk (state_of over_files) store → (archive : Archive) → FilesHoldClosedArchive g files archive
        → IsReady (state_of over_files) store × R archive (archive_in (state_of over_files) store)

    -- the same, if its connection is still open
    abbrev pub RelatesFilesToOpenStore : (Archive → Archive → Type 0) → Type 0
    RelatesFilesToOpenStore R = StoreHasCleanDisk (state_of over_files) store → (archive : Archive) → FilesHoldClosedArchive g files archive → IsOpen (state_of over_files) store
        → IsReady (state_of over_files) store × R archive (archive_in (state_of over_files) store)

  -- ---- a store, and the one that was opened from its files

  module _ (store again : Store (FileStore D g)) where
    -- where the disk has returned what was written to it, the store was closed to some files, and the other one took over a
    -- connection that was opened from them
    abbrev pub WasReopened : Type 0
    WasReopened = StoreHasCleanDisk (state_of over_files) again → (opened : Held (FileStore D g)) × (files : Files D) × IsReopened (store_connection store) opened files again

    -- A disk that has returned what was written so far had done so before; and where the one store was ready the other is, and
    -- this holds of what they remember. It is not one connection, so `StaysOpenUnlessDiskFails` says nothing of the two.
    abbrev pub RelatesAcrossReopen : (Archive → Archive → Type 0) → Type 0
    RelatesAcrossReopen R = (StoreHasCleanDisk (state_of over_files) again → StoreHasCleanDisk (state_of over_files) store)
        × (StoreHasCleanDisk (state_of over_files) again → IsReady (state_of over_files) store → IsReady (state_of over_files) again × R (archive_in (state_of over_files) store)
        (archive_in (state_of over_files) again))

    -- the same, if the connection of the other is still open
    abbrev pub RelatesAcrossReopenIfOpen : (Archive → Archive → Type 0) → Type 0
    RelatesAcrossReopenIfOpen R = (StoreHasCleanDisk (state_of over_files) again → StoreHasCleanDisk (state_of over_files) store)
        × (StoreHasCleanDisk (state_of over_files) again → IsReady (state_of over_files) store → IsOpen (state_of over_files) again
        → IsReady (state_of over_files) again × R (archive_in (state_of over_files) store) (archive_in (state_of over_files) again))

    -- the other one remembers the same archive
    abbrev pub RemembersSameArchive : Type 0
    RemembersSameArchive = RelatesAcrossReopen (λ a b. b ≡ a)

    -- A question to a store that was closed and opened again: it is refused where `refuses` says so of what the store remembered
    -- before, and is else answered by a value of which this holds; where memory or the database was at fault, it remembers the
    -- same archive if its connection is still open.
    abbrev pub AnswersAfterReopen : {A F R : Type 0} → (F → Option R) → Result A F → (Archive → Option R) → (Archive → A → Type 0) → Type 0
    AnswersAfterReopen reason result refuses Says = MatchResult result
        (λ answer. RelatesAcrossReopen (λ a b. (b ≡ a) × (refuses a ≡ None) × Says a answer))
        (λ fault. MatchOption (reason fault) (RelatesAcrossReopenIfOpen (λ a b. b ≡ a)) (λ why. RelatesAcrossReopen (λ a b. (b ≡ a) × (refuses a ≡ Some why))))

-- These lines are those of the month in what the reader may see of this archive, and these rows are its threads, gathered by
-- subject where the list has it so.
abbrev pub ShowsMonthAndThreads : Archive → Ask → (month : ℕ) → List Line → List TreeLine → Type 0
ShowsMonthAndThreads archive ask month lines rows =
    (lines ≡ month_lines month (map shown_message (view_of archive ask))) × (rows ≡ tree_lines (merge_of archive ask.list) (map shown_message (view_of archive ask)))
