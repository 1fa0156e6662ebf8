-- A file that is closed, opened again and taken over, and a request to it.
use Rattle.std.specs.Prelude.{◌≡◌, ℕ, ℤ, List, Result}
use Rattle.sqlite_disk.specs.declared.Disk.{Ghosts}
use Rattle.sqlite_disk.specs.declared.Files.{Files}
use Rattle.sqlite_wal.specs.Reads.{AreClean}
use Rattle.sqlite_store.specs.declared.store.FileStore.{FileStore}
use Rattle.sqlite.specs.Held.{Held}
use Rattle.sqlite.specs.State.{IsLive}
use Rattle.sqlite.specs.Files.{over_files, file_state, Finds, IsOpened}
use Rattle.sqlite.specs.Closing.{IsCopied}
use Rattle.policy_core.specs.Rules.{Rule}
use Rattle.archive_model.specs.Records.{Archive}
use Rattle.archive_store.specs.State.{state_of}
use Rattle.archive_store.specs.Told.{HoldsArchive, StoreHasCleanDisk, HoldsTables, archive_in}
use Rattle.archive_store.specs.declared.store.Store.{Store}
use Rattle.archive_pages.specs.Answered.{AnswersRequestFromStore}
use Rattle.archive_pages.specs.Headline.{AnswersRequestFromArchive}
use Rattle.archive_pages.specs.declared.faults.ServeFault.{ServeFault}

module _ {D : Type 0} {g : Ghosts D} where
  -- what the calls say of a file from its close on: each field is a clause of the call that it names
  pub record IsReopened (closed opened : Held (FileStore D g)) (files : Files D) (store : Store (FileStore D g)) : Type 0 where
    -- `close_files`: the connection was live, and these files are what it held, if their disk returns what was written
    pub is_live : IsLive (file_state closed)
    pub is_copied : AreClean g files.log files.db → IsCopied closed files
    -- `open_files`
    pub finds_files : Finds files opened
    pub is_opened : IsOpened opened
    -- `Store::adopt`
    pub keeps_archive : (archive : Archive) → HoldsArchive over_files opened archive → StoreHasCleanDisk over_files store
        → HoldsTables over_files store × (archive_in over_files store ≡ archive)

  -- the clause of `answer`
  abbrev pub AnswersRequestFromFile : (old new : Store (FileStore D g)) → List Rule → (day : ℤ) → (read_before read_after : List ℕ) → (ends_before ends_after : ℕ)
      → (told_before told_after : List ℕ) → Result ℕ ServeFault → Type 0
  AnswersRequestFromFile = AnswersRequestFromStore (state_of over_files)

  -- what it comes to: each request to this store, which leaves that one, is answered out of this archive
  abbrev pub AnswersEachRequestFromArchive : Archive → (store new : Store (FileStore D g)) → Type 0
  AnswersEachRequestFromArchive archive store new = (rules : List Rule) (day : ℤ) (read_before read_after : List ℕ) (ends_before ends_after : ℕ) (told_before told_after : List ℕ)
      (result : Result ℕ ServeFault)
      → AnswersRequestFromFile store new rules day read_before read_after ends_before ends_after told_before told_after result
      → AnswersRequestFromArchive archive rules day read_before read_after ends_before ends_after told_before told_after result

  -- A request to a file that was closed while it held this archive, and was opened again, is answered out of this archive.
  abbrev pub AnswersFromReopenedFile : (closed opened : Held (FileStore D g)) → Files D → (store new : Store (FileStore D g)) → Archive → Type 0
  AnswersFromReopenedFile closed opened files store new archive =
      HoldsArchive over_files closed archive → IsReopened closed opened files store → StoreHasCleanDisk over_files new → AnswersEachRequestFromArchive archive store new
