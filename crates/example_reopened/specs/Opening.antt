-- Files of whatever version that are opened, and a request to them.
use Rattle.std.specs.Prelude.{◌≡◌, ◌⊎◌, ◌<◌, ℕ, List, Result, OnOk, IfErr}
use Rattle.sqlite_disk.specs.declared.Disk.{Ghosts}
use Rattle.sqlite_disk.specs.declared.Files.{Files}
use Rattle.sqlite_store.specs.declared.store.FileStore.{FileStore}
use Rattle.sqlite.specs.Files.{over_files}
use Rattle.byte_device.specs.declared.devices.Sink.{Ghosts as Takes}
use Rattle.byte_device.specs.declared.devices.Source.{Ghosts as Gives}
use Rattle.archive_model.specs.Records.{Archive}
use Rattle.archive_model.specs.Commands.{Command}
use Rattle.archive_model.specs.Runs.{run}
use Rattle.archive_tables.specs.Making.{empty_archive}
use Rattle.archive_store.specs.Held.{memory_refusal_count}
use Rattle.archive_port.specs.Told.{StoreHasCleanDisk}
use Rattle.archive_store.specs.State.{state_of}
use Rattle.archive_store.specs.Told.{faults_of}
use Rattle.archive_store.specs.declared.store.Store.{Store}
use Rattle.archive_pages.specs.Calls.{ClientMeetsNoFailure, HasClientFaultCause}
use Rattle.archive_desk.specs.Readable.{CanBeRead}
use Rattle.archive_pages.specs.Causes.{Sent503OrBrokeOff}
use Rattle.archive_pages.specs.declared.faults.ServeFault.{ServeFault}
use Rattle.archive_pages.specs.declared.pages.Client.{Client}
use Rattle.example_reopened.specs.Reopening.{FilesHoldClosedArchive, FilesHoldClosedRows, RelatesFilesToOpenStore}

-- an archive holds what no command writes, and what cannot be read
abbrev pub CannotBeRead : Archive → Type 0
CannotBeRead archive = ¬ CanBeRead archive

module _ {D : Type 0} {g : Ghosts D} (files : Files D) (store : Store (FileStore D g)) where
  -- Where the disk has returned what was written to it, this is so of the archive that the files held, of whatever version.
  abbrev pub IsTrueOfArchiveInFiles : (Archive → Type 0) → Type 0
  IsTrueOfArchiveInFiles Says = StoreHasCleanDisk (state_of over_files) store → (archive : Archive) → FilesHoldClosedArchive g files archive → Says archive

  -- The same of what commands made of an empty archive: they file right, so nothing is asked of what the rows file.
  abbrev pub IsTrueOfArchiveByCommands : (Archive → Type 0) → Type 0
  IsTrueOfArchiveByCommands Says = StoreHasCleanDisk (state_of over_files) store → (commands : List Command) → FilesHoldClosedRows g files (run empty_archive commands).archive
      → Says (run empty_archive commands).archive

  -- Why 503 goes out, and why an mbox breaks off (S3), out of a store that was opened from the files: memory was refused to a call of
  -- this store, by its count; or, where the disk has returned what was written to it, it failed or refused, or what the files held cannot
  -- be read.
  abbrev pub Has503OrS3Cause : Type 0
  Has503OrS3Cause = (0 < memory_refusal_count store) ⊎ IsTrueOfArchiveInFiles (λ archive. (0 < faults_of over_files store) ⊎ CannotBeRead archive)

  -- How an answer ends that a store gives which was just opened from the files: it still remembers what they held, if its connection
  -- is open; no direction failed where a reply went out, and each fault has its cause, and 503 and S3 too.
  pub record EndsAnswerAfterOpening {R W : Type 0} (gives : Gives R) (takes : Takes W) (before after : Client R W) (result : Result ℕ ServeFault) : Type 0 where
    pub archive_is_kept : RelatesFilesToOpenStore files store (λ a b. b ≡ a)
    pub no_failure_if_ok : OnOk result (ClientMeetsNoFailure gives takes before after)
    pub cause : IfErr result (λ fault. HasClientFaultCause gives takes before after fault)
    pub fault_has_cause : Sent503OrBrokeOff result → Has503OrS3Cause
