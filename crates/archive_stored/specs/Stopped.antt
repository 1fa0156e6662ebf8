-- A machine that stopped in a command or behind it, its file opened again and taken over, and requests to it.
use Rattle.std.specs.Prelude.{◌≡◌, ◌⊎◌, Option, MatchOption}
use Rattle.sqlite_disk.specs.declared.Disk.{Ghosts}
use Rattle.sqlite_disk.specs.declared.Files.{Files}
use Rattle.sqlite_store.specs.declared.store.FileStore.{FileStore}
use Rattle.sqlite.specs.Tree.{Trees}
use Rattle.sqlite.specs.Held.{Held}
use Rattle.sqlite.specs.State.{HasCleanDisk}
use Rattle.sqlite.specs.Files.{over_files, file_state, image_of, Finds, HoldsDatabase, IsOpened}
use Rattle.archive_model.specs.Records.{Archive}
use Rattle.archive_model.specs.Commands.{CommandReply}
use Rattle.archive_model.specs.Machine.{StepOutcome}
use Rattle.archive_tables.specs.Crashes.{IsCrashSafe}
use Rattle.archive_tables.specs.Tables.{IsArchiveAtRest, archive_of}
use Rattle.archive_store.specs.Adopting.{IsAdopted}
use Rattle.archive_store.specs.Crashes.{CrashSteps}
use Rattle.archive_store.specs.Replies.{PerformsModelStep}
use Rattle.archive_store.specs.Told.{StoreHasCleanDisk}
use Rattle.archive_store.specs.declared.store.Store.{Store}
use Rattle.archive_stored.specs.Reopened.{AnswersEachRequestFromArchive}

module _ {D : Type 0} {g : Ghosts D} where
  -- A store that was opened behind a stop: the files hold a database that the stop may leave of the connection that it cut off. What
  -- follows are clauses of the calls that are named.
  pub record IsOpenedAfterCrash (cut opened : Held (FileStore D g)) (files : Files D) (store : Store (FileStore D g)) : Type 0 where
    pub db : Trees
    pub crash_may_leave : (file_state cut).may_leave db
    pub files_hold_database : HoldsDatabase (image_of g files) db
    -- `open_files`
    pub finds_files : Finds files opened
    pub is_opened : IsOpened opened
    -- `Store::adopt`
    pub is_adopted : IsAdopted over_files opened store

  -- A command to a connection of which a stop leaves what it remembers, as it is between calls, and a stop in the command or behind it. Then
  -- there is one archive out of which each request to the file that is opened again is answered: the one before the command, or the one
  -- that the machine makes of it; and where the command was answered, the latter. `does` and `crash` are clauses of the command.
  abbrev pub AnswersAfterCrash : (old cut opened : Held (FileStore D g)) → Files D → Store (FileStore D g) → (Archive → StepOutcome) → Option CommandReply → Type 0
  AnswersAfterCrash old cut opened files store step reply =
      IsArchiveAtRest (file_state old) → IsCrashSafe (file_state old) → (does : PerformsModelStep over_files old cut step reply) → (crash : CrashSteps over_files old cut step)
      → HasCleanDisk (file_state cut) → IsOpenedAfterCrash cut opened files store →
      let before = archive_of (file_state old) in
      let after = (step before).0 in
      (archive : Archive) × MatchOption reply ((archive ≡ before) ⊎ (archive ≡ after)) (λ _. archive ≡ after)
      × ((new : Store (FileStore D g)) → StoreHasCleanDisk over_files new → AnswersEachRequestFromArchive archive store new)
