-- A file that was closed and opened again, and requests to it.
use Rattle.sqlite_disk.specs.declared.Disk.{Ghosts as DiskGhosts}
use Rattle.sqlite_disk.specs.declared.Files.{Files}
use Rattle.sqlite_wal.specs.Reads.{AreClean}
use Rattle.sqlite_store.specs.declared.store.FileStore.{FileStore}
use Rattle.sqlite.specs.Held.{Held}
use Rattle.sqlite.specs.State.{IsLive}
use Rattle.sqlite.specs.Files.{over_files, file_state, Finds, IsOpened}
use Rattle.sqlite.specs.Closing.{IsCopied}
use Rattle.archive_model.specs.Records.{Archive}
use Rattle.archive_store.specs.State.{state_of}
use Rattle.archive_store.specs.Told.{HoldsArchive}
use Rattle.archive_store.specs.declared.store.Store.{Store}
use Rattle.archive_pages.proofs.RunningLemmas.{answers_from}
use Rattle.archive_stored.specs.Reopened.{AnswersFromReopenedFile}

module _ {D : Type 0} {g : DiskGhosts D} (closed opened : Held (FileStore D g)) (files : Files D) (store new : Store (FileStore D g)) (archive : Archive)
    (again : HoldsArchive over_files closed archive → IsLive (file_state closed) → (AreClean g files.log files.db → IsCopied closed files)
    → Finds files opened → IsOpened opened → HoldsArchive over_files opened archive) where
  pub answers_reopened : AnswersFromReopenedFile closed opened files store new archive
  answers_reopened holds it returned rules day read_before read_after ends_before ends_after told_before told_after result said =
      let found = again holds it.is_live it.is_copied it.finds_files it.is_opened in
      answers_from (state_of over_files) store new archive returned
      (λ was. it.keeps_archive archive found was) rules day
      result read_before read_after ends_before ends_after told_before told_after said
