-- An import and a withdrawal in files that are then closed and opened again.
use Rattle.std.specs.Prelude.{◌≡◌, None, MatchOption}
use Rattle.sqlite_disk.specs.declared.Disk.{Ghosts}
use Rattle.sqlite_disk.specs.declared.Files.{Files}
use Rattle.sqlite_store.specs.declared.store.FileStore.{FileStore}
use Rattle.archive_model.specs.Records.{Archive}
use Rattle.archive_model.specs.Commands.{refused}
use Rattle.archive_model.specs.Machine.{step}
use Rattle.archive_port.specs.Replies.{refusal_of_fault}
use Rattle.archive_store.specs.declared.store.Store.{Store}
use Rattle.archive_desk.specs.Importing.{IsImported, IsRefusedImport, IsBrokenImport, import_stop_reason}
use Rattle.example_reopened.specs.Reopening.{RelatesFilesToStore, RelatesFilesToOpenStore}
use Rattle.example_reopened.specs.Withdrawing.{withdraw_command_of}
use Rattle.example_reopened.specs.declared.publishing.FilesError.{FilesError}
use Rattle.example_reopened.specs.declared.publishing.FilesError.TheVariants.{Store as NotOpened, Withdraw as NotDone}
use Rattle.example_reopened.specs.declared.withdrawing.Withdrawal.{Withdrawal}
use Rattle.example_reopened.specs.declared.withdrawing.WithdrawError.{WithdrawError}
use Rattle.example_reopened.specs.declared.withdrawing.WithdrawError.TheVariants.{Import as NotImported, Withdraw as NotWithdrawn}

module _ {D : Type 0} {g : Ghosts D} (files : Files D) (it : Withdrawal) where
  -- What `IsWithdrawError` says, of what the files held and of the store that was left.
  abbrev pub IsWithdrawErrorInFiles : Store (FileStore D g) → WithdrawError → Type 0
  IsWithdrawErrorInFiles store (NotImported stop) = MatchOption (import_stop_reason stop)
      (RelatesFilesToOpenStore files store (λ a b. IsBrokenImport it.list.now it.mbox.now a b stop.done stop.fault))
      (λ why. RelatesFilesToStore files store (λ a b. IsRefusedImport it.list.now it.mbox.now a b why.0 why.1))
  IsWithdrawErrorInFiles store (NotWithdrawn report fault) = MatchOption (refusal_of_fault fault)
      (RelatesFilesToOpenStore files store (λ a b. IsImported it.list.now it.mbox.now a b report))
      (λ why. RelatesFilesToStore files store (λ a c. (b : Archive) × IsImported it.list.now it.mbox.now a b report × ((c, refused why) ≡ step b (withdraw_command_of it))))

  -- The files were not opened, not closed or not opened again (E14, E15); or nothing was withdrawn.
  abbrev pub IsFilesError : FilesError (FileStore D g) → Type 0
  IsFilesError (NotOpened fault) = refusal_of_fault fault ≡ None
  IsFilesError (NotDone store stop) = IsWithdrawErrorInFiles store stop
