-- A withdrawal in files that were just opened.
use Rattle.std.proofs.Common.{◌≡◌, ◌⊎◌, inl, inr, ℕ, ℤ, List, Option, Some, None, refl, sym, subst, arith}
use Rattle.std.specs.Prelude.{MatchOption}
use Rattle.sqlite_disk.specs.declared.Disk.{Ghosts as DiskGhosts}
use Rattle.sqlite_disk.specs.declared.Files.{Files}
use Rattle.sqlite_store.specs.declared.store.FileStore.{FileStore}
use Rattle.byte_device.specs.declared.devices.Sink.{Ghosts as Takes}
use Rattle.byte_device.specs.declared.devices.Source.{Ghosts as Gives}
use Rattle.sqlite.specs.Files.{over_files}
use Rattle.policy_core.specs.Rules.{Rule}
use Rattle.archive_model.specs.Records.{Archive}
use Rattle.archive_model.specs.Commands.{Refusal, refused}
use Rattle.archive_model.specs.Machine.{step}
use Rattle.archive_port.specs.Replies.{refusal_of_fault}
use Rattle.archive_port.specs.Told.{RelatesReadyArchives, RelatesReadyArchivesIfOpen, HasNoStepLimit, archive_in}
use Rattle.archive_store.specs.State.{state_of}
use Rattle.archive_store.specs.declared.store.Store.{Store}
use Rattle.archive_desk.specs.Importing.{ImportStopCause, IsImported, IsRefusedImport, IsBrokenImport, import_stop_reason}
use Rattle.archive_desk.specs.Readable.{CanBeRead}
use Rattle.archive_desk.specs.declared.importing.Report.{Report}
use Rattle.archive_pages.specs.Causes.{IsInputDataUnreadable, Sent503OrBrokeOff}
use Rattle.archive_pages.proofs.CauseLemmas.{nothing_unread}
use Rattle.archive_pages.specs.declared.pages.Client.{Client}
use Rattle.example_reopened.specs.Opening.{Has503OrS3Cause, CannotBeRead}
use Rattle.example_reopened.specs.Reopening.{RelatesFilesToStore, RelatesFilesToOpenStore}
use Rattle.example_reopened.specs.Publishing.{IsWithdrawErrorInFiles}
use Rattle.example_reopened.specs.Withdrawing.{EndsTwoAnswers, IsWithdrawError, ImportsAndWithdraws, withdraw_command_of}
use Rattle.example_reopened.specs.declared.withdrawing.TwoAnswers.{TwoAnswers}
use Rattle.example_reopened.specs.declared.withdrawing.Withdrawal.{Withdrawal}
use Rattle.example_reopened.specs.declared.withdrawing.WithdrawError.{WithdrawError}
use Rattle.example_reopened.specs.declared.withdrawing.WithdrawError.TheVariants.{Import as NotImported, Withdraw as NotWithdrawn}
use Rattle.example_reopened.proofs.MemoryLemmas.{AreItems, StepsOn, TakesIn, can_be_read}
use Rattle.example_reopened.proofs.ReopenLemmas.{leads_on, leads_on_if_open}

module _ {D : Type 0} {g : DiskGhosts D} (files : Files D) (mid new : Store (FileStore D g)) (before : RelatesFilesToStore files mid (λ a b. b ≡ a)) where
  -- what a call left, that had a reason to stop or none
  by_reason : {R : Type 0} (Stops : Archive → Archive → Type 0) (Refuses : R → Archive → Archive → Type 0) (r : Option R)
      → MatchOption r (RelatesReadyArchivesIfOpen (state_of over_files) mid new Stops) (λ why. RelatesReadyArchives (state_of over_files) mid new (Refuses why))
      → MatchOption r (RelatesFilesToOpenStore files new Stops) (λ why. RelatesFilesToStore files new (Refuses why))
  by_reason Stops Refuses None goes = leads_on_if_open files mid new Stops before goes
  by_reason Stops Refuses (Some why) goes = leads_on files mid new (Refuses why) before goes

  pub left_with : (it : Withdrawal) (stop : WithdrawError) → IsWithdrawError (state_of over_files) mid new it stop → IsWithdrawErrorInFiles files it new stop
  left_with it (NotImported stop) goes =
      by_reason (λ a b. IsBrokenImport it.list.now it.mbox.now a b stop.done stop.fault)
      (λ (why : ℕ × ImportStopCause). λ a b. IsRefusedImport it.list.now it.mbox.now a b why.0 why.1) (import_stop_reason stop) goes
  left_with it (NotWithdrawn report fault) goes =
      by_reason (λ a b. IsImported it.list.now it.mbox.now a b report)
      (λ (why : Refusal). λ a c. (b : Archive) × IsImported it.list.now it.mbox.now a b report × ((c, refused why) ≡ step b (withdraw_command_of it))) (refusal_of_fault fault) goes

-- ---- 503, behind a withdrawal in files that were opened again

module _ (takes : TakesIn) (steps : StepsOn) (items : AreItems) {D R W : Type 0} {g : DiskGhosts D} (gives : Gives R) (sinks : Takes W) (rules : List Rule) (day : ℤ) (files : Files D)
    (found new : Store (FileStore D g)) (it : Withdrawal) (first first' second second' : Client R W) (report : Report) (answered : TwoAnswers)
    (leads : RelatesFilesToStore files found (λ a b. ImportsAndWithdraws it a b report)) (free : HasNoStepLimit (state_of over_files) found)
    (ends : EndsTwoAnswers gives sinks (state_of over_files) rules day found new first first' second second' answered) where
  unread : (before archive : Archive) (told_before told_after : List ℕ) → archive ≡ archive_in (state_of over_files) found → ImportsAndWithdraws it before (archive_in (state_of over_files) found)
      report
      → IsInputDataUnreadable told_before told_after rules day archive → CannotBeRead before
  unread before archive told_before told_after same made bad can =
      nothing_unread archive (subst CanBeRead (sym same) (can_be_read takes steps items it before (archive_in (state_of over_files) found) report made can)) rules day told_before told_after bad

  pub caused_behind : Sent503OrBrokeOff answered.first ⊎ Sent503OrBrokeOff answered.second → Has503OrS3Cause files new
  caused_behind (inl one) = elim (ends.first_error_cause.1 one) [
    | inl more ↦ let grown = ends.second_error_cause.0 in inl (omega (arith, more, grown))
    | inr why ↦ inr (λ returned before held.
        let later = ends.second_ends.stays.archive_is_same.0 in
        let was = later.disk_was_clean returned in
        let here = leads (ends.first_ends.stays.archive_is_same.0.disk_was_clean was) before held in
        let faults = later.closes_only_by_fault.faults_never_fall in
        elim (why was here.0.is_archive_at_rest free) [
          | inl more ↦ inl (omega (arith, more, faults))
          | inr bad ↦ inr (unread before (archive_in (state_of over_files) found) (gives.told first.input) (gives.told first'.input) refl here.1 bad)
        ])
  ]
  caused_behind (inr other) = elim (ends.second_error_cause.1 other) [
    | inl more ↦ inl (omega (arith, more))
    | inr why ↦ inr (λ returned before held.
        let later = ends.second_ends.stays.archive_is_same.0 in
        let was = later.disk_was_clean returned in
        let here = leads (ends.first_ends.stays.archive_is_same.0.disk_was_clean was) before held in
        let faults = later.closes_only_by_fault.faults_never_fall in
        elim (ends.first_ends.stays.archive_is_same.0.closes_only_by_fault.stays_open was here.0.is_archive_at_rest.is_open) [
          | inl up ↦ let there = ends.first_ends.stays.archive_is_same.1 was here.0.is_archive_at_rest up in
              elim (why returned there.0 (ends.first_ends.stays.archive_is_same.0.sets_no_limit free)) [
                | inl more ↦ inl (omega (arith, more))
                | inr bad ↦ inr (unread before (archive_in (state_of over_files) ends.store_between) (gives.told second.input) (gives.told second'.input) there.1 here.1 bad)
              ]
          | inr more ↦ inl (omega (arith, more, faults))
        ])
  ]
