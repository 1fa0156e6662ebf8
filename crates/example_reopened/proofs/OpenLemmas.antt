-- A request to files that were just opened.
use Rattle.std.proofs.Common.{◌<◌, ◌⊎◌, inl, inr, ℕ, ℤ, List, Result, subst, arith}
use Rattle.sqlite_disk.specs.declared.Disk.{Ghosts as DiskGhosts}
use Rattle.sqlite_disk.specs.declared.Files.{Files}
use Rattle.sqlite_store.specs.declared.store.FileStore.{FileStore}
use Rattle.sqlite.specs.Files.{over_files}
use Rattle.archive_model.specs.Records.{Archive}
use Rattle.archive_model.specs.Runs.{run}
use Rattle.archive_tables.specs.Making.{empty_archive}
use Rattle.archive_port.specs.Told.{HasNoStepLimit, StoreHasCleanDisk, HoldsTables, StaysOpenUnlessDiskFails, archive_in}
use Rattle.archive_store.specs.State.{state_of}
use Rattle.archive_store.specs.Told.{faults_of}
use Rattle.archive_store.specs.declared.store.Store.{Store}
use Rattle.archive_port.proofs.RightLemmas.{run_right}
use Rattle.archive_store.proofs.RightLemmas.{empty_right}
use Rattle.policy_core.specs.Rules.{Rule}
use Rattle.archive_pages.specs.Causes.{IsInputDataUnreadable, Sent503OrBrokeOff, ServesOr503}
use Rattle.archive_pages.specs.declared.faults.ServeFault.{ServeFault}
use Rattle.example_reopened.specs.Reopening.{StoreAdoptsFiles}
use Rattle.archive_pages.proofs.CauseLemmas.{nothing_unread}
use Rattle.example_reopened.specs.Opening.{Has503OrS3Cause, CannotBeRead, IsTrueOfArchiveInFiles, IsTrueOfArchiveByCommands}
use Rattle.example_reopened.proofs.ReopenLemmas.{leads_to}

module _ {D : Type 0} {g : DiskGhosts D} (files : Files D) where
  -- what is so of what files held is so of what commands made
  pub of_run : (store : Store (FileStore D g)) (Says : Archive → Type 0) → IsTrueOfArchiveInFiles files store Says → IsTrueOfArchiveByCommands files store Says
  of_run store Says says returned commands rows =
      says returned (run empty_archive commands).archive (record { rows = rows; is_indexed_correctly = run_right empty_archive commands empty_right })

  module _ (mid new : Store (FileStore D g)) (takes : StoreAdoptsFiles files mid) (lasts : StaysOpenUnlessDiskFails (state_of over_files) mid new) where
    -- what a call says of the archive that the store remembers
    pub serves_held_archive : (Says : Archive → Type 0) → (StoreHasCleanDisk (state_of over_files) new → HoldsTables (state_of over_files) mid → Says (archive_in (state_of over_files) mid)) →
        IsTrueOfArchiveInFiles files new Says
    serves_held_archive Says says returned archive held =
        let it = leads_to files mid takes (lasts.disk_was_clean returned) archive held in
        subst Says it.1 (says returned it.0.is_archive_at_rest)

    -- why 503 went out
    pub caused_since : (result : Result ℕ ServeFault) (told_before told_after : List ℕ) (rules : List Rule) (day : ℤ) → HasNoStepLimit (state_of over_files) mid
        → ServesOr503 (state_of over_files) mid new result (IsInputDataUnreadable told_before told_after rules day) → Sent503OrBrokeOff result → Has503OrS3Cause files new
    caused_since result told_before told_after rules day free serves bad = elim (serves.1 bad) [
      | inl more ↦ inl (omega (arith, more))
      | inr why ↦ inr (serves_held_archive (λ archive. (0 < faults_of over_files new) ⊎ CannotBeRead archive)
          (λ returned held. elim (why returned held free) [
            | inl more ↦ inl (omega (arith, more))
            | inr unread ↦ inr (λ can. nothing_unread _ can rules day told_before told_after unread)
          ]))
    ]
