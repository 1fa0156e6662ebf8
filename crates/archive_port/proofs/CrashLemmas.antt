-- What a crash leaves, from call to call.
use Rattle.std.proofs.Common.{◌≡◌, sym, subst, arith, ℕ, List, Ok, Err}
use Rattle.mbox_items.specs.Division.{Item}
use Rattle.archive_model.specs.Records.{Archive}
use Rattle.archive_port.specs.Adding.{AddsAllMessages, HasAddedAtLeast}
use Rattle.archive_port.specs.Crashes.{CrashAddsAllBatches, CrashLeavesArchiveWhere, CrashLeavesRelatedArchive, IsCrashSafe, WritesNothing}
use Rattle.archive_port.specs.declared.state.ArchiveState.{Ghosts}
use Rattle.archive_port.specs.declared.reports.AddReport.{AddReport}
use Rattle.archive_port.specs.declared.reports.AddError.{AddError}

module _ {S W : Type 0} (g : Ghosts S W) where
  -- a law of `ArchiveStore`: where an archive is held, it is what is found of what a crash leaves, if an archive is
  abbrev pub LeavesWhatIsHeld : S → Type 0
  LeavesWhatIsHeld store = g.is_at_rest store → (left : g.Left) → g.may_leave store left → (a : Archive) → g.is_stored a left → g.is_stored (g.archive store) left

  -- whatever archive a crash leaves, of one that is held it is what is remembered
  pub left_safe : (store : S) → LeavesWhatIsHeld store → g.is_at_rest store → (Is : Archive → Type 0) → CrashLeavesArchiveWhere g store Is → IsCrashSafe g store
  left_safe store keeps held Is leaves = λ left may. let it = leaves left may in keeps held left may it.0 it.2

  -- behind a question
  pub asked_safe : (old new : S) → WritesNothing g old new → g.archive new ≡ g.archive old → g.has_clean_disk new → IsCrashSafe g old → IsCrashSafe g new
  asked_safe old new quiet same clean safe = λ left may. subst (λ a. g.is_stored a left) (sym same) (safe left (quiet left (clean, may)).1)

  -- what is held is left, and nothing else, and it is this of the archive before
  pub leaves_now : (old new : S) (Is : Archive → Archive → Type 0) → (g.has_clean_disk new → g.is_at_rest old → Is (g.archive old) (g.archive new))
      → (g.has_clean_disk new → g.is_at_rest old → IsCrashSafe g old → IsCrashSafe g new) → CrashLeavesRelatedArchive g old new Is
  leaves_now old new Is is safe = λ clean held was left may. (g.archive new, is clean held, safe clean held was left may)

  -- the same in weaker words
  pub leaves_as : (old new : S) (Is Also : Archive → Archive → Type 0) → ((a b : Archive) → Is a b → Also a b) → CrashLeavesRelatedArchive g old new Is → CrashLeavesRelatedArchive g old new Also
  leaves_as old new Is Also also leaves = λ clean held safe left may. let it = leaves clean held safe left may in (it.0, also (g.archive old) it.0 it.1, it.2)

  -- behind a call that writes nothing
  pub left_still : (mid new : S) (Is : Archive → Type 0) → WritesNothing g mid new → g.has_clean_disk new → CrashLeavesArchiveWhere g mid Is → CrashLeavesArchiveWhere g new Is
  left_still mid new Is quiet clean leaves = λ left may. leaves left (quiet left (clean, may)).1

  module _ (old new : S) (list : List ℕ) (items : List Item) where
    -- messages that are added, one after the other: as they stop
    pub broken_crash : (stop : AddError) → CrashLeavesRelatedArchive g old new (HasAddedAtLeast list items stop.done) → CrashAddsAllBatches g old new list items (Err stop)
    broken_crash stop leaves = record {
      during_call = leaves_as old new (HasAddedAtLeast list items stop.done) (HasAddedAtLeast list items 0) (λ a b it. (it.0, omega arith, it.2)) leaves;
      after_error = leaves;
    }

    -- where all were added, what is remembered
    pub all_safe : LeavesWhatIsHeld new → (report : AddReport) → AddsAllMessages g old new (Ok report) list items → CrashAddsAllBatches g old new list items (Ok report) → g.has_clean_disk new
        → g.is_at_rest old → IsCrashSafe g old → IsCrashSafe g new
    all_safe keeps report step crash clean held safe =
        left_safe new keeps (step clean held).0 (HasAddedAtLeast list items 0 (g.archive old)) (crash.during_call clean held safe)
