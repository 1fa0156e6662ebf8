-- What a crash leaves of an archive, whatever it lies in: of a command the archive before or after it; of many messages, what so many of
-- them made.
use Rattle.std.specs.Prelude.{◌⊎◌, ℕ, List, Result, IfErr}
use Rattle.mbox_items.specs.Division.{Item}
use Rattle.archive_model.specs.Records.{Archive}
use Rattle.archive_model.specs.Machine.{StepOutcome}
use Rattle.archive_port.specs.Adding.{HasAddedAtLeast}
use Rattle.archive_port.specs.declared.state.ArchiveState.{Ghosts}
use Rattle.archive_port.specs.declared.reports.AddReport.{AddReport}
use Rattle.archive_port.specs.declared.reports.AddError.{AddError}

module _ {S W : Type 0} (g : Ghosts S W) where
  -- what the next opening may find after a crash at this moment, if the disk has returned what was written to it
  abbrev pub CrashMayLeave : S → g.Left → Type 0
  CrashMayLeave store left = g.has_clean_disk store × g.may_leave store left

  -- Whatever a crash at this moment leaves, the next opening finds an archive in it, of which this holds.
  abbrev pub CrashLeavesArchiveWhere : S → (Archive → Type 0) → Type 0
  CrashLeavesArchiveWhere store P = (left : g.Left) → g.may_leave store left → (archive : Archive) × P archive × g.is_stored archive left

  -- A crash leaves what is remembered, and nothing else.
  abbrev pub IsCrashSafe : S → Type 0
  IsCrashSafe store = (left : g.Left) → g.may_leave store left → g.is_stored (g.archive store) left

  module _ (old new : S) where
    -- A question, whatever it answers: a crash after it leaves what a crash before it might have left, and nothing else.
    abbrev pub WritesNothing : Type 0
    WritesNothing = (left : g.Left) → CrashMayLeave new left → CrashMayLeave old left

    -- What a crash leaves after the call it left before, or this archive is found in it.
    abbrev pub CrashAddsOnly : Archive → Type 0
    CrashAddsOnly made = g.has_clean_disk new → (left : g.Left) → g.may_leave new left → g.may_leave old left ⊎ g.is_stored made left

    -- Where before a call a crash left what was remembered, and nothing else, an opening after it finds an archive that is this of the one
    -- before.
    abbrev pub CrashLeavesRelatedArchive : (Archive → Archive → Type 0) → Type 0
    CrashLeavesRelatedArchive Is = g.has_clean_disk new → g.is_at_rest old → IsCrashSafe old → CrashLeavesArchiveWhere new (Is (g.archive old))

    -- What a crash leaves within a call, whatever it answers; and what it leaves once the call has stopped for a fault and returned.
    pub record CrashOutcome (Within : Archive → Archive → Type 0) {A F : Type 0} (result : Result A F) (Stops : F → Archive → Archive → Type 0) : Type 0 where
      pub during_call : CrashLeavesRelatedArchive Within
      pub after_error : IfErr result (λ fault. CrashLeavesRelatedArchive (Stops fault))

    -- What a crash leaves after a command it left before, or it is the archive that the machine makes.
    abbrev pub CrashSteps : (Archive → StepOutcome) → Type 0
    CrashSteps step = g.is_at_rest old → CrashAddsOnly (step (g.archive old)).0

    -- Messages in many transactions: so many first messages; once the call has stopped, at least those that it told.
    abbrev pub CrashAddsAllBatches : List ℕ → List Item → Result AddReport AddError → Type 0
    CrashAddsAllBatches list items result = CrashOutcome (HasAddedAtLeast list items 0) result (λ stop. HasAddedAtLeast list items stop.done)
