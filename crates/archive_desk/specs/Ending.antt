-- How a call of the desk ends, whatever the tables hold and whatever it answers.
use Rattle.std.specs.Prelude.{◌≡◌, ◌<◌, ℕ, List, Result, IfErr, OnOk}
use Rattle.archive_port.specs.declared.state.ArchiveState.{Ghosts}
use Rattle.archive_model.specs.Records.{Archive}
use Rattle.archive_model.specs.Questions.{messages_in}
use Rattle.archive_port.specs.Told.{CountsRefusals, StoreHasCleanDisk, IsOpen, StaysOpenUnlessDiskFails, WasOpen}
use Rattle.archive_port.specs.Walking.{Walk}
use Rattle.archive_results.specs.Access.{Ask}
use Rattle.archive_desk.specs.Causes.{DeskFaultMeansDiskFailedOr, HasCause, HasPartialCallCause, IsDeskDatabaseFault, IsQuestionUnreadable, IsDeskMemoryRefusal}
use Rattle.archive_desk.specs.Exporting.{ExportsPart, WritesOnlyIfNotRefused, export_stop_reason}
use Rattle.archive_desk.specs.Faults.{refusal_reason}
use Rattle.archive_desk.specs.Importing.{IsImportDatabaseFault}
use Rattle.archive_desk.specs.Walking.{HasWalkCause}
use Rattle.archive_desk.specs.declared.exporting.ExportStop.{ExportStop}
use Rattle.archive_desk.specs.declared.faults.DeskError.{DeskError}
use Rattle.archive_desk.specs.declared.importing.ImportError.{ImportError}
use Rattle.archive_desk.specs.declared.importing.ImportStop.{ImportStop}

module _ {S W : Type 0} (g : Ghosts S W) (old new : S) where
  -- A question: for what it fails, that G4 with E15 means that the disk failed or that this is so of the archive, and that want of
  -- memory is counted.
  pub record EndsDeskCall (IsFault : DeskError → Type 0) {A : Type 0} (result : Result A DeskError) (Unread : Archive → Type 0) : Type 0 where
    pub fault_is_expected : IfErr result IsFault
    pub fault_has_cause : DeskFaultMeansDiskFailedOr g old new result Unread
    pub refusals_counted : CountsRefusals g IsDeskMemoryRefusal old new result

  -- The same, and that who is answered, or refused for a reason, asked a store whose connection was open.
  pub record EndsDeskQuestion (IsFault : DeskError → Type 0) {A : Type 0} (result : Result A DeskError) (Unread : Archive → Type 0) : Type 0 where
    pub was_open : WasOpen g old new refusal_reason result
    pub fault_is_expected : IfErr result IsFault
    pub fault_has_cause : DeskFaultMeansDiskFailedOr g old new result Unread
    pub refusals_counted : CountsRefusals g IsDeskMemoryRefusal old new result

  -- An export: that it asked an open store, why G4 with E15 comes, and that want of memory is counted.
  pub record EndsExport (ask : Ask) (result : Result ℕ ExportStop) : Type 0 where
    pub was_open : WasOpen g old new export_stop_reason result
    pub fault_has_cause : IfErr result (λ stop. IsDeskDatabaseFault stop.fault → HasCause g old new (λ a. IsQuestionUnreadable a ask (messages_in a ask.list)))
    pub refusals_counted : CountsRefusals g (λ stop. IsDeskMemoryRefusal stop.fault) old new result

  -- What an export leaves behind that stops: exactly the first bytes of the text, whatever the fault; and where some were written,
  -- the store was open, and the list and the reader are there.
  pub record LeavesPartialExport (ask : Ask) (before after : List ℕ) (text : Archive → List ℕ) (result : Result ℕ ExportStop) : Type 0 where
    pub exports_part : IfErr result (λ stop. ExportsPart g old new before after stop.written text)
    pub open_if_written : IfErr result (λ stop. 0 < stop.written → StoreHasCleanDisk g new → IsOpen g old)
    pub writes_only_if_allowed : IfErr result (λ stop. WritesOnlyIfNotRefused g old new ask stop.written)

  -- An import, of a file or of what is read piece by piece: why E15 comes, and that want of memory is counted. `Stops` is said of the
  -- archive before the call, of how many messages are done, and of the state behind it.
  pub record EndsImport (Premise : S → Type 0) (IsWant : ImportError → Type 0) {A : Type 0} (result : Result A ImportStop)
      (Stops : Archive → ℕ → S → Type 0) : Type 0 where
    pub fault_has_cause : IfErr result (λ stop. IsImportDatabaseFault stop.fault → HasPartialCallCause g old new Premise (λ a db. Stops a stop.done db))
    pub refusals_counted : CountsRefusals g (λ stop. IsWant stop.fault) old new result

-- A walk over messages of the list, made by a reader of them whose fault carries one of the desk: what it does to the store, why G4
-- with E15 comes, and that want of memory is counted.
pub record EndsWalk {S W : Type 0} (g : Ghosts S W) (old new : Walk S W) (ask : Ask) {A F : Type 0} (carried : F → DeskError) (result : Result A F) : Type 0 where
  pub remains_open : StaysOpenUnlessDiskFails g old.store new.store
  pub fault_has_cause : IfErr result (λ fault. IsDeskDatabaseFault (carried fault) → HasWalkCause g old new ask)
  pub refusals_counted : CountsRefusals g (λ fault. IsDeskMemoryRefusal (carried fault)) old.store new.store result

-- What a writer tells: after Ok it did not fail, and else this says whether it did, and what was written.
pub record ReportsWriterFailure (failed fails : ℕ) {A F : Type 0} (result : Result A F) (Stops : F → Type 0) : Type 0 where
  pub no_failure_if_ok : OnOk result (fails ≡ failed)
  pub cause : IfErr result Stops
