-- What becomes of an open store by each order.
use Rattle.std.specs.Prelude.{◌≡◌, ◌⊎◌, ◌++◌, ℕ, List, Some, None, Result, Ok, Err, Vec, IfErr, length, min, ◌^◌, ◌-◌}
use Rattle.std.specs.declared.alloc.Global.{Global}
use Rattle.archive_port.specs.declared.state.ArchiveState.{Ghosts}
use Rattle.archive_model.specs.Commands.{refused}
use Rattle.archive_port.specs.Replies.{refusal_of_fault}
use Rattle.archive_port.specs.Told.{CallsReadyStore, CountsRefusals, DiskHasFailed, HasNoStepLimit, StoreHasCleanDisk, HoldsTables}
use Rattle.archive_port.specs.Wanting.{IsMemoryRefusal}
use Rattle.archive_port.specs.declared.faults.StoreFault.{StoreFault}
use Rattle.archive_port.specs.declared.faults.StoreFault.TheVariants as faults
use Rattle.archive_results.specs.Access.{Ask}
use Rattle.archive_desk.specs.Causes.{HasCause}
use Rattle.archive_desk.specs.Exporting.{IsExportRefused, exported_text, export_stop_reason as export_reason}
use Rattle.archive_desk.specs.Faults.{ask_reason}
use Rattle.archive_desk.specs.Holding.{CallsStoreWithTables}
use Rattle.archive_desk.specs.declared.exporting.ExportStop.{ExportStop}
use Rattle.archive_args.specs.Values.{StoreCommand}
use Rattle.archive_commands.specs.Commands.{RefusesCommand, answer_to, command_outcome}
use Rattle.archive_commands.specs.Getting.{IsGetDatabaseFault, IsGetMemoryRefusal, IsGetUnreadable, message_or_refusal, get_refusal_of}
use Rattle.archive_commands.specs.declared.commands.Answer.{Answer}
use Rattle.archive_commands.specs.declared.getting.GetError.{GetError}

module _ {S W : Type 0} (g : Ghosts S W) (old new : S) where
  -- A command: the archive takes the command's step, and the answer is its word; a refusal is the step's and leaves the
  -- archive, and so does a fault of memory or of the database, if the connection is still open.
  abbrev pub CarriesOutCommand : StoreCommand → Result Answer StoreFault → Type 0
  CarriesOutCommand command result = CallsReadyStore g old new refusal_of_fault result
      (λ a b answer. (b ≡ (command_outcome a command).0) × (answer_to command (command_outcome a command).1 ≡ Some answer))
      (λ a b why. (b ≡ a) × ((command_outcome a command).1 ≡ refused why))
      (λ a b _. b ≡ a)

  -- A message that is asked for: what is got, or why it is not; the archive is as before.
  abbrev pub GetsMessage : Ask → (key : List ℕ) → Result (Vec ℕ Global) GetError → Type 0
  GetsMessage ask key result = CallsStoreWithTables g old new get_refusal_of result
      (λ a b text. (b ≡ a) × (message_or_refusal a ask key ≡ Ok text.items))
      (λ a b why. (b ≡ a) × (message_or_refusal a ask key ≡ Err why))
      (λ a b _. b ≡ a)

  -- An export to a writer that told these bytes before and after; the archive is as before.
  abbrev pub ExportsList : Ask → (before after : List ℕ) → Result ℕ ExportStop → Type 0
  ExportsList ask before after result = CallsStoreWithTables g old new export_reason result
      (λ a b count. (b ≡ a) × (ask_reason a ask ≡ None) × (after ≡ before ++ exported_text a ask) × (count ≡ min (length (exported_text a ask)) (2 ^ 64 - 1)))
      (λ a b why. (b ≡ a) × IsExportRefused (ask_reason a ask) before after (exported_text a ask) why.0 why.1)
      (λ a b stop. b ≡ a)

  -- ---- why the database was at fault, and memory

  -- Why a command is E15: where the disk has returned what was written to it, the tables are an archive's and no limit is set on the
  -- steps of a query, the disk failed in that call, or what was held refuses what the machine carries out.
  abbrev pub HasCommandErrorCause : StoreCommand → Type 0
  HasCommandErrorCause command = StoreHasCleanDisk g new → HoldsTables g old → HasNoStepLimit g old
      → DiskHasFailed g old new ⊎ RefusesCommand g command old

  -- Why a question for a message is G4 with E15: the disk failed, or what is asked for cannot be read.
  abbrev pub HasGetErrorCause : Ask → (key : List ℕ) → Type 0
  HasGetErrorCause ask key = HasCause g old new (λ a. IsGetUnreadable a ask key)

-- How an order ends over an open store, by which faults are a want of memory and which say that the database broke: why it did, and
-- that want of memory is counted.
pub record EndsStoreOrder {S W F : Type 0} (g : Ghosts S W) (old new : S) (IsMemoryRefusal IsBroken : F → Type 0) (Cause : Type 0) {A : Type 0} (result : Result A F) : Type 0 where
  pub fault_has_cause : IfErr result (λ fault. IsBroken fault → Cause)
  pub refusals_counted : CountsRefusals g IsMemoryRefusal old new result

module _ {S W : Type 0} (g : Ghosts S W) (old new : S) where
  -- How a command ends: E15 has its cause, and want of memory is counted.
  abbrev pub EndsStoreCommand : StoreCommand → Result Answer StoreFault → Type 0
  EndsStoreCommand command result = EndsStoreOrder g old new IsMemoryRefusal (λ fault. fault ≡ faults.Store) (HasCommandErrorCause g old new command) result

  -- How a question for a message ends: G4 with E15 has its cause, and want of memory is counted.
  abbrev pub EndsGet : Ask → (key : List ℕ) → Result (Vec ℕ Global) GetError → Type 0
  EndsGet ask key result = EndsStoreOrder g old new IsGetMemoryRefusal IsGetDatabaseFault (HasGetErrorCause g old new ask key) result
