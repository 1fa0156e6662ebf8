-- What becomes of the messages of an mbox that is read piece by piece into a list.
use Rattle.std.specs.Prelude.{◌≡◌, ◌⊎◌, ◌≤◌, ◌+◌, ◌++◌, ℕ, true, false, List, [], length, drop, Option, Some, None, option_map, Result, Ok, Err, IfErr, OnOk}
use Rattle.archive_port.specs.declared.state.ArchiveState.{Ghosts}
use Rattle.mbox_core.specs.Division.{Item, DividesIntoItems, IsPreamble}
use Rattle.mbox_core.specs.declared.faults.MboxFault.TheVariants.{Preamble, Read, Memory, Failed}
use Rattle.mbox_stream.specs.Cutter.{CutterState, IsCutterConsistent}
use Rattle.mbox_stream.specs.Stream.{settled_items, IsOffsetUnlessOverflow}
use Rattle.mbox_stream.specs.declared.cutter.CutterPhase.TheVariants.{Open as Running}
use Rattle.archive_model.specs.Records.{Archive}
use Rattle.archive_model.specs.Commands.{Refusal, no_list, list_full}
use Rattle.archive_model.specs.Questions.{has_list}
use Rattle.archive_model.specs.Runs.{taken}
use Rattle.archive_port.specs.Adding.{HasAddedFirstItems, IsListFullAt, HasAddedAtLeast, RefusesAnItem}
use Rattle.archive_port.specs.Crashes.{CrashLeavesRelatedArchive}
use Rattle.archive_port.specs.Replies.{refusal_of_fault}
use Rattle.archive_port.specs.Told.{HoldsTables}
use Rattle.archive_desk.specs.Holding.{CallsStoreWithTables}
use Rattle.archive_desk.specs.Ending.{EndsImport}
use Rattle.archive_desk.specs.Importing.{IsImported, IsImportStoreMemoryRefusal}
use Rattle.archive_desk.specs.declared.importing.Report.{Report}
use Rattle.archive_desk.specs.declared.importing.ImportStop.{ImportStop}
use Rattle.archive_desk.specs.declared.importing.ImportError.{ImportError}
use Rattle.archive_desk.specs.declared.importing.ImportError.TheVariants.{Mbox, Store}

-- ---- why it stops

-- Where the database was not at fault: the first line that is not empty begins at this offset and is no separator line (M1); a
-- read failed (M2); there was no memory to hold a message (M3); there is no such list (E4); the list is full (E12); or another
-- refusal of the store, which no import answers.
pub data HaltReason : Type 0 where
  no_mbox : (offset : ℕ) → HaltReason
  not_read : HaltReason
  no_room : HaltReason
  unknown_list : HaltReason
  full : HaltReason
  declined : Refusal → HaltReason

-- of a refusal of the store
abbrev pub halt_of_refusal : Refusal → HaltReason
halt_of_refusal no_list = unknown_list
halt_of_refusal list_full = full
halt_of_refusal other = declined other

abbrev pub halt_reason_of : ImportError → Option HaltReason
halt_reason_of (Mbox (Preamble offset)) = Some (no_mbox offset)
halt_reason_of (Mbox Read) = Some not_read
halt_reason_of (Mbox Memory) = Some no_room
halt_reason_of (Mbox Failed) = None
halt_reason_of (Store fault) = option_map halt_of_refusal (refusal_of_fault fault)

-- how many messages were done, and why no more were; none where the database was at fault, or had no memory
abbrev pub halt_reason : ImportStop → Option (ℕ × HaltReason)
halt_reason stop = option_map (λ halt. (stop.done, halt)) (halt_reason_of stop.fault)

-- memory was refused: E14, or M3
abbrev pub IsImportMemoryRefusal : ImportError → Type 0
IsImportMemoryRefusal fault = IsImportStoreMemoryRefusal fault ⊎ (fault ≡ Mbox Memory)

-- So many reads of the input failed: one for M2; and for a fault of the store one at most, since what was settled before a read
-- failed is still added.
abbrev pub FaultHasReadFailures : ImportError → ℕ → Type 0
FaultHasReadFailures (Mbox (Preamble offset)) n = n ≡ 0
FaultHasReadFailures (Mbox Read) n = n ≡ 1
FaultHasReadFailures (Mbox Memory) n = n ≡ 0
FaultHasReadFailures (Mbox Failed) n = n ≡ 0
FaultHasReadFailures (Store fault) n = n ≤ 1

-- so many reads of the input failed, by the answer
abbrev pub ResultHasReadFailures : {A : Type 0} → Result A ImportStop → ℕ → Type 0
ResultHasReadFailures (Ok answer) n = n ≡ 0
ResultHasReadFailures (Err stop) n = FaultHasReadFailures stop.fault n

-- ---- the messages of what was read

-- those that are settled, which every input has first that goes on from what was read; or all, where the input ended
abbrev pub AreItemsOfReadText : (text : List ℕ) → (ends : ℕ) → List Item → Type 0
AreItemsOfReadText text ends items = (items ≡ settled_items text) ⊎ ((ends ≡ 1) × DividesIntoItems text items)

-- M1: what was read is no mbox, and nothing was added. M2: all messages that are settled were added. M3: the first `done` of
-- those read were. E4: there is no such list, and nothing was read. E12: after the first `done` the list holds 50,000, and the
-- machine refuses the next for that.
abbrev pub IsImportError : (list text : List ℕ) → (ends : ℕ) → (a b : Archive) → (done : ℕ) → HaltReason → Type 0
IsImportError list text ends a b done (no_mbox n) =
    (done ≡ 0) × (b ≡ a) × (has_list a list ≡ true) × (offset : ℕ) × IsPreamble text offset × IsOffsetUnlessOverflow text n offset
IsImportError list text ends a b done not_read =
    (ends ≡ 0) × (done ≡ length (settled_items text)) × (b ≡ (taken a list (settled_items text)).archive) × (has_list a list ≡ true)
IsImportError list text ends a b done no_room =
    (items : List Item) × AreItemsOfReadText text ends items × HasAddedFirstItems list items done a b × (has_list a list ≡ true)
IsImportError list text ends a b done unknown_list = (done ≡ 0) × (b ≡ a) × (has_list a list ≡ false) × (text ≡ []) × (ends ≡ 0)
IsImportError list text ends a b done full =
    (items : List Item) × AreItemsOfReadText text ends items × HasAddedFirstItems list items done a b × IsListFullAt a list items done
IsImportError list text ends a b done (declined why) = ⊥

-- The database was at fault, or had no memory: the first `done` of the messages read were added.
abbrev pub IsBrokenInputImport : (list text : List ℕ) → (ends : ℕ) → (a b : Archive) → (done : ℕ) → ImportError → Type 0
IsBrokenInputImport list text ends a b done (Mbox fault) = ⊥
IsBrokenInputImport list text ends a b done (Store fault) = (items : List Item) × AreItemsOfReadText text ends items × HasAddedFirstItems list items done a b

-- So many first of the messages read were added, at least `done`.
abbrev pub HasAddedReadAtLeast : (list text : List ℕ) → (ends : ℕ) → (done : ℕ) → (a b : Archive) → Type 0
HasAddedReadAtLeast list text ends done a b = (items : List Item) × AreItemsOfReadText text ends items × HasAddedAtLeast list items done a b

-- Some of the messages read behind the first `done` make rows that refuse the next, which the machine takes in.
abbrev pub RowsRefuseReadItem : {S W : Type 0} → Ghosts S W → (list text : List ℕ) → (ends : ℕ) → (done : ℕ) → S → Type 0
RowsRefuseReadItem g list text ends done db = (items : List Item) × AreItemsOfReadText text ends items × RefusesAnItem g db list (drop done items)

-- all messages of the input, which was read to its end
abbrev pub IsInputImported : (list text : List ℕ) → (ends : ℕ) → (a b : Archive) → Report → Type 0
IsInputImported list text ends a b report = (ends ≡ 1) × IsImported list text a b report

-- ---- how a cutter and its input stand

-- nothing was read
pub record IsCutterAtStart (cutter : CutterState) : Type 0 where
  pub is_empty : cutter ≡ record { stream = []; taken = []; waiting = []; phase = Running }
  pub is_consistent : IsCutterConsistent cutter

-- all messages that are settled were taken, and it goes on
pub record IsCutterDrained (cutter : CutterState) : Type 0 where
  pub phase_is_running : cutter.phase ≡ Running
  pub none_waiting : cutter.waiting ≡ []
  pub is_consistent : IsCutterConsistent cutter

-- The messages that waited were taken, where all were held; nothing more was read, and no read failed.
pub record TakesWaiting {A : Type 0} (old new : CutterState) (result : Result A ImportStop) : Type 0 where
  pub takes_waiting : OnOk result ((new.taken ≡ old.taken ++ old.waiting) × (new.waiting ≡ []))
  pub stream_is_same : new.stream ≡ old.stream
  pub phase_is_same : new.phase ≡ old.phase
  pub is_consistent : IsCutterConsistent new
  pub no_read_failure : IfErr result (λ stop. FaultHasReadFailures stop.fault 0)

-- This was read of an input, by what it told before and after: after Ok to its end, which was met once, and all that is settled was
-- taken, and else never; and so many reads failed.
pub record ReadsInputThroughCutter (before after : List ℕ) (ended ends failed fails : ℕ) (cutter : CutterState) {A : Type 0} (result : Result A ImportStop) : Type 0 where
  pub stream_is_read : after ≡ before ++ cutter.stream
  pub settles_if_ok : OnOk result (IsCutterDrained cutter)
  pub ok_means_end : OnOk result (ends ≡ ended + 1)
  pub err_means_no_end : IfErr result (λ _. ends ≡ ended)
  pub failures : (more : ℕ) × (fails ≡ failed + more) × ResultHasReadFailures result more

-- ---- what becomes of a store

-- An import of this text, which was read of an input that met its end so often.
abbrev pub ImportsInput : {S W : Type 0} → Ghosts S W → (old new : S) → (list text : List ℕ) → (ends : ℕ) → Result Report ImportStop → Type 0
ImportsInput g old new list text ends result = CallsStoreWithTables g old new halt_reason result
    (λ a b report. IsInputImported list text ends a b report)
    (λ a b why. IsImportError list text ends a b why.0 why.1)
    (λ a b stop. IsBrokenInputImport list text ends a b stop.done stop.fault)

-- How it ends, and each call of it: why E15 comes, where the tables are an archive's, and that want of memory is counted.
abbrev pub EndsReading : {S W : Type 0} → Ghosts S W → (old new : S) → {A : Type 0} → Result A ImportStop → (Archive → ℕ → S → Type 0) → Type 0
EndsReading g old new result Stops = EndsImport g old new (HoldsTables g) IsImportMemoryRefusal result Stops

-- What a stop of the machine leaves of an import of this text, which was read of an input that met its end so often.
pub record CrashImportsInput {S W : Type 0} (g : Ghosts S W) (old new : S) (list text : List ℕ) (ends : ℕ) (result : Result Report ImportStop) : Type 0 where
  -- Within the call: so many first messages of the bytes that the input has. They begin with what was read, and are what was read where the
  -- end was met, as in each run over these bytes. Nothing else is named but the archive before.
  pub when_crashed : (rest : List ℕ) → (ends ≡ 1 → rest ≡ []) → CrashLeavesRelatedArchive g old new (HasAddedReadAtLeast list (text ++ rest) 1 0)
  -- once it has stopped: at least those that it told, of what was read
  pub when_stopped : IfErr result (λ stop. CrashLeavesRelatedArchive g old new (HasAddedReadAtLeast list text ends stop.done))
