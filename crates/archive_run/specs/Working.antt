-- What becomes of an open store by an order, and what goes out.
use Rattle.std.specs.Prelude.{◌≡◌, ◌⊎◌, ◌++◌, ℕ, List, codes, decimal, string_bytes, Result, Ok, Err, ⊤, MatchResult}
use Rattle.archive_port.specs.declared.state.ArchiveState.{Ghosts}
use Rattle.byte_device.specs.declared.devices.Source.{Ghosts as Reads}
use Rattle.archive_model.specs.Questions.{messages_in}
use Rattle.archive_port.specs.declared.faults.StoreFault.{StoreFault}
use Rattle.archive_port.specs.declared.faults.StoreFault.TheVariants as store
use Rattle.archive_port.specs.Checking.{ChecksArchive}
use Rattle.archive_port.specs.Told.{HoldsTables, MemoryWasRefused}
use Rattle.archive_port.specs.Wanting.{IsMemoryRefusal}
use Rattle.archive_port.specs.declared.checking.CheckError.TheVariants as check
use Rattle.archive_results.specs.Access.{Ask}
use Rattle.archive_desk.specs.Causes.{HasCause, HasPartialCallCause, HasDiskCause, IsDeskDatabaseFault, IsQuestionUnreadable, IsDeskMemoryRefusal}
use Rattle.archive_desk.specs.Exporting.{ExportsPart, IsExportStop, exported_text}
use Rattle.archive_desk.specs.Importing.{IsImportDatabaseFault}
use Rattle.archive_desk.specs.declared.faults.DeskError.{DeskError}
use Rattle.archive_desk.specs.declared.importing.ImportError.{ImportError}
use Rattle.archive_desk.specs.declared.importing.Report.{Report}
use Rattle.archive_args.specs.Values.{StoreCommand}
use Rattle.archive_import.specs.Streaming.{FaultHasReadFailures, ImportsInput, IsImportMemoryRefusal as IsReadWanting, RowsRefuseReadItem}
use Rattle.archive_commands.specs.Working.{CarriesOutCommand, ExportsList, GetsMessage, HasCommandErrorCause, HasGetErrorCause}
use Rattle.archive_commands.specs.declared.getting.GetError.TheVariants as got
use Rattle.sift_run.specs.Streams.{OutputStreamState, WritesPartAndFails}
use Rattle.sift_run.specs.declared.faults.CommandError.TheVariants.{Read, Write, Memory}
use Rattle.sift_run.specs.declared.files.FileError.TheVariants as file
use Rattle.sift_run.specs.declared.files.StreamedFiles.{Ghosts as Opens}
use Rattle.archive_run.specs.Databases.{UsesDatabase, GivesNoDatabase}
use Rattle.archive_run.specs.Files.{ReadsOpenedFile, GivesNoInput}
use Rattle.archive_port.specs.declared.databases.Databases.{Ghosts as Keeps}
use Rattle.archive_run.specs.declared.faults.RunError.{RunError}
use Rattle.archive_run.specs.declared.faults.RunError.TheVariants.{Run, Store, Desk, Import, Damaged, Denied}

-- the line of an import's report
abbrev pub report_line : Report → List ℕ
report_line report =
    codes "new " ++ decimal report.new ++ codes " known " ++ decimal report.known ++ codes " too-large " ++ decimal report.too_large ++ codes "\n"

-- a text was written, whole; or the output failed (F2), and a prefix of the text was written
abbrev pub WritesTextOrFails : (before after : OutputStreamState) → (text : List ℕ) → Result ⊤ RunError → Type 0
WritesTextOrFails before after text result = MatchResult result (λ _. (after.written ≡ before.written ++ text) × (after.failures ≡ before.failures))
    (λ refusal. (refusal ≡ Run Write) × WritesPartAndFails before after text)

-- ---- what becomes of an open store where an order is refused

module _ {S W : Type 0} (g : Ghosts S W) (old new : S) where
  -- what a fault of a call means: where it is a want of memory, that memory was refused in that call; and where it is E15, this
  abbrev pub ErrorHasCause : {F : Type 0} → (IsMemoryRefusal IsDeskDatabaseFault : F → Type 0) → F → (Cause : Type 0) → Type 0
  ErrorHasCause IsMemoryRefusal IsDeskDatabaseFault fault Cause = (IsMemoryRefusal fault → MemoryWasRefused g old new) × (IsDeskDatabaseFault fault → Cause)

  -- E14 and E15
  abbrev pub StoreFaultHasCause : StoreFault → (Cause : Type 0) → Type 0
  StoreFaultHasCause = ErrorHasCause IsMemoryRefusal (λ fault. fault ≡ store.Store)

  -- G5, and G4 that carries E14 or E15
  abbrev pub DeskErrorHasCause : DeskError → (Cause : Type 0) → Type 0
  DeskErrorHasCause = ErrorHasCause IsDeskMemoryRefusal IsDeskDatabaseFault

  -- E14 and M3, and E15
  abbrev pub ImportErrorHasCause : ImportError → (Cause : Type 0) → Type 0
  ImportErrorHasCause = ErrorHasCause IsReadWanting IsImportDatabaseFault

module _ {S W : Type 0} (g : Ghosts S W) (old new : S) where
  -- a command: E1 to E15; E15 only where the disk failed, or what is held refuses what the machine carries out
  abbrev pub RefusesCommand : StoreCommand → RunError → Type 0
  RefusesCommand command (Store fault) = CarriesOutCommand g old new command (Err fault) × StoreFaultHasCause g old new fault (HasCommandErrorCause g old new command)
  RefusesCommand command _ = ⊥

  -- An import of the file of this name, of which an input tells these bytes, meets its end and fails so often.
  module _ {F I : Type 0} (opens : Opens F I) (reads : Reads I) (files : F) (list mbox : List ℕ) where
    -- It was read to its end, no read failed, and its messages were taken in.
    abbrev pub ImportsFile : Report → Type 0
    ImportsFile report = ReadsOpenedFile opens reads files mbox
        (λ text ended failed. (ended ≡ 1) × (failed ≡ 0) × ImportsInput g old new list text ended (Ok report))

    -- It gave no input (F1), or there was no memory for one (F5), and nothing was taken in. Or it was read as far as this, and
    -- the import stopped: no such list, and nothing was read (E4); no mbox (M1); a failed read, after all messages that were
    -- settled by then (M2); no memory (M3); a full list (E12); or the database, or its memory (E15, E14). Memory was refused in that
    -- call where M3 or E14 says so; and of tables that were an archive's E15 means that the disk failed, or that some of the
    -- messages behind those that are done make rows that refuse the next.
    abbrev pub RefusesImport : RunError → Type 0
    RefusesImport (Run Read) = GivesNoInput opens reads files mbox file.Read × (new ≡ old)
    RefusesImport (Run Memory) = GivesNoInput opens reads files mbox file.Memory × (new ≡ old)
    RefusesImport (Import stop) = ReadsOpenedFile opens reads files mbox
        (λ text ended failed. FaultHasReadFailures stop.fault failed × ImportsInput g old new list text ended (Err stop)
        × ImportErrorHasCause g old new stop.fault (HasPartialCallCause g old new (HoldsTables g) (λ _ db. RowsRefuseReadItem g list text ended stop.done db)))
    RefusesImport _ = ⊥

  -- A message that is asked for: E8, G1, G2, G4, G5, or the rule that denies it; or there was no memory for its name (F5), which was
  -- refused in that call. Where G4 carries E15, the disk failed, or the message or what is asked of the reader cannot be read.
  abbrev pub RefusesGet : Ask → (key : List ℕ) → RunError → Type 0
  RefusesGet ask key (Store fault) = (fault ≡ store.NoMessage) × GetsMessage g old new ask key (Err got.NoMessage)
  RefusesGet ask key (Desk fault) = GetsMessage g old new ask key (Err (got.Fault fault)) × DeskErrorHasCause g old new fault (HasGetErrorCause g old new ask key)
  RefusesGet ask key (Denied rule) = (name : _) × (name.now ≡ string_bytes rule) × GetsMessage g old new ask key (Err (got.Denied name))
  RefusesGet ask key (Run Memory) = MemoryWasRefused g old new × (name : _) × GetsMessage g old new ask key (Err (got.Denied name))
  RefusesGet ask key _ = ⊥

  -- A check: E14, E15, which is the disk; or E16 of the message that it names.
  abbrev pub RefusesCheck : RunError → Type 0
  RefusesCheck (Store fault) = ChecksArchive g old new (Err (check.Failed fault)) × StoreFaultHasCause g old new fault (HasDiskCause g old new)
  RefusesCheck (Damaged list key) = ChecksArchive g old new (Err (check.Damaged list key))
  RefusesCheck _ = ⊥

  -- an export: its text went out, whole, and was passed on
  abbrev pub ExportsWholeList : Ask → (before after : OutputStreamState) → Type 0
  ExportsWholeList ask before after = (count : ℕ) × ExportsList g old new ask before.written after.written (Ok count)
      × (after.failures ≡ before.failures) × (after.passed ≡ after.written)

  -- An export: G1, G2, G4 to G6; exactly the first bytes of its text went out. Where G4 carries E15, the disk failed, or a message of
  -- the list or what is asked of the reader cannot be read.
  abbrev pub RefusesExport : Ask → (before after : OutputStreamState) → RunError → Type 0
  RefusesExport ask before after (Desk fault) = (count : ℕ) × ExportsList g old new ask before.written after.written (Err (record { written = count; fault = fault }))
      × IsExportStop before.written after.written before.failures after.failures count fault
      × ExportsPart g old new before.written after.written count (λ a. exported_text a ask)
      × DeskErrorHasCause g old new fault (HasCause g old new (λ a. IsQuestionUnreadable a ask (messages_in a ask.list)))
  RefusesExport ask before after _ = ⊥

-- ---- an order over the database of a name

module _ {S D : Type 0} (keeps : Keeps D S) (old new : D) (file : List ℕ) where
  -- It was not opened: E14, E15.
  abbrev pub RefusesOpening : RunError → Type 0
  RefusesOpening (Store fault) = GivesNoDatabase keeps old new file fault
  RefusesOpening _ = ⊥

  -- It was not opened, or this became of its store.
  abbrev pub FailsOnDatabase : (S → S → RunError → Type 0) → RunError → Type 0
  FailsOnDatabase Becomes refusal = RefusesOpening refusal ⊎ UsesDatabase keeps old new file (λ o c. Becomes o c refusal)

  -- What was answered came of its store; or it was not opened; or what was refused came of its store.
  abbrev pub AnswersOrFails : {A : Type 0} → Result A RunError → (A → S → S → Type 0) → (S → S → RunError → Type 0) → Type 0
  AnswersOrFails result Said Refused = MatchResult result (λ a. UsesDatabase keeps old new file (Said a)) (FailsOnDatabase Refused)
