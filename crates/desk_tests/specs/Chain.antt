-- What an import, a month and an export of one store answer, one after the other: the last two of the archive that the import
-- left.
use Rattle.std.specs.Prelude.{◌≡◌, ◌<◌, ◌^◌, ◌-◌, ◌++◌, ℕ, List, length, map, min, Option, Some, None, option_map}
use Rattle.archive_port.specs.declared.state.ArchiveState.{Ghosts}
use Rattle.mbox_core.specs.Written.{AppendsPrefixOfText}
use Rattle.archive_model.specs.Records.{Archive}
use Rattle.archive_port.specs.Told.{StoreHasCleanDisk, IsReady, archive_in}
use Rattle.archive_results.specs.Access.{Ask, view_of}
use Rattle.archive_results.specs.Results.{month_lines}
use Rattle.archive_results.specs.Shown.{shown_message}
use Rattle.archive_desk.specs.Exporting.{IsExportRefused, IsExportStop, exported_text, export_stop_reason as export_reason}
use Rattle.archive_desk.specs.Faults.{RefusalReason, ask_reason, refusal_reason}
use Rattle.archive_desk.specs.Importing.{ImportStopCause, IsBrokenImport, IsImported, IsRefusedImport, import_stop_reason as import_reason}
use Rattle.archive_desk.specs.declared.importing.Report.{Report}
use Rattle.desk_tests.specs.declared.chain.ChainStop.{ChainStop}
use Rattle.desk_tests.specs.declared.chain.ChainStop.TheVariants.{Import, Month, Export}
use Rattle.desk_tests.specs.declared.chain.Told.{Told}

-- All three were answered: the file was imported, and the lines, the text and the count are those of the archive that it left.
pub record ImportsListsAndExports (ask : Ask) (text : List ℕ) (month : ℕ) (before after : List ℕ) (a b : Archive) (told : Told) : Type 0 where
  pub imports : IsImported ask.list text a b told.report
  pub not_refused : ask_reason b ask ≡ None
  pub lines_are : told.lines.items ≡ month_lines month (map shown_message (view_of b ask))
  pub writes_export : after ≡ before ++ exported_text b ask
  pub exported_length_is : told.count ≡ min (length (exported_text b ask)) (2 ^ 64 - 1)

-- Why they stopped, where neither memory nor the database was at fault: after so many messages of the file, in the month, or
-- after so many bytes of the export.
pub data ChainRefusal : Type 0 where
  not_imported : (done : ℕ) → ImportStopCause → ChainRefusal
  not_listed : RefusalReason → ChainRefusal
  not_exported : (count : ℕ) → RefusalReason → ChainRefusal

-- none where memory or the database was at fault
abbrev pub chain_refusal_of : ChainStop → Option ChainRefusal
chain_refusal_of (Import stop) = option_map (λ why. not_imported why.0 why.1) (import_reason stop)
chain_refusal_of (Month fault) = option_map not_listed (refusal_reason fault)
chain_refusal_of (Export stop) = option_map (λ why. not_exported why.0 why.1) (export_reason stop)

-- the file was imported
abbrev pub HasImported : Ask → (text : List ℕ) → Archive → Archive → Type 0
HasImported ask text a b = (report : Report) × IsImported ask.list text a b report

-- what is refused behind the import is refused of the archive that it left
abbrev pub IsChainRefused : Ask → (text before after : List ℕ) → Archive → Archive → ChainRefusal → Type 0
IsChainRefused ask text before after a b (not_imported done cause) = IsRefusedImport ask.list text a b done cause
IsChainRefused ask text before after a b (not_listed why) = HasImported ask text a b × (ask_reason b ask ≡ Some why)
IsChainRefused ask text before after a b (not_exported count why) =
    HasImported ask text a b × IsExportRefused (ask_reason b ask) before after (exported_text b ask) count why

-- memory or the database was at fault: in the import, or behind it
abbrev pub IsChainSystemError : Ask → (text : List ℕ) → Archive → Archive → ChainStop → Type 0
IsChainSystemError ask text a b (Import stop) = IsBrokenImport ask.list text a b stop.done stop.fault
IsChainSystemError ask text a b (Month fault) = HasImported ask text a b
IsChainSystemError ask text a b (Export stop) = HasImported ask text a b

-- before the export nothing was written; of the export what it says itself
abbrev pub WritesUntilChainStop : (before after : List ℕ) → (failed fails : ℕ) → ChainStop → Type 0
WritesUntilChainStop before after failed fails (Import stop) = (after ≡ before) × (fails ≡ failed)
WritesUntilChainStop before after failed fails (Month fault) = (after ≡ before) × (fails ≡ failed)
WritesUntilChainStop before after failed fails (Export stop) = IsExportStop before after failed fails stop.written stop.fault

-- Whatever stopped the export, and whether the connection is still open: the file was imported, and exactly the first bytes of
-- the export of the archive that it left were written, where the writer told fewer than 2^64 bytes.
abbrev pub WritesExportPrefix : {S W : Type 0} → Ghosts S W → (old new : S) → Ask → (text before after : List ℕ) → ChainStop → Type 0
WritesExportPrefix g old new ask text before after (Export stop) =
    StoreHasCleanDisk g new → IsReady g old → length after < 2 ^ 64
    → (b : Archive) × HasImported ask text (archive_in g old) b × AppendsPrefixOfText before after (exported_text b ask) stop.written
WritesExportPrefix g old new ask text before after _ = Unit {0}
