-- The view as an mbox, written to a device.
use Rattle.std.specs.Prelude.{◌≡◌, ◌<◌, ◌^◌, ◌-◌, ◌++◌, ℕ, List, length, map, filter, min, Option, Some, None, Result, option_map}
use Rattle.archive_port.specs.declared.state.ArchiveState.{Ghosts}
use Rattle.mbox_core.specs.Written.{AppendsPrefixOfText}
use Rattle.archive_model.specs.Records.{Archive, Message as Remembered}
use Rattle.archive_port.specs.Told.{StoreHasCleanDisk, HoldsTables, archive_in}
use Rattle.archive_results.specs.Access.{Ask, ReaderFacts, is_shown, view_of}
use Rattle.archive_results.specs.Results.{export_text}
use Rattle.archive_results.specs.Shown.{shown_message}
use Rattle.archive_desk.specs.Holding.{CallsStoreWithTables}
use Rattle.archive_desk.specs.Faults.{RefusalReason, refused, not_in_view, not_written, declined, refusal_reason, ask_reason}
use Rattle.archive_desk.specs.declared.exporting.ExportStop.{ExportStop}
use Rattle.archive_desk.specs.declared.faults.DeskError.{DeskError}
use Rattle.archive_desk.specs.declared.faults.DeskError.TheVariants.{Store as Stored, Memory, Write}

-- the text of an export
abbrev pub exported_text : Archive → Ask → List ℕ
exported_text archive ask = export_text (map shown_message (view_of archive ask))

-- the text of those of these messages that the policy shows to a reader of these marks
abbrev pub shown_mbox_text : Ask → ReaderFacts → List Remembered → List ℕ
shown_mbox_text ask reader messages = export_text (map shown_message (filter (is_shown ask reader) messages))

-- how many bytes were written, and why it stopped; none where memory or the database was at fault
abbrev pub export_stop_reason : ExportStop → Option (ℕ × RefusalReason)
export_stop_reason stop = option_map (λ why. (stop.written, why)) (refusal_reason stop.fault)

-- G1 and G2, where what is asked is refused; G6, and then exactly the first bytes of the text were written, where the writer
-- told fewer than 2^64 bytes
abbrev pub IsExportRefused : Option RefusalReason → List ℕ → List ℕ → List ℕ → ℕ → RefusalReason → Type 0
IsExportRefused asked before after text count (refused why) = asked ≡ Some (refused why)
IsExportRefused asked before after text count not_written = (asked ≡ None) × (length after < 2 ^ 64 → AppendsPrefixOfText before after text count)
IsExportRefused asked before after text count not_in_view = ⊥
IsExportRefused asked before after text count (declined why) = ⊥

-- An export of this text: after Ok the writer got it, and the count is its length, as far as 64 bits go; else why it stopped.
-- The archive stays.
abbrev pub ExportsMbox : {S W : Type 0} → Ghosts S W → S → S → Result ℕ ExportStop → Ask → List ℕ → List ℕ → (Archive → List ℕ) → Type 0
ExportsMbox g old new result ask before after text = CallsStoreWithTables g old new export_stop_reason result
    (λ a b count. (b ≡ a) × (ask_reason a ask ≡ None) × (after ≡ before ++ text a) × (count ≡ min (length (text a)) (2 ^ 64 - 1)))
    (λ a b why. (b ≡ a) × IsExportRefused (ask_reason a ask) before after (text a) why.0 why.1)
    (λ a b stop. b ≡ a)

-- so many bytes were written, as far as 64 bits go
abbrev pub HasWrittenBytes : (before after : List ℕ) → ℕ → Type 0
HasWrittenBytes before after count = (part : List ℕ) × (after ≡ before ++ part) × (count ≡ min (length part) (2 ^ 64 - 1))

-- The writer failed. Else it did not: where the store failed or memory was wanting, so many bytes were written, and where what is
-- asked is refused, none.
abbrev pub IsExportStop : List ℕ → List ℕ → ℕ → ℕ → ℕ → DeskError → Type 0
IsExportStop before after failed fails count Write = failed < fails
IsExportStop before after failed fails count (Stored fault) = (fails ≡ failed) × HasWrittenBytes before after count
IsExportStop before after failed fails count Memory = (fails ≡ failed) × HasWrittenBytes before after count
IsExportStop before after failed fails count other = (count ≡ 0) × (after ≡ before) × (fails ≡ failed)

-- Whatever the fault, and whether the connection is still open: exactly the first bytes of the text of what the store
-- remembered were written, where the writer told fewer than 2^64 bytes.
abbrev pub ExportsPart : {S W : Type 0} → Ghosts S W → S → S → (before after : List ℕ) → ℕ → (Archive → List ℕ) → Type 0
ExportsPart g old new before after count text =
    StoreHasCleanDisk g new → HoldsTables g old → length after < 2 ^ 64 → AppendsPrefixOfText before after (text (archive_in g old)) count

-- Where some bytes were written, what is asked is not refused: the list is there, and so is the reader.
abbrev pub WritesOnlyIfNotRefused : {S W : Type 0} → Ghosts S W → S → S → Ask → ℕ → Type 0
WritesOnlyIfNotRefused g old new ask count = StoreHasCleanDisk g new → HoldsTables g old → 0 < count → ask_reason (archive_in g old) ask ≡ None
