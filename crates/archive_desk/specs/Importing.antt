-- What becomes of the messages of a file that are added to a list.
use Rattle.std.specs.Prelude.{◌≡◌, ◌⊎◌, ℕ, ⊤, true, false, List, drop, Option, Some, None, option_map}
use Rattle.mbox_core.specs.Division.{Item, DividesIntoItems, IsPreamble}
use Rattle.mbox_core.specs.Faults.{IsCutFault}
use Rattle.mbox_core.specs.declared.faults.MboxFault.TheVariants.{Preamble, Read, Memory, Failed}
use Rattle.archive_model.specs.Records.{Archive}
use Rattle.archive_model.specs.Commands.{Refusal, no_list, list_full}
use Rattle.archive_model.specs.Questions.{has_list}
use Rattle.archive_model.specs.Runs.{taken, Tally, tally_replies}
use Rattle.archive_port.specs.declared.state.ArchiveState.{Ghosts}
use Rattle.archive_port.specs.Adding.{HasAddedFirstItems, IsListFullAt, IsRefusedAt, RefusesAnItem}
use Rattle.archive_port.specs.Replies.{refusal_of_fault}
use Rattle.archive_port.specs.declared.faults.StoreFault.TheVariants.{Memory as NoMemory, Store as Broken}
use Rattle.archive_desk.specs.declared.importing.Report.{Report}
use Rattle.archive_desk.specs.declared.importing.ImportStop.{ImportStop}
use Rattle.archive_desk.specs.declared.importing.ImportError.{ImportError}
use Rattle.archive_desk.specs.declared.importing.ImportError.TheVariants.{Mbox, Store}
use Rattle.archive_desk.specs.declared.importing.Uncut.{Uncut}
use Rattle.archive_desk.specs.declared.importing.Uncut.TheVariants.{Mbox as NotMbox, Refused}

abbrev pub import_tally_of : Report → Tally
import_tally_of r = record { new = r.new; known = r.known; too_large = r.too_large }

-- ---- why an import stops

-- Where neither memory nor the database was at fault: the file's first line that is not empty begins at this offset and is
-- no separator line, or the store refuses to take the messages from a place on.
pub data ImportStopCause : Type 0 where
  no_mbox : (offset : ℕ) → ImportStopCause
  not_taken : Refusal → ImportStopCause

abbrev pub import_stop_cause : ImportError → Option ImportStopCause
import_stop_cause (Mbox (Preamble offset)) = Some (no_mbox offset)
import_stop_cause (Mbox Read) = None
import_stop_cause (Mbox Memory) = None
import_stop_cause (Mbox Failed) = None
import_stop_cause (Store fault) = option_map not_taken (refusal_of_fault fault)

-- how many messages were done, and the cause; none where memory or the database was at fault
abbrev pub import_stop_reason : ImportStop → Option (ℕ × ImportStopCause)
import_stop_reason stop = option_map (λ cause. (stop.done, cause)) (import_stop_cause stop.fault)

-- E14
abbrev pub IsImportStoreMemoryRefusal : ImportError → Type 0
IsImportStoreMemoryRefusal fault = fault ≡ Store NoMemory

-- E15
abbrev pub IsImportDatabaseFault : ImportError → Type 0
IsImportDatabaseFault fault = fault ≡ Store Broken

-- ---- messages, added one after the other

-- all of them: the archive is the machine's, and the report counts its replies
pub record HasAddedAllItems (list : List ℕ) (items : List Item) (a b : Archive) (report : Report) : Type 0 where
  pub archive_is : b ≡ (taken a list items).archive
  pub tally_is : import_tally_of report ≡ tally_replies (taken a list items).replies

-- the list was refused from this place on
abbrev pub IsRefusedAdd : List ℕ → List Item → Archive → Archive → ℕ → ImportStopCause → Type 0
IsRefusedAdd list items a b done (no_mbox offset) = ⊥
IsRefusedAdd list items a b done (not_taken why) = HasAddedFirstItems list items done a b × IsRefusedAt a list items done why

-- memory or the database was at fault
abbrev pub IsBrokenAdd : List ℕ → List Item → Archive → Archive → ℕ → ImportError → Type 0
IsBrokenAdd list items a b done (Mbox fault) = ⊥
IsBrokenAdd list items a b done (Store fault) = HasAddedFirstItems list items done a b

-- ---- the messages of a file

-- why it is not cut: M1, or there is no memory
abbrev pub IsSplitError : List ℕ → Uncut → Type 0
IsSplitError text (NotMbox fault) = IsCutFault text fault
IsSplitError text (Refused why) = ⊤

-- all messages of the file were added
pub record IsImported (list text : List ℕ) (a b : Archive) (report : Report) : Type 0 where
  pub list_exists : has_list a list ≡ true
  pub items : List Item
  pub divides_into_items : DividesIntoItems text items
  pub adds_all : HasAddedAllItems list items a b report

-- the first `done` messages of the file were added
abbrev pub HasImportedFirst : List ℕ → List ℕ → ℕ → Archive → Archive → Type 0
HasImportedFirst list text done a b = (items : List Item) × DividesIntoItems text items × HasAddedFirstItems list items done a b

-- E4: there is no such list, whatever the file is. M1: the file is no mbox. Neither changes the archive. E12: after the first
-- `done` messages of the file the list holds 50,000, and the machine refuses the next for that.
abbrev pub IsRefusedImport : List ℕ → List ℕ → Archive → Archive → ℕ → ImportStopCause → Type 0
IsRefusedImport list text a b done (no_mbox offset) = (done ≡ 0) × (b ≡ a) × (has_list a list ≡ true) × IsPreamble text offset
IsRefusedImport list text a b done (not_taken no_list) = (done ≡ 0) × (b ≡ a) × (has_list a list ≡ false)
IsRefusedImport list text a b done (not_taken list_full) =
    (items : List Item) × DividesIntoItems text items × HasAddedFirstItems list items done a b × IsListFullAt a list items done
IsRefusedImport list text a b done _ = ⊥

-- memory or the database was at fault, before the file was cut or after its first `done` messages
abbrev pub IsBrokenImport : List ℕ → List ℕ → Archive → Archive → ℕ → ImportError → Type 0
IsBrokenImport list text a b done (Mbox fault) = ⊥
IsBrokenImport list text a b done (Store fault) = ((done ≡ 0) × (b ≡ a)) ⊎ HasImportedFirst list text done a b

-- Some of the messages of the file behind the first `done` make of what is held what refuses the next, which the machine takes in.
abbrev pub RowsRefuseImportItem : {S W : Type 0} → Ghosts S W → List ℕ → List ℕ → ℕ → S → Type 0
RowsRefuseImportItem g list text done store = (items : List Item) × DividesIntoItems text items × RefusesAnItem g store list (drop done items)
