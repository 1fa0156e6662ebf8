-- The messages that are held for one call of the store, and what became of those before them.
use Rattle.archive_port.specs.declared.state.ArchiveState.{Ghosts}
use Rattle.std.specs.Prelude.{◌≡◌, ◌⊎◌, ◌≤◌, ◌+◌, ◌++◌, ℕ, true, List, length, drop, Result, MatchResult}
use Rattle.mbox_core.specs.Division.{Item}
use Rattle.archive_model.specs.Records.{Archive}
use Rattle.archive_model.specs.Questions.{has_list}
use Rattle.archive_model.specs.Runs.{taken, Tally, tally_replies}
use Rattle.archive_port.specs.Adding.{HasAddedFirstItems, total_text_bytes, reported_count, IsListFullAt, RefusesAnItem}
use Rattle.archive_port.specs.declared.reports.AddReport.{AddReport}
use Rattle.archive_port.specs.declared.reports.AddError.{AddError}
use Rattle.archive_desk.specs.Importing.{import_tally_of}
use Rattle.archive_desk.specs.declared.importing.Report.{Report}
use Rattle.archive_desk.specs.declared.importing.ImportError.{ImportError}
use Rattle.archive_desk.specs.declared.importing.ImportError.TheVariants.{Mbox, Store}
use Rattle.archive_import.specs.declared.intake.TheConstants.{MESSAGES_HELD, BYTES_HELD}
use Rattle.archive_import.specs.Streaming.{HaltReason, no_mbox, not_read, no_room, unknown_list, full, declined, RowsRefuseReadItem}

pub record IntakeState : Type 0 where
  -- the messages that are held
  pub held : List Item
  -- how many were done before them, and what became of those
  pub done : ℕ
  pub report : Report

-- what may be held: so many messages, and so many bytes of their texts, unless the one text is longer
abbrev pub FitsIntakeLimits : List Item → Type 0
FitsIntakeLimits items = (length items ≤ MESSAGES_HELD) × ((total_text_bytes items ≤ BYTES_HELD) ⊎ (length items ≤ 1))

-- how many messages a report tells of
abbrev pub report_total : Report → ℕ
report_total r = r.new + r.known + r.too_large

abbrev pub tally_sum : Tally → Tally → Tally
tally_sum a b = record { new = a.new + b.new; known = a.known + b.known; too_large = a.too_large + b.too_large }

-- a report tells of these messages more
abbrev pub ReportGrowsBy : Report → Tally → Report → Type 0
ReportGrowsBy before counts after = import_tally_of after ≡ tally_sum (import_tally_of before) counts

-- Of the archive `a`, which has the list, `b` is what the messages before those that are held make, and the report counts
-- the machine's replies to them. With those that are held they are all these messages.
pub record IsUnderWay (list : List ℕ) (a b : Archive) (items : List Item) (intake : IntakeState) : Type 0 where
  pub list_exists : has_list a list ≡ true
  pub items_before : List Item
  pub items_are : items ≡ items_before ++ intake.held
  pub done_is_count : intake.done ≡ length items_before
  pub archive_is : b ≡ (taken a list items_before).archive
  pub tally_is : import_tally_of intake.report ≡ tally_replies (taken a list items_before).replies

-- Why messages were added no further than the first `done`: there was no memory, or the list is full.
abbrev pub IsAddError : (list : List ℕ) → (items : List Item) → (a b : Archive) → (done : ℕ) → HaltReason → Type 0
IsAddError list items a b done (no_mbox n) = ⊥
IsAddError list items a b done not_read = ⊥
IsAddError list items a b done no_room = HasAddedFirstItems list items done a b
IsAddError list items a b done unknown_list = ⊥
IsAddError list items a b done full = HasAddedFirstItems list items done a b × IsListFullAt a list items done
IsAddError list items a b done (declined why) = ⊥

-- The same after a read failed: all were added, and it is M2; or the list is full.
abbrev pub IsErrorAfterFailedRead : (list : List ℕ) → (items : List Item) → (a b : Archive) → (done : ℕ) → HaltReason → Type 0
IsErrorAfterFailedRead list items a b done (no_mbox n) = ⊥
IsErrorAfterFailedRead list items a b done not_read = (done ≡ length items) × (b ≡ (taken a list items).archive)
IsErrorAfterFailedRead list items a b done no_room = HasAddedFirstItems list items done a b
IsErrorAfterFailedRead list items a b done unknown_list = ⊥
IsErrorAfterFailedRead list items a b done full = HasAddedFirstItems list items done a b × IsListFullAt a list items done
IsErrorAfterFailedRead list items a b done (declined why) = ⊥

-- Messages under way: the rows stop them behind the first `done`.
abbrev pub RowsRefusePending : {S W : Type 0} → Ghosts S W → (list : List ℕ) → IntakeState → Archive → (done : ℕ) → S → Type 0
RowsRefusePending g list intake b done db = (a : Archive) (items : List Item) → IsUnderWay list a b items intake → RefusesAnItem g db list (drop done items)

-- these and more
abbrev pub RowsRefusePendingOrMore : {S W : Type 0} → Ghosts S W → (list : List ℕ) → IntakeState → (more : List Item) → Archive → (done : ℕ) → S → Type 0
RowsRefusePendingOrMore g list intake more b done db = (a : Archive) (items : List Item) → IsUnderWay list a b items intake → RefusesAnItem g db list (drop done (items ++ more))

-- those that are read
abbrev pub RowsRefusePendingRead : {S W : Type 0} → Ghosts S W → (list text : List ℕ) → (ends : ℕ) → (items : List Item) → IntakeState → Archive → (done : ℕ) → S → Type 0
RowsRefusePendingRead g list text ends items intake b done db = (a : Archive) → IsUnderWay list a b items intake → RowsRefuseReadItem g list text ends done db

-- what is told of messages that are added in one call: a report tells of all of them, and a stop of no more
abbrev pub ReportsWithinItems : List Item → Result AddReport AddError → Type 0
ReportsWithinItems items result = MatchResult result (λ report. reported_count report ≡ length items) (λ stop. stop.done ≤ length items)

abbrev pub IsStoreFault : ImportError → Type 0
IsStoreFault (Mbox fault) = ⊥
IsStoreFault (Store fault) = Unit {0}
