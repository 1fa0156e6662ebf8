-- What an import says, from what its calls say.
use Rattle.std.proofs.Common.{◌≡◌, ◌≤◌, refl, sym, ◌∙◌, subst, inl, inr, ℕ, true, false, List, length, take, Some, None, Result, Ok, Err, arith}
use Rattle.std.specs.Prelude.{MatchOption, option_map}
use Rattle.archive_port.specs.declared.state.ArchiveState.{Ghosts}
use Rattle.mbox_core.specs.Division.{Item, DividesIntoItems}
use Rattle.mbox_core.specs.Faults.{IsCutFault}
use Rattle.mbox_core.specs.declared.faults.MboxFault.{MboxFault}
use Rattle.mbox_core.specs.declared.faults.MboxFault.TheVariants.{Preamble}
use Rattle.archive_model.specs.Records.{Archive}
use Rattle.archive_model.specs.Commands.{Refusal, no_list, list_exists, list_full}
use Rattle.archive_model.specs.Questions.{has_list, list_refusal}
use Rattle.archive_model.specs.Sound.{IsIndexedCorrectly}
use Rattle.archive_port.specs.Adding.{AddsAllMessages, tally_of_report as store_tally}
use Rattle.archive_port.specs.Replies.{refusal_of_fault}
use Rattle.archive_port.specs.declared.reports.AddError.{AddError}
use Rattle.archive_port.specs.declared.reports.AddReport.{AddReport}
use Rattle.archive_port.specs.Told.{StaysOpenUnlessDiskFails, HoldsTables, RelatesArchivesUnder, RelatesArchivesUnderIfOpen, CallsReadyStore}
use Rattle.archive_port.specs.declared.faults.StoreFault.{StoreFault}
use Rattle.archive_port.specs.declared.faults.StoreFault.TheVariants.{Memory as NoMemory}
use Rattle.archive_port.proofs.Joins.{goes_in_as, goes_in_as_if_open}
use Rattle.archive_port.proofs.RightLemmas.{taken_right}
use Rattle.archive_desk.specs.Holding.{RelatesTableArchives, CallsStoreWithTables}
use Rattle.archive_desk.specs.Importing.{ImportStopCause, no_mbox, not_taken, import_stop_reason, import_tally_of, HasAddedAllItems, HasImportedFirst, IsImported, IsRefusedAdd, IsRefusedImport}
use Rattle.archive_desk.specs.Importing.{IsBrokenAdd, IsBrokenImport}
use Rattle.archive_desk.specs.declared.importing.Report.{Report}
use Rattle.archive_desk.specs.declared.importing.ImportStop.{ImportStop}
use Rattle.archive_desk.specs.declared.importing.ImportError.{ImportError}
use Rattle.archive_desk.specs.declared.importing.ImportError.TheVariants.{Mbox, Store as Stored}
use Rattle.archive_desk.proofs.CallLemmas.{calls_after, calls_right, reason_above, reason_told}

-- what an import says, and what adding messages says
module _ {S W : Type 0} (g : Ghosts S W) (old new : S) (list : List ℕ) (result : Result Report ImportStop) where
  abbrev pub Imports : (text : List ℕ) → Type 0
  Imports text = CallsStoreWithTables g old new import_stop_reason result (λ a b report. IsImported list text a b report) (λ a b why. IsRefusedImport list text a b why.0 why.1)
      (λ a b stop. IsBrokenImport list text a b stop.done stop.fault)

  abbrev pub Adds : (items : List Item) → Type 0
  Adds items = CallsStoreWithTables g old new import_stop_reason result (λ a b report. HasAddedAllItems list items a b report) (λ a b why. IsRefusedAdd list items a b why.0 why.1)
      (λ a b stop. IsBrokenAdd list items a b stop.done stop.fault)

-- ---- the list is not there

-- the one refusal of a question on a list
pub missing : (a : Archive) (list : List ℕ) (why : Refusal) → list_refusal a list ≡ Some why → (no_list ≡ why) × (has_list a list ≡ false)
missing a list why is = grind arith

pub refused_list : (list text : List ℕ) (a b : Archive) (why : Refusal) → b ≡ a → list_refusal a list ≡ Some why → IsRefusedImport list text a b 0 (not_taken why)
refused_list list text a b why same is =
    let it = missing a list why is in
    subst (λ r. IsRefusedImport list text a b 0 (not_taken r)) it.0 (refl, same, it.1)

module _ {S W : Type 0} (g : Ghosts S W) (old new : S) (list text : List ℕ) where
  pub list_not_found : (fault : StoreFault)
      → MatchOption (refusal_of_fault fault) (RelatesArchivesUnderIfOpen g (HoldsTables g) old new (λ a b. b ≡ a))
      (λ why. RelatesArchivesUnder g (HoldsTables g) old new (λ a b. (b ≡ a) × (list_refusal a list ≡ Some why)))
      → Imports g old new list (Err (record { done = 0; fault = Stored fault })) text
  list_not_found fault asked =
      let Refused : ℕ × ImportStopCause → Type 0 = λ why. RelatesTableArchives g old new (λ a b. IsRefusedImport list text a b why.0 why.1) in
      reason_above (option_map not_taken (refusal_of_fault fault)) (λ (cause : ImportStopCause). (0, cause)) Refused
      (reason_above (refusal_of_fault fault) not_taken (λ cause. Refused (0, cause)) asked
      (goes_in_as_if_open g (HoldsTables g) old new (λ a b. b ≡ a) (λ a b. IsBrokenImport list text a b 0 (Stored fault)) (λ a b same. inl (refl, same)))
      (λ why. goes_in_as g (HoldsTables g) old new (λ a b. (b ≡ a) × (list_refusal a list ≡ Some why)) (λ a b. IsRefusedImport list text a b 0 (not_taken why))
      (λ a b h. refused_list list text a b why h.0 h.1))) (λ it. it) (λ why it. it)

  -- ---- the file is not cut

  pub not_mbox : (fault : MboxFault) → IsCutFault text fault
      → RelatesArchivesUnder g (HoldsTables g) old new (λ a b. (b ≡ a) × (list_refusal a list ≡ None) × (has_list a list ≡ true))
      → Imports g old new list (Err (record { done = 0; fault = Mbox fault })) text
  not_mbox (Preamble offset) why before =
      goes_in_as g (HoldsTables g) old new (λ a b. (b ≡ a) × (list_refusal a list ≡ None) × (has_list a list ≡ true)) (λ a b. IsRefusedImport list text a b 0 (no_mbox offset))
      (λ a b h. (refl, h.0, h.2, why)) before
  not_mbox _ why before = absurd why

  pub no_room_to_cut : RelatesArchivesUnder g (HoldsTables g) old new (λ a b. (b ≡ a) × (list_refusal a list ≡ None) × (has_list a list ≡ true))
      → Imports g old new list (Err (record { done = 0; fault = Stored NoMemory })) text
  no_room_to_cut before = (before.0, (λ returned held up. let it = before.1 returned held in (it.0, inl (refl, it.1.0))))

-- ---- its messages are added, one after the other

module _ {S W : Type 0} (g : Ghosts S W) (old new : S) (list : List ℕ) (items : List Item) (lasts : StaysOpenUnlessDiskFails g old new) where
  -- all of them
  pub added_all : (counts : AddReport) (report : Report) → import_tally_of report ≡ store_tally counts → AddsAllMessages g old new (Ok counts) list items
      → RelatesTableArchives g old new (λ a b. HasAddedAllItems list items a b report)
  added_all counts report same adds = (
    lasts,
    λ returned held.
        let it = adds returned held in
        (it.0, record { archive_is = it.1; tally_is = same ∙ it.2 }),
  )

  -- the first of them
  pub added_first : (stop : AddError) → stop.done ≤ length items → AddsAllMessages g old new (Err stop) list items
      → Adds g old new list (Err (record { done = stop.done; fault = Stored stop.fault })) items
  added_first stop bound adds =
      let Refused : ℕ × ImportStopCause → Type 0 = λ why. RelatesTableArchives g old new (λ a b. IsRefusedAdd list items a b why.0 why.1) in
      reason_above (option_map not_taken (refusal_of_fault stop.fault)) (λ (cause : ImportStopCause). (stop.done, cause)) Refused
      (reason_above (refusal_of_fault stop.fault) not_taken (λ cause. Refused (stop.done, cause)) (reason_told (refusal_of_fault stop.fault) _ _ adds)
      (λ it. (lasts, λ returned held up. let here = it returned held up in (here.0, (bound, here.1))))
      (λ why it. (lasts, λ returned held. let here = it returned held in (here.0, ((bound, here.1), here.2))))) (λ it. it) (λ why it. it)

-- ---- the messages of a file

pub refused_add : (list text : List ℕ) (items : List Item) (a b c : Archive) (done : ℕ) (cause : ImportStopCause) → DividesIntoItems text items
    → (b ≡ a) × (list_refusal a list ≡ None) × (has_list a list ≡ true) → IsRefusedAdd list items b c done cause → IsRefusedImport list text a c done cause
refused_add list text items a b c done cause divides before refused =
    by_cause cause (subst (λ x. IsRefusedAdd list items x c done cause) before.0 refused)
  where
    by_cause : (cause : ImportStopCause) → IsRefusedAdd list items a c done cause → IsRefusedImport list text a c done cause
    by_cause (no_mbox offset) it = absurd it
    by_cause (not_taken no_list) it = absurd (let never : true ≡ false = sym before.2 ∙ it.1.1 in cc)
    by_cause (not_taken list_full) it = (items, divides, it.0, it.1)
    by_cause (not_taken _) it = absurd it.1

pub broken_add : (list text : List ℕ) (items : List Item) (a b c : Archive) (done : ℕ) (fault : ImportError) → DividesIntoItems text items
    → b ≡ a → IsBrokenAdd list items b c done fault → IsBrokenImport list text a c done fault
broken_add list text items a b c done (Mbox fault) divides same broken = absurd broken
broken_add list text items a b c done (Stored fault) divides same broken =
    inr (items, divides, subst (λ x. IsBrokenAdd list items x c done (Stored fault)) same broken)

module _ {S W : Type 0} (g : Ghosts S W) (old mid new : S) (list text : List ℕ) (items : List Item) (divides : DividesIntoItems text items) where
  -- the list is there, the file is cut, and its messages are added
  pub import_after : (result : Result Report ImportStop) → RelatesArchivesUnder g (HoldsTables g) old mid (λ a b. (b ≡ a) × (list_refusal a list ≡ None) × (has_list a list ≡ true))
      → Adds g mid new list result items → Imports g old new list result text
  import_after =
      calls_after g (HoldsTables g) old mid new import_stop_reason (λ a b. (b ≡ a) × (list_refusal a list ≡ None) × (has_list a list ≡ true))
      (λ a b report. HasAddedAllItems list items a b report) (λ a b report. IsImported list text a b report)
      (λ a b why. IsRefusedAdd list items a b why.0 why.1) (λ a b why. IsRefusedImport list text a b why.0 why.1)
      (λ a b stop. IsBrokenAdd list items a b stop.done stop.fault) (λ a b stop. IsBrokenImport list text a b stop.done stop.fault)
      (λ a b c report first it. record { list_exists = first.2; items = items; divides_into_items = divides; adds_all = subst (λ x. HasAddedAllItems list items x c report) first.0 it })
      (λ a b c why first it. refused_add list text items a b c why.0 why.1 divides first it)
      (λ a b c stop first it. broken_add list text items a b c stop.done stop.fault divides first.0 it)

-- ---- what is filed

-- what was added is filed right
module _ (list text : List ℕ) (a b : Archive) (right : IsIndexedCorrectly a) where
  imported_right : (report : Report) → IsImported list text a b report → IsIndexedCorrectly b
  imported_right report it = subst IsIndexedCorrectly (sym it.adds_all.archive_is) (taken_right a list it.items right)

  first_right : (done : ℕ) → HasImportedFirst list text done a b → IsIndexedCorrectly b
  first_right done it = subst IsIndexedCorrectly (sym it.2.1) (taken_right a list (take done it.0) right)

  refused_right : (done : ℕ) (cause : ImportStopCause) → IsRefusedImport list text a b done cause → IsIndexedCorrectly b
  refused_right done (no_mbox offset) it = subst IsIndexedCorrectly (sym it.1) right
  refused_right done (not_taken no_list) it = subst IsIndexedCorrectly (sym it.1) right
  refused_right done (not_taken list_full) it = first_right done (it.0, it.1, it.2)
  refused_right done (not_taken _) it = absurd it

  broken_right : (done : ℕ) (fault : ImportError) → IsBrokenImport list text a b done fault → IsIndexedCorrectly b
  broken_right done (Mbox fault) it = absurd it
  broken_right done (Stored fault) it = elim it [ inl none ↦ subst IsIndexedCorrectly (sym none.1) right | inr first ↦ first_right done first ]

-- an import into a store that is ready leaves it ready
pub import_right : {S W : Type 0} (g : Ghosts S W) (old new : S) (list text : List ℕ) (result : Result Report ImportStop) → Imports g old new list result text
    → CallsReadyStore g old new import_stop_reason result (λ a b report. IsImported list text a b report) (λ a b why. IsRefusedImport list text a b why.0 why.1)
    (λ a b stop. IsBrokenImport list text a b stop.done stop.fault)
import_right g old new list text =
    calls_right g old new import_stop_reason (λ a b report. IsImported list text a b report) (λ a b why. IsRefusedImport list text a b why.0 why.1)
    (λ a b stop. IsBrokenImport list text a b stop.done stop.fault) (λ a b report it right. imported_right list text a b right report it)
    (λ a b why it right. refused_right list text a b right why.0 why.1 it) (λ a b stop it right. broken_right list text a b right stop.done stop.fault it)
