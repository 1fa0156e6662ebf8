-- How messages end that are read piece by piece, from call to call: why E15 comes, and want of memory.
use Rattle.archive_port.specs.Adding.{RefusesAnItem}
use Rattle.std.proofs.Common.{◌≡◌, ◌≤◌, ◌+◌, ◌⊎◌, ◌∙◌, inl, inr, ap, sym, subst, arith, append_assoc, length-append, ℕ, List, [], ◌∷◌, ◌++◌, length, drop, Err}
use Rattle.std.proofs.lemmas.List.{drop-append-le, length-drop}
use Rattle.std.proofs.Math.Seq.{drop-append-add}
use Rattle.archive_port.specs.declared.state.ArchiveState.{Ghosts}
use Rattle.mbox_core.specs.Division.{Item}
use Rattle.mbox_core.specs.declared.faults.MboxFault.{MboxFault}
use Rattle.archive_model.specs.Records.{Archive}
use Rattle.archive_model.specs.Commands.{list_full, no_list}
use Rattle.archive_port.specs.Told.{CountsRefusals, EndsPartialWrite, DiskHasFailed, HoldsTables}
use Rattle.archive_port.specs.declared.reports.AddReport.{AddReport}
use Rattle.archive_port.specs.declared.reports.AddError.{AddError}
use Rattle.archive_desk.specs.declared.importing.ImportError.TheVariants.{Mbox, Store as Stored}
use Rattle.archive_desk.specs.declared.importing.ImportStop.{ImportStop}
use Rattle.archive_desk.proofs.ImportEnds.{import_stopped, import_unbroken}
use Rattle.archive_import.specs.Intake.{IntakeState, IsUnderWay, RowsRefusePending}
use Rattle.archive_import.specs.Streaming.{EndsReading, IsImportMemoryRefusal}
use Rattle.archive_import.proofs.WantLemmas.{IsStopWanting, store_want}

-- ---- messages that the rows stop

-- they stop more, of which those were the first
pub stops_more : {S W : Type 0} (g : Ghosts S W) (list : List ℕ) (items more : List Item) (done : ℕ) (db : S) → RefusesAnItem g db list (drop done items) → RefusesAnItem g db list
    (drop done (items ++ more))
stops_more g list items more done db it =
    let low : done ≤ length items = omega (arith, ap length it.items_are, length-append it.items_before (it.item ∷ it.items_after), length-drop done items) in
    record {
      items_before = it.items_before;
      item = it.item;
      items_after = it.items_after ++ more;
      items_are = sym (append_assoc it.items_before (it.item ∷ it.items_after) more) ∙ ap (λ is. is ++ more) it.items_are ∙ sym (drop-append-le done items more low);
      is_refused = it.is_refused;
    }

-- those that are held are the last of all
stops_amid : {S W : Type 0} (g : Ghosts S W) (list : List ℕ) (a b : Archive) (items : List Item) (i : IntakeState) → IsUnderWay list a b items i → (k : ℕ) (db : S)
    → RefusesAnItem g db list (drop k i.held) → RefusesAnItem g db list (drop (i.done + k) items)
stops_amid g list a b items i w k db it = subst (λ is. RefusesAnItem g db list is)
    (sym (ap (λ n. drop (n + k) items) w.done_is_count ∙ ap (drop (length w.items_before + k)) w.items_are ∙ drop-append-add w.items_before i.held k)) it

module _ {S W : Type 0} (g : Ghosts S W) where
  -- ---- a stop that is not E15

  -- a fault of the stream
  pub uncut_ends : (old new : S) (Stops : Archive → ℕ → S → Type 0) (done : ℕ) (fault : MboxFault) (stop : ImportStop)
      → stop ≡ record { done = done; fault = Mbox fault } → CountsRefusals g {A = Unit {0}} IsStopWanting old new (Err stop) → EndsReading g old new {A = Unit {0}} (Err stop) Stops
  uncut_ends old new Stops done fault stop is counted =
      import_unbroken g (HoldsTables g) IsImportMemoryRefusal old new (Unit {0}) (Unit {0}) Stops done (Mbox fault) stop (λ bad. absurd (cc)) is counted

  -- ---- what is held is not added

  module _ (old new : S) (list : List ℕ) (i : IntakeState) where
    pub held_ends : (stop : AddError) (at : ImportStop) → at ≡ record { done = i.done + stop.done; fault = Stored stop.fault }
        → EndsPartialWrite g old new {A = AddReport} (Err stop.fault) (no_list ∷ list_full ∷ []) (λ store. RefusesAnItem g store list (drop stop.done i.held))
        → EndsReading g old new {A = Unit {0}} (Err at) (RowsRefusePending g list i)
    held_ends stop at is it = import_stopped g (HoldsTables g) IsImportMemoryRefusal old new AddReport (Unit {0}) (RowsRefusePending g list i) (λ store held. held) store_want
        (DiskHasFailed g old new ⊎ RefusesAnItem g new list (drop stop.done i.held)) stop.fault (no_list ∷ list_full ∷ []) (i.done + stop.done) at is
        (λ why. elim why [ inl more ↦ inl more | inr stops ↦ inr (λ b a items w. stops_amid g list a b items i w stop.done _ stops) ]) it
