-- What adding what is held, and holding more, says of a store.
use Rattle.std.proofs.Common.{◌≡◌, ℕ, ◌+◌, ◌≤◌, true, List, [], ◌∷◌, ◌++◌, length, take, refl, ap, sym, subst, ◌∙◌, append_assoc, append-nil, Option, Some, None, Ok, Err}
use Rattle.std.specs.Prelude.{IsTrue, MatchOption, option_map}
use Rattle.archive_port.specs.declared.state.ArchiveState.{Ghosts}
use Rattle.mbox_core.specs.Division.{Item}
use Rattle.archive_model.specs.Records.{Archive}
use Rattle.archive_model.specs.Commands.{Refusal, no_list, list_full}
use Rattle.archive_model.specs.Runs.{taken}
use Rattle.archive_port.specs.Adding.{AddsAllMessages, IsRefusedAt, tally_of_report}
use Rattle.archive_port.specs.Replies.{refusal_of_fault}
use Rattle.archive_port.specs.Told.{StaysOpenUnlessDiskFails, HoldsTables}
use Rattle.archive_port.specs.declared.reports.AddError.{AddError}
use Rattle.archive_port.specs.declared.reports.AddReport.{AddReport}
use Rattle.archive_port.proofs.Joins.{goes_in_as, stays_there_in}
use Rattle.archive_desk.specs.Holding.{CallsStoreWithTables, RelatesTableArchives, RelatesTableArchivesIfOpen}
use Rattle.archive_desk.specs.Importing.{IsBrokenAdd}
use Rattle.archive_desk.specs.declared.importing.ImportStop.{ImportStop}
use Rattle.archive_desk.specs.declared.importing.ImportError.{ImportError}
use Rattle.archive_desk.specs.declared.importing.ImportError.TheVariants.{Mbox, Store as Stored}
use Rattle.archive_import.specs.Streaming.{HaltReason, no_room, full, halt_of_refusal, halt_reason}
use Rattle.archive_import.specs.Intake.{IntakeState, IsUnderWay, IsAddError, ReportGrowsBy}
use Rattle.archive_import.proofs.IntakeLemmas.{some_added, full_amid, still_listed, all_added, first_longer, full_longer}

-- ---- more messages, of which those were the first

pub halted_longer : (list : List ℕ) (items rest : List Item) (a b : Archive) (done : ℕ) (halt : HaltReason) → IsAddError list items a b done halt → IsAddError list (items ++ rest) a b done halt
halted_longer list items rest a b done no_room it = first_longer list items rest done a b it
halted_longer list items rest a b done full it = (first_longer list items rest done a b it.0, full_longer list items rest done a it.1)
halted_longer list items rest a b done _ it = it

pub broken_longer : (list : List ℕ) (items rest : List Item) (a b : Archive) (done : ℕ) (fault : ImportError) → IsBrokenAdd list items a b done fault → IsBrokenAdd list (items ++ rest) a b done fault
broken_longer list items rest a b done (Mbox fault) it = it
broken_longer list items rest a b done (Stored fault) it = first_longer list items rest done a b it

-- ---- what is held is added

-- E12, since the list is there
halted_by : (list : List ℕ) (a b c : Archive) (items : List Item) (i : IntakeState) (k : ℕ) (why : Refusal) → IsUnderWay list a b items i → k ≤ length i.held
    → c ≡ (taken b list (take k i.held)).archive → IsRefusedAt b list i.held k why → IsAddError list items a c (i.done + k) (halt_of_refusal why)
halted_by list a b c items i k no_list w low is it = absurd (let never : true ≡ _ = sym (still_listed list a b items i w) ∙ it.1 in cc)
halted_by list a b c items i k list_full w low is it = (some_added list a b items i w c k low is, full_amid list a b items i w k it)
halted_by list a b c items i k _ w low is it = absurd it

-- what no stop says
abbrev pub Nothing : Archive → Archive → Unit {0} → Type 0
Nothing a b _ = Unit {0}

-- these messages more, once so much is held and done
abbrev pub Grows : (list : List ℕ) → (i j : IntakeState) → (more : List Item) → Archive → Archive → Type 0
Grows list i j more b c = (a : Archive) (items : List Item) → IsUnderWay list a b items i → IsUnderWay list a c (items ++ more) j

-- as many
abbrev pub Keeps : (list : List ℕ) → (i j : IntakeState) → Archive → Archive → Type 0
Keeps list i j b c = (a : Archive) (items : List Item) → IsUnderWay list a b items i → IsUnderWay list a c items j

-- a stop amid them, and these more
abbrev pub Halts : (list : List ℕ) → (i : IntakeState) → (more : List Item) → Archive → Archive → ℕ × HaltReason → Type 0
Halts list i more b c why = (a : Archive) (items : List Item) → IsUnderWay list a b items i → IsAddError list (items ++ more) a c why.0 why.1

abbrev pub Breaks : (list : List ℕ) → (i : IntakeState) → (more : List Item) → Archive → Archive → ImportStop → Type 0
Breaks list i more b c stop = (a : Archive) (items : List Item) → IsUnderWay list a b items i → IsBrokenAdd list (items ++ more) a c stop.done stop.fault

abbrev pub HaltsAmid : (list : List ℕ) → (i : IntakeState) → Archive → Archive → ℕ × HaltReason → Type 0
HaltsAmid list i b c why = (a : Archive) (items : List Item) → IsUnderWay list a b items i → IsAddError list items a c why.0 why.1

abbrev pub BreaksAmid : (list : List ℕ) → (i : IntakeState) → Archive → Archive → ImportStop → Type 0
BreaksAmid list i b c stop = (a : Archive) (items : List Item) → IsUnderWay list a b items i → IsBrokenAdd list items a c stop.done stop.fault

module _ {S W : Type 0} (g : Ghosts S W) (old new : S) (list : List ℕ) (i : IntakeState) where
  pub held_added : (j : IntakeState) (counts : AddReport) → StaysOpenUnlessDiskFails g old new → AddsAllMessages g old new (Ok counts) list i.held
      → j.held ≡ [] → j.done ≡ i.done + length i.held → ReportGrowsBy i.report (tally_of_report counts) j.report → RelatesTableArchives g old new (Keeps list i j)
  held_added j counts lasts adds none done more = (
    lasts,
    λ returned held.
        let it = adds returned held in (
          it.0,
          (λ a items w. all_added list a _ items i w _ j (tally_of_report counts) it.1 it.2 none done more),
        ),
  )

  pub add_stopped : (stop : AddError) (at : ImportStop) → at ≡ record { done = i.done + stop.done; fault = Stored stop.fault } → StaysOpenUnlessDiskFails g old new
      → AddsAllMessages g old new (Err stop) list i.held → stop.done ≤ length i.held
      → CallsStoreWithTables g old new {A = Unit {0}} halt_reason (Err at) Nothing (HaltsAmid list i) (BreaksAmid list i)
  add_stopped stop at is lasts adds low = subst (λ s. CallsStoreWithTables g old new {A = Unit {0}} halt_reason (Err s) Nothing (HaltsAmid list i) (BreaksAmid list i))
      (sym is) (by_reason (refusal_of_fault stop.fault) adds)
    where
      by_reason : (r : Option Refusal)
          → (g.has_clean_disk new → g.is_at_rest old
          → MatchOption r (IsTrue (g.is_open new) → g.is_at_rest new × (g.archive new ≡ (taken (g.archive old) list (take stop.done i.held)).archive))
          (λ why. g.is_at_rest new
          × (g.archive new ≡ (taken (g.archive old) list (take stop.done i.held)).archive)
          × IsRefusedAt (g.archive old) list i.held stop.done why))
          → MatchOption (option_map (λ (halt : HaltReason). (i.done + stop.done, halt)) (option_map halt_of_refusal r))
          (RelatesTableArchivesIfOpen g old new (λ b c. BreaksAmid list i b c (record { done = i.done + stop.done; fault = Stored stop.fault })))
          (λ why. RelatesTableArchives g old new (λ b c. HaltsAmid list i b c why))
      by_reason None it = (
        lasts,
        λ returned held up.
            let after = it returned held up in
            (after.0, (λ a items w. some_added list a _ items i w _ stop.done low after.1)),
      )
      by_reason (Some why) it = (
        lasts,
        λ returned held.
            let after = it returned held in
            (after.0, (λ a items w. halted_by list a _ _ items i stop.done why w low after.1 after.2)),
      )

pub keeps_all : {S W : Type 0} (g : Ghosts S W) (store : S) (list : List ℕ) (i : IntakeState) → RelatesTableArchives g store store (Keeps list i i)
keeps_all g store list i = goes_in_as g (HoldsTables g) store store (λ a b. b ≡ a) (Keeps list i i) (λ b c same a items w. subst (λ x. IsUnderWay list a x items i) (sym same) w)
    (stays_there_in g (HoldsTables g) store)

-- ---- one message after the other

pub grows_none : {S W : Type 0} (g : Ghosts S W) (list : List ℕ) (store : S) (i : IntakeState) → RelatesTableArchives g store store (Grows list i i [])
grows_none g list store i = goes_in_as g (HoldsTables g) store store (Keeps list i i) (Grows list i i [])
    (λ b c keeps a items w. subst (λ is. IsUnderWay list a c is i) (sym (append-nil items)) (keeps a items w)) (keeps_all g store list i)

-- some of those that waited are taken
pub record Moved (taken waiting taken_now waiting_now : List Item) : Type 0 where
  pub done : List Item
  pub was : waiting ≡ done ++ waiting_now
  pub is : taken_now ≡ taken ++ done

abbrev pub moved_none : (taken waiting : List Item) → Moved taken waiting taken waiting
moved_none taken waiting = record { done = []; was = refl; is = sym (append-nil taken) }

abbrev pub moved_one : (taken waiting t w t2 w2 : List Item) (i : Item) → Moved taken waiting t w → w ≡ i ∷ w2 → t2 ≡ t ++ i ∷ [] → Moved taken waiting t2 w2
moved_one taken waiting t w t2 w2 i m e f = record {
  done = m.done ++ i ∷ [];
  was = m.was ∙ ap (λ x. m.done ++ x) e ∙ sym (append_assoc m.done (i ∷ []) w2);
  is = f ∙ ap (λ x. x ++ i ∷ []) m.is ∙ append_assoc taken m.done (i ∷ []);
}
