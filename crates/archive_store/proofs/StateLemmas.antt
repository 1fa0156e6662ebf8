-- What a store says, in the words of the layers above.
use Rattle.std.proofs.Common.{◌≡◌, ◌⊎◌, ◌∙◌, inl, inr, ℕ, List, Option, Some, None, Result, Ok, Err}
use Rattle.std.specs.Prelude.{MatchOption}
use Rattle.sqlite.specs.Store.{Ghosts}
use Rattle.mbox_items.specs.Division.{Item}
use Rattle.archive_model.specs.Records.{Archive, Message as Remembered}
use Rattle.archive_model.specs.Commands.{Command, CommandReply, Refusal}
use Rattle.archive_model.specs.Machine.{StepOutcome, step}
use Rattle.archive_model.specs.declared.found.CommandFacts.{CommandFacts}
use Rattle.archive_model.specs.declared.messages.Message.{Message}
use Rattle.archive_tables.proofs.EndLemmas.{archive_stays}
use Rattle.archive_port.specs.Replies.{refusal_of_fault, reply_of_result}
use Rattle.archive_port.specs.Commands.{reply_unless_refused}
use Rattle.archive_port.specs.Commands as port_commands
use Rattle.archive_port.specs.Messages.{AreDatedMarksOf}
use Rattle.archive_port.specs.Adding as port_adding
use Rattle.archive_port.specs.Checking as port_checking
use Rattle.archive_port.specs.Checking.{PassesCheck, damaged_list_and_key}
use Rattle.archive_model.specs.Damage.{IsFirstDamaged}
use Rattle.archive_model.specs.Questions.{list_refusal}
use Rattle.archive_port.specs.Crashes as port_crashes
use Rattle.archive_port.specs.Told as port
use Rattle.archive_port.specs.Walking as port_walking
use Rattle.archive_port.specs.declared.checking.CheckError.{CheckError}
use Rattle.archive_port.specs.declared.faults.StoreFault.{StoreFault}
use Rattle.archive_port.specs.declared.marks.DatedMarks.{DatedMarks}
use Rattle.archive_port.specs.declared.reports.AddError.{AddError}
use Rattle.archive_port.specs.declared.reports.AddReport.{AddReport}
use Rattle.archive_store.specs.Batches.{AddsAllMessages}
use Rattle.archive_store.specs.Carrying.{ExecutesAndReturnsFacts}
use Rattle.archive_store.specs.Checking.{ChecksArchive, EndsCheck}
use Rattle.archive_store.specs.Crashes.{CrashAddsAllBatches}
use Rattle.archive_store.specs.Held.{store_connection}
use Rattle.archive_store.specs.Refusals.{RowsRefuseAnItem}
use Rattle.archive_store.specs.Replies.{PerformsModelStep}
use Rattle.archive_store.specs.State.{state_of}
use Rattle.archive_store.specs.Told.{DiskHasFailed, EndsUnrefused, EndsWithCause, HoldsTables, RelatesArchivesUnder, RelatesArchivesUnderIfOpen, StaysOpenUnlessDiskFails, CallsStoreUnder}
use Rattle.archive_store.specs.Walking.{ShowsNext, GivesNext, PassesNext, PeeksNextMarks, Walk, WalkFailsToBegin, WalksOver, E15MeansNextUnreadable, current_database, walk_over_store}
use Rattle.archive_store.specs.declared.store.Store.{Store}
use Rattle.archive_store.specs.declared.walking.MessageWalk.{MessageWalk}
use Rattle.archive_store.proofs.FindLemmas.{blames}
use Rattle.archive_store.proofs.WalkingLemmas.{passed_next}

module _ {S : Type 0} (g : Ghosts S) where
  module _ (old new : Store S) where
    pub lasts : StaysOpenUnlessDiskFails g old new → port.StaysOpenUnlessDiskFails (state_of g) old new
    lasts it = record {
      disk_was_clean = it.disk_was_clean;
      closes_only_by_fault = record { faults_never_fall = it.closes_only_by_fault.faults_never_fall; stays_open = it.closes_only_by_fault.stays_open };
      closed_stays_closed = it.closed_stays_closed;
      sets_no_limit = λ free. it.step_limit_is_same ∙ free;
    }

    -- E15 means this in the words of the layers above
    pub ends_as : {A : Type 0} (Cause Cause' : Type 0) (implies : Cause → Cause') (result : Result A StoreFault) (reasons : List Refusal)
        → EndsWithCause g old new Cause result reasons → port.EndsWithCause (state_of g) old new Cause' result reasons
    ends_as Cause Cause' implies result reasons it = record {
      remains_open = lasts it.remains_open;
      was_open = it.was_open;
      refusal_is_possible = it.refusal_is_possible;
      refusals_counted = it.refusals_counted;
      fault_has_cause = λ clean held free. blames result implies (it.fault_has_cause clean held free);
    }

    pub ends : {A : Type 0} (Cause : Type 0) (result : Result A StoreFault) (reasons : List Refusal)
        → EndsWithCause g old new Cause result reasons → port.EndsWithCause (state_of g) old new Cause result reasons
    ends Cause result reasons it = ends_as Cause Cause (λ cause. cause) result reasons it

    pub ends_unrefused : {A : Type 0} (result : Result A StoreFault) → EndsUnrefused g old new result → port.EndsUnrefused (state_of g) old new result
    ends_unrefused result it = record { remains_open = lasts it.remains_open; fault_is_no_refusal = it.fault_is_no_refusal; refusals_counted = it.refusals_counted }

    pub refuses_item : (list : List ℕ) (items : List Item) → DiskHasFailed g old new ⊎ RowsRefuseAnItem list items (current_database g new)
        → port.DiskHasFailed (state_of g) old new ⊎ port_adding.RefusesAnItem (state_of g) new list items
    refuses_item list items (inl more) = inl more
    refuses_item list items (inr it) = inr (record {
      items_before = it.items_before;
      item = it.item;
      items_after = it.items_after;
      items_are = it.items_are;
      is_refused = (it.database, it.makes_rows, it.is_refused);
    })

    -- ---- commands

    pub steps : (step : Archive → StepOutcome) (reply : Option CommandReply) → PerformsModelStep g (store_connection old) (store_connection new) step reply
        → port.PerformsModelStep (state_of g) old new step reply
    steps step None it = λ clean held up. let same = it clean held up in (same.0, archive_stays same.1)
    steps step (Some reply) it = it

    pub executes : (command : Command) (result : Result CommandFacts StoreFault) → ExecutesAndReturnsFacts g old new command result
        → port_commands.ExecutesCommand (state_of g) old new command result
    executes command result it = record {
      performs_step = steps (λ a. step a command) (reply_of_result (reply_unless_refused command) result) it.performs_step;
      crash = it.crash;
      ends_write = ends _ result _ it.ends_write;
    }

    pub added : (list : List ℕ) (items : List Item) (result : Result AddReport AddError) → AddsAllMessages g (store_connection old) (store_connection new) result list items
        → port_adding.AddsAllMessages (state_of g) old new result list items
    added list items result it = it

    pub batches_crash : (list : List ℕ) (items : List Item) (result : Result AddReport AddError)
        → CrashAddsAllBatches g (store_connection old) (store_connection new) list items result → port_crashes.CrashAddsAllBatches (state_of g) old new list items result
    batches_crash list items result it = record { during_call = it.during_call; after_error = it.after_error }

    -- ---- what holds of the archives before and after

    pub relates : (R : Archive → Archive → Type 0) → RelatesArchivesUnder g (HoldsTables g) old new R
        → port.RelatesArchivesUnder (state_of g) (HoldsTables g) old new R
    relates R it = (lasts it.0, it.1)

    pub relates_if_open : (R : Archive → Archive → Type 0) → RelatesArchivesUnderIfOpen g (HoldsTables g) old new R
        → port.RelatesArchivesUnderIfOpen (state_of g) (HoldsTables g) old new R
    relates_if_open R it = (lasts it.0, it.1)

    by_reason : {R : Type 0} (reason : Option R) (P : Archive → Archive → Type 0) (Q : R → Archive → Archive → Type 0)
        → MatchOption reason (RelatesArchivesUnderIfOpen g (HoldsTables g) old new P) (λ why. RelatesArchivesUnder g (HoldsTables g) old new (Q why))
        → MatchOption reason (port.RelatesArchivesUnderIfOpen (state_of g) (HoldsTables g) old new P) (λ why. port.RelatesArchivesUnder (state_of g) (HoldsTables g) old new (Q why))
    by_reason None P Q it = relates_if_open P it
    by_reason (Some why) P Q it = relates (Q why) it

    pub calls : {A F R : Type 0} (reason : F → Option R) (result : Result A F) (Says : Archive → Archive → A → Type 0) (Refuses : Archive → Archive → R → Type 0)
        (Stops : Archive → Archive → F → Type 0) → CallsStoreUnder g (HoldsTables g) old new reason result Says Refuses Stops
        → port.CallsStoreUnder (state_of g) (HoldsTables g) old new reason result Says Refuses Stops
    calls reason (Ok answer) Says Refuses Stops it = relates (λ a b. Says a b answer) it
    calls reason (Err fault) Says Refuses Stops it = by_reason (reason fault) (λ a b. Stops a b fault) (λ why a b. Refuses a b why) it

    pub checks : (result : Result (Unit {0}) CheckError) → ChecksArchive g old new result → port_checking.ChecksArchive (state_of g) old new result
    checks result it = calls damaged_list_and_key result (λ a b _. (b ≡ a) × PassesCheck a) (λ a b d. (b ≡ a) × IsFirstDamaged a d.0 d.1) (λ a b _. b ≡ a) it

    pub ends_check : (result : Result (Unit {0}) CheckError) → EndsCheck g old new result → port_checking.EndsCheck (state_of g) old new result
    ends_check result it = record { was_open = it.was_open; fault_is_no_refusal = it.fault_is_no_refusal; fault_has_cause = it.fault_has_cause; refusals_counted = it.refusals_counted }

    -- ---- walks

    pub not_begun : {A : Type 0} (list : List ℕ) (result : Result A StoreFault) → WalkFailsToBegin g old list result new
        → port_walking.WalkFailsToBegin (state_of g) old list result new
    not_begun list (Ok a) it = (tt, it.1, it.2)
    not_begun list (Err fault) it = (by_reason (refusal_of_fault fault) (λ a b. b ≡ a) (λ why a b. (b ≡ a) × (list_refusal a list ≡ Some why)) it.0, it.1, it.2)

  -- a walk, and the state that it is told
  abbrev told : Walk S → port_walking.Walk (Store S) MessageWalk
  told w = port_walking.walk_over_store w.store w.walk

  module _ (list : List ℕ) (all : List Remembered) (a : Archive) (given : List Remembered) where
    pub walks : (w : Walk S) → WalksOver g list all a given w → port_walking.WalksOver (state_of g) list all a given (told w)
    walks w it = record {
      is_archive_at_rest = it.is_archive_at_rest;
      archive_is = it.archive_is;
      remaining = it.remaining;
      gives_remaining = (it.numbers_give_remaining, it.peeked_is_of_next);
      given_and_remaining = it.given_and_remaining;
      all_are_of_list = it.all_are_of_list;
    }

    pub walks_back : (w : Walk S) → port_walking.WalksOver (state_of g) list all a given (told w) → WalksOver g list all a given w
    walks_back w it = record {
      is_archive_at_rest = it.is_archive_at_rest;
      archive_is = it.archive_is;
      remaining = it.remaining;
      numbers_give_remaining = it.gives_remaining.0;
      given_and_remaining = it.given_and_remaining;
      all_are_of_list = it.all_are_of_list;
      peeked_is_of_next = it.gives_remaining.1;
    }

  module _ (old new : Walk S) where
    pub gives_next : (result : Result (Option Message) StoreFault) → GivesNext g old new result → port_walking.GivesNext (state_of g) (told old) (told new) result
    gives_next (Ok None) it = λ clean list all a given w. let on = it clean list all a given (walks_back list all a given old w) in (walks list all a given new on.0, on.1)
    gives_next (Ok (Some m)) it = λ clean list all a given w. walks list all a _ new (it clean list all a given (walks_back list all a given old w))
    gives_next (Err fault) it = λ clean list all a given w up. walks list all a given new (it clean list all a given (walks_back list all a given old w) up)

    pub peeks : (result : Result (Option DatedMarks) StoreFault) → PeeksNextMarks g old new result → port_walking.PeeksNextMarks (state_of g) (told old) (told new) result
    peeks result it = record {
      gives_next_marks = shown (λ list marks next. AreDatedMarksOf marks next) result it.gives_next_marks;
      remaining_is_same = it.remaining_is_same;
      some_means_remaining = it.some_means_remaining;
      fault_is_no_refusal = it.fault_is_no_refusal;
    }
      where
        shown : {X : Type 0} (Of : (list : List ℕ) → X → Remembered → Type 0) (result : Result (Option X) StoreFault) → ShowsNext g Of old new result
            → port_walking.ShowsNext (state_of g) Of (told old) (told new) result
        shown Of (Ok found) it = λ clean list all a given w. let on = it clean list all a given (walks_back list all a given old w) in (walks list all a given new on.0, on.1)
        shown Of (Err fault) it = λ clean list all a given w up. walks list all a given new (it clean list all a given (walks_back list all a given old w) up)

    pub next_caused : {A : Type 0} (result : Result A StoreFault) → E15MeansNextUnreadable g old new result → port_walking.E15MeansNextUnreadable (state_of g) (told old) (told new) result
    next_caused result it = λ clean list all a given w free. it clean list all a given (walks_back list all a given old w) free

  pub passes : (old new : MessageWalk) → PassesNext old new → port_walking.PassesNext (state_of g) old new
  passes old new it = λ store list all a given rest next w is.
      walks list all a _ (walk_over_store store new) (passed_next g list all a given store old new next rest (walks_back list all a given (walk_over_store store old) w) is it)
