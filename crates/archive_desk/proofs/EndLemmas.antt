-- How calls of the desk end that follow one another.
use Rattle.std.proofs.Common.{◌≡◌, ◌≤◌, ◌+◌, arith, inl, refl, List, [], ◌∷◌, ℕ, Result, Err, IfErr, ap, ◌∙◌, ◌⊎◌, Ok}
use Rattle.std.specs.Prelude.{IsErrAnd}
use Rattle.archive_port.specs.declared.state.ArchiveState.{Ghosts}
use Rattle.archive_model.specs.Records.{Archive, Message as Remembered}
use Rattle.archive_model.specs.Commands.{no_list, Refusal}
use Rattle.archive_model.specs.Questions.{messages_in}
use Rattle.archive_port.proofs.LastLemmas.{lasts_then}
use Rattle.archive_port.specs.Told.{memory_refusal_count, CountsOneRefusal, DiskHasFailed, EndsWithCause, archive_in, CountsRefusals, RelatesArchivesUnder, StoreHasCleanDisk, HoldsTables, IsOpen}
use Rattle.archive_port.specs.Told.{StaysOpenUnlessDiskFails, WasOpen}
use Rattle.archive_port.specs.Replies.{IsRefusedOnlyFor, refusal_of_fault}
use Rattle.archive_port.specs.Walking.{BeginsOver, WalkFailsToBegin, Walk}
use Rattle.archive_port.specs.Wanting.{IsMemoryRefusal, RaisesRefusalCount}
use Rattle.archive_port.specs.declared.faults.StoreFault.{StoreFault}
use Rattle.archive_port.proofs.WantLemmas.{raises_after}
use Rattle.archive_results.specs.Access.{Ask}
use Rattle.archive_desk.specs.Causes.{HasUnreadableMessage, HasCause, IsDeskDatabaseFault, IsQuestionUnreadable, IsDeskMemoryRefusal}
use Rattle.archive_desk.specs.Ending.{EndsDeskCall, EndsDeskQuestion, EndsExport, EndsWalk}
use Rattle.archive_desk.specs.Exporting.{export_stop_reason}
use Rattle.archive_desk.specs.Faults.{IsAskFault, RefusalReason, desk_error_of, refusal_reason, reason_of_refusal}
use Rattle.archive_desk.specs.Walking.{HasWalkCause, IsMemoryOrDatabaseFault}
use Rattle.archive_desk.specs.declared.exporting.ExportStop.{ExportStop}
use Rattle.archive_desk.specs.declared.faults.DeskError.{DeskError}
use Rattle.archive_desk.specs.declared.faults.DeskError.TheVariants.{Memory}
use Rattle.archive_desk.proofs.AskLemmas.{is_list_fault, reasoned}
use Rattle.archive_desk.proofs.CallLemmas.{was_open_as, was_open_by, by_reason}
use Rattle.archive_desk.proofs.CauseLemmas.{cause_after, cause_among, each_fault, walk_cause, broken_by, clean_at_start}
use Rattle.archive_desk.proofs.WantLemmas.{wants_of_store}

-- ---- a question that is not answered

module _ {S W : Type 0} (g : Ghosts S W) (old new : S) (IsFault : DeskError → Type 0) (A B : Type 0) (fault : DeskError) (Unread Unread' : Archive → Type 0)
    (implies : (a : Archive) → Unread a → Unread' a) where
  -- within another, which has more causes
  pub stops_as : EndsDeskCall g old new IsFault {A = A} (Err fault) Unread → EndsDeskCall g old new IsFault {A = B} (Err fault) Unread'
  stops_as it = record {
    fault_is_expected = it.fault_is_expected;
    fault_has_cause = λ bad. cause_among g old new Unread Unread' implies (it.fault_has_cause bad);
    refusals_counted = it.refusals_counted;
  }

  pub ask_stops_as : EndsDeskQuestion g old new IsFault {A = A} (Err fault) Unread → EndsDeskQuestion g old new IsFault {A = B} (Err fault) Unread'
  ask_stops_as it = record {
    was_open = it.was_open;
    fault_is_expected = it.fault_is_expected;
    fault_has_cause = λ bad. cause_among g old new Unread Unread' implies (it.fault_has_cause bad);
    refusals_counted = it.refusals_counted;
  }

-- one that the store does not answer, handed on
module _ {S W : Type 0} (g : Ghosts S W) (old new : S) {A : Type 0} (Unread : Archive → Type 0) (fault : StoreFault) (expected : IsAskFault (desk_error_of fault)) {Cause : Type 0}
    (cause : Cause → DiskHasFailed g old new ⊎ Unread (archive_in g old)) {B : Type 0} {reasons : List Refusal} (it : EndsWithCause g old new Cause {A = B} (Err fault) reasons) where
  pub handed_on : (result : Result A DeskError) → IsErrAnd result (λ told. told ≡ desk_error_of fault) → EndsDeskCall g old new IsAskFault result Unread
  handed_on (Ok answer) is = absurd is
  handed_on (Err told) is = rw is (record {
    fault_is_expected = expected;
    fault_has_cause = λ bad returned held free. cause (it.fault_has_cause returned held free (broken_by fault bad));
    refusals_counted = wants_of_store (Unit {0}) A (memory_refusal_count g old) (memory_refusal_count g new) fault it.refusals_counted;
  })

  -- an open store did not answer it, or memory or the disk was at fault
  pub ask_handed_on : (result : Result A DeskError) → IsErrAnd result (λ told. told ≡ desk_error_of fault) → WasOpen g old new {A = Unit {0}} refusal_of_fault (Err fault)
      → EndsDeskQuestion g old new IsAskFault result Unread
  ask_handed_on (Ok answer) is up = absurd is
  ask_handed_on (Err told) is up = let ends = handed_on (Err told) is in record {
    was_open = was_open_as g old new (Unit {0}) A refusal_of_fault refusal_reason reason_of_refusal fault told (ap refusal_reason is ∙ reasoned fault) up;
    fault_is_expected = ends.fault_is_expected;
    fault_has_cause = ends.fault_has_cause;
    refusals_counted = ends.refusals_counted;
  }

-- ---- behind calls that left the archive

module _ {S W : Type 0} (g : Ghosts S W) (old mid new : S) (first : RelatesArchivesUnder g (HoldsTables g) old mid (λ a b. b ≡ a)) (last : StaysOpenUnlessDiskFails g mid new)
    (grows : memory_refusal_count g old ≤ memory_refusal_count g mid) (IsFault : DeskError → Type 0) where
  module _ {A : Type 0} (result : Result A DeskError) (Unread Unread' : Archive → Type 0) (implies : (a : Archive) → Unread a → Unread' a)
      (it : EndsDeskCall g mid new IsFault result Unread) where
    caused_after : IfErr result (λ fault. IsDeskDatabaseFault fault → HasCause g old new Unread')
    caused_after = each_fault (λ fault. IsDeskDatabaseFault fault → HasCause g mid new Unread) (λ fault. IsDeskDatabaseFault fault → HasCause g old new Unread')
        (λ fault why bad. cause_after g old mid new first last Unread' (cause_among g mid new Unread Unread' implies (why bad))) result it.fault_has_cause

    pub ends_after : EndsDeskCall g old new IsFault result Unread'
    ends_after = record {
      fault_is_expected = it.fault_is_expected;
      fault_has_cause = caused_after;
      refusals_counted = raises_after IsDeskMemoryRefusal (memory_refusal_count g old) (memory_refusal_count g mid) (memory_refusal_count g new) result grows it.refusals_counted;
    }

    -- the first of them was answered by an open store
    pub ask_after : (StoreHasCleanDisk g mid → IsOpen g old) → EndsDeskQuestion g old new IsFault result Unread'
    ask_after up = record {
      was_open = was_open_by g old new refusal_reason result (λ returned. up (last.disk_was_clean returned));
      fault_is_expected = it.fault_is_expected;
      fault_has_cause = caused_after;
      refusals_counted = raises_after IsDeskMemoryRefusal (memory_refusal_count g old) (memory_refusal_count g mid) (memory_refusal_count g new) result grows it.refusals_counted;
    }

-- ---- a walk that does not begin

module _ {S W : Type 0} (g : Ghosts S W) (old mid last : S) (first : RelatesArchivesUnder g (HoldsTables g) old mid (λ a b. b ≡ a)) (grows : memory_refusal_count g old ≤ memory_refusal_count g mid)
    (up : StoreHasCleanDisk g mid → IsOpen g old) where
  pub unbegun_ends : (B : Type 0) (list : List ℕ) (fault : StoreFault) (Unread : Archive → Type 0) → WalkFailsToBegin g {A = Unit {0}} mid list (Err fault) last
      → IsRefusedOnlyFor {A = Unit {0}} (Err fault) (no_list ∷ []) → EndsDeskQuestion g old last IsAskFault {A = B} (Err (desk_error_of fault)) Unread
  unbegun_ends B list fault Unread stops kind =
      let lasts : StaysOpenUnlessDiskFails g mid last = by_reason (refusal_of_fault fault) stops.0 (λ it. it.0) (λ why it. it.0) in record {
        was_open = was_open_by g old last {A = B} refusal_reason (Err (desk_error_of fault)) (λ returned. up (lasts.disk_was_clean returned));
        fault_is_expected = is_list_fault fault kind;
        fault_has_cause = λ bad. cause_after g old mid last first lasts Unread (λ returned held free. inl (stops.1 returned held free (broken_by fault bad)));
        refusals_counted = raises_after {A = B} IsDeskMemoryRefusal (memory_refusal_count g old) (memory_refusal_count g mid) (memory_refusal_count g last) (Err (desk_error_of fault)) grows
            (wants_of_store (Unit {0}) B (memory_refusal_count g mid) (memory_refusal_count g last) fault stops.2);
      }

-- ---- a walk

unlisted_asked : (fault : DeskError) → IsMemoryOrDatabaseFault fault → IsAskFault fault
unlisted_asked fault it = grind arith

module _ {S W : Type 0} (g : Ghosts S W) (ask : Ask) (which : Archive → List Remembered) (old mid : S) (walk new : Walk S W)
    (first : RelatesArchivesUnder g (HoldsTables g) old mid (λ a b. b ≡ a)) (begun : BeginsOver g mid ask.list which walk) (grows : memory_refusal_count g old ≤ memory_refusal_count g mid)
    (up : StoreHasCleanDisk g mid → IsOpen g old) where
  -- that an open store was asked, why E15 comes, and that want of memory is counted
  so_ended : {A F : Type 0} (carried : F → DeskError) (result : Result A F) → EndsWalk g walk new ask carried result → (StoreHasCleanDisk g new.store → IsOpen g old)
      × IfErr result (λ fault. IsDeskDatabaseFault (carried fault) → HasCause g old new.store (λ a. IsQuestionUnreadable a ask (which a)))
      × CountsRefusals g (λ fault. IsDeskMemoryRefusal (carried fault)) old new.store result
  so_ended carried result it = (
    (λ returned. up (clean_at_start g ask which old mid walk new first begun it.remains_open returned)),
    each_fault (λ fault. IsDeskDatabaseFault (carried fault) → HasWalkCause g walk new ask)
        (λ fault. IsDeskDatabaseFault (carried fault) → HasCause g old new.store (λ a. IsQuestionUnreadable a ask (which a)))
        (λ fault why bad. cause_among g old new.store (λ a. HasUnreadableMessage (which a)) (λ a. IsQuestionUnreadable a ask (which a)) (λ a bad. inl bad)
        (walk_cause g ask which old mid walk new first begun it.remains_open (why bad))) result it.fault_has_cause,
    raises_after (λ fault. IsDeskMemoryRefusal (carried fault)) (memory_refusal_count g old) (memory_refusal_count g walk.store) (memory_refusal_count g new.store) result
        (omega (arith, grows, begun.refusal_count_grows)) it.refusals_counted,
  )

  -- of a question
  pub walk_ends : {A : Type 0} (result : Result A DeskError) → IfErr result (λ fault. IsMemoryOrDatabaseFault fault) → EndsWalk g walk new ask (λ fault. fault) result
      → EndsDeskQuestion g old new.store IsAskFault result (λ a. IsQuestionUnreadable a ask (which a))
  walk_ends result unlisted it = let so = so_ended (λ fault. fault) result it in record {
    was_open = was_open_by g old new.store refusal_reason result so.0;
    fault_is_expected = each_fault IsMemoryOrDatabaseFault IsAskFault unlisted_asked result unlisted;
    fault_has_cause = so.1;
    refusals_counted = so.2;
  }

-- of an export
module _ {S W : Type 0} (g : Ghosts S W) (ask : Ask) (old mid : S) where
  pub export_ends : (walk new : Walk S W) → RelatesArchivesUnder g (HoldsTables g) old mid (λ a b. b ≡ a) → BeginsOver g mid ask.list (λ a. messages_in a ask.list) walk
      → memory_refusal_count g old ≤ memory_refusal_count g mid → (StoreHasCleanDisk g mid → IsOpen g old)
      → (result : Result ℕ ExportStop) → EndsWalk g walk new ask (λ stop. stop.fault) result → EndsExport g old new.store ask result
  export_ends walk new first begun grows up result it =
      let so = so_ended g ask (λ a. messages_in a ask.list) old mid walk new first begun grows up (λ (stop : ExportStop). stop.fault) result it in
      record { was_open = was_open_by g old new.store export_stop_reason result so.0; fault_has_cause = so.1; refusals_counted = so.2 }

  -- before its first byte
  pub export_stops : (A : Type 0) (fault : DeskError) (Unread : Archive → Type 0) → ((a : Archive) → Unread a → IsQuestionUnreadable a ask (messages_in a ask.list))
      → EndsDeskQuestion g old mid IsAskFault {A = A} (Err fault) Unread → EndsExport g old mid ask (Err (record { written = 0; fault = fault }))
  export_stops A fault Unread implies it =
      let stop : ExportStop = record { written = 0; fault = fault } in
      let say : RefusalReason → ℕ × RefusalReason = λ why. (0, why) in record {
        was_open = was_open_as g old mid A ℕ refusal_reason export_stop_reason say fault stop refl it.was_open;
        fault_has_cause = λ bad. cause_among g old mid Unread (λ a. IsQuestionUnreadable a ask (messages_in a ask.list)) implies (it.fault_has_cause bad);
        refusals_counted = it.refusals_counted;
      }

-- ---- a walk that stops

module _ {S W : Type 0} (g : Ghosts S W) (ask : Ask) (A : Type 0) (old mid new : Walk S W) (before : StaysOpenUnlessDiskFails g old.store mid.store)
    (last : StaysOpenUnlessDiskFails g mid.store new.store) (grows : memory_refusal_count g old.store ≤ memory_refusal_count g mid.store) where
  -- by a fault of the store, handed on
  pub walk_stops : (told : StoreFault) → (IsDeskDatabaseFault (desk_error_of told) → HasWalkCause g old new ask)
      → RaisesRefusalCount {A = Unit {0}} IsMemoryRefusal (memory_refusal_count g mid.store) (memory_refusal_count g new.store) (Err told)
      → (result : Result A DeskError) → IsErrAnd result (λ fault. fault ≡ desk_error_of told) → EndsWalk g old new ask (λ fault. fault) result
  walk_stops told why counted (Ok answer) is = absurd is
  walk_stops told why counted (Err fault) is = rw is (record {
    remains_open = lasts_then g _ _ _ before last;
    fault_has_cause = why;
    refusals_counted = raises_after {A = A} IsDeskMemoryRefusal (memory_refusal_count g old.store) (memory_refusal_count g mid.store) (memory_refusal_count g new.store) (Err (desk_error_of told))
        grows (wants_of_store (Unit {0}) A (memory_refusal_count g mid.store) (memory_refusal_count g new.store) told counted);
  })

  -- for want of memory, which is counted
  pub walk_unheld : (counted : Walk S W) → CountsOneRefusal g new.store counted.store → memory_refusal_count g mid.store ≤ memory_refusal_count g new.store
      → EndsWalk g old counted ask {A = A} (λ fault. fault) (Err Memory)
  walk_unheld counted one more = record {
    remains_open = lasts_then g _ _ _ (lasts_then g _ _ _ before last) one.leaves_archive.remains_open;
    fault_has_cause = λ bad. absurd (cc);
    refusals_counted =
        let raised : memory_refusal_count g counted.store ≡ memory_refusal_count g new.store + 1 = one.refusals_are in
        (omega (arith, raised, grows, more), (λ it. omega (arith, raised, grows, more)));
  }
