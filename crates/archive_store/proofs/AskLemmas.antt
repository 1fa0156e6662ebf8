-- Questions of a store, one behind the other: what was found, what a fault leaves, and how the call ends.
use Rattle.std.proofs.Common.{◌≡◌, ◌∙◌, ◌≤◌, ◌<◌, arith, inl, inr, ℕ, List, [], None, Option, Result, Ok, Err, OnOk, refl, subst}
use Rattle.std.specs.Prelude.{⊤, Bool, IsTrue, IsErrAnd, MatchResult, MatchOption}
use Rattle.std.proofs.lemmas.Result.{MatchResult-weaker}
use Rattle.sqlite_disk.specs.Disk.{MoreFaults}
use Rattle.sqlite.specs.declared.error.Error.{Error}
use Rattle.sqlite.specs.Store.{Ghosts}
use Rattle.sqlite.specs.Tree.{Trees}
use Rattle.sqlite.specs.Held.{Held, state}
use Rattle.sqlite.specs.State.{HasCleanDisk}
use Rattle.archive_model.specs.Records.{Archive}
use Rattle.archive_model.specs.Commands.{Refusal}
use Rattle.archive_model.specs.Questions.{has_list}
use Rattle.archive_tables.specs.Tables.{IsArchiveAtRest, archive_of}
use Rattle.archive_tables.specs.Calls.{AnswersFromDatabase, AnswersFromRows, KeepsConnectionUnlessDiskFails}
use Rattle.archive_tables.proofs.CauseLemmas.{answers_none}
use Rattle.archive_tables.proofs.LastLemmas.{lasts_then, lasts_same}
use Rattle.archive_port.specs.Replies.{refusal_of_fault, IsRefusedOnlyFor}
use Rattle.archive_port.specs.Wanting.{IsMemoryRefusal}
use Rattle.archive_port.specs.declared.faults.StoreFault.{StoreFault}
use Rattle.archive_port.specs.declared.faults.StoreFault.TheVariants as faults
use Rattle.archive_port.proofs.WantLemmas.{raises_on}
use Rattle.archive_store.specs.Held.{store_connection, memory_refusal_count}
use Rattle.archive_store.specs.Replies.{store_fault_of_error, AnswersStoreQuestion, ArchiveIsUnchanged}
use Rattle.archive_store.specs.Told.{CountsRefusals, DiskHasFailed, E15MeansCause, EndsQuestion, EndsWithCause, IsOpen, StaysOpenUnlessDiskFails, StoreHasCleanDisk}
use Rattle.archive_store.specs.declared.store.Store.{Store}
use Rattle.archive_store.proofs.FindLemmas.{more_since, passed_on, Passes, kind_last, passed_answer, passed_unanswered, HasNoReason, blames_disk, blames_passed, never, no_reason_of, rests_of, stops}
use Rattle.archive_store.proofs.FindLemmas.{stops_for}

-- how a call ends, part by part
pub ends_with : {S : Type 0} {g : Ghosts S} {old new : Store S} {Cause A : Type 0} {r : Result A StoreFault} {whys : List Refusal} → StaysOpenUnlessDiskFails g old new
    → (StoreHasCleanDisk g new → OnOk r (IsOpen g old)) → IsRefusedOnlyFor r whys → CountsRefusals IsMemoryRefusal old new r → E15MeansCause g old new Cause r
    → EndsWithCause g old new Cause r whys
ends_with lasts up reasons counted caused = record { remains_open = lasts; was_open = up; refusal_is_possible = reasons; refusals_counted = counted; fault_has_cause = caused }

-- the count of refused memory does not fall, and it rose for a want of memory
abbrev pub CountsFault : StoreFault → (before after : ℕ) → Type 0
CountsFault fault before after = (before ≤ after) × (IsMemoryRefusal fault → before < after)

pub counts_later : {fault : StoreFault} {a b c : ℕ} → a ≤ b → CountsFault fault b c → CountsFault fault a c
counts_later first last = (omega (arith, first, last.0), (λ want. let more = last.1 want in omega (arith, first, more)))

pub counts_store : {a b : ℕ} → a ≤ b → CountsFault faults.Store a b
counts_store first = (first, (λ want. absurd cc))

module _ {S : Type 0} (g : Ghosts S) where
  -- Questions that were answered: the connection lasts, the archive is as it was, and this was found of it.
  pub record Found (old new : Held S) (P : Archive → Type 0) : Type 0 where
    pub lasts : KeepsConnectionUnlessDiskFails (state g old) (state g new)
    pub over : HasCleanDisk (state g new) → IsArchiveAtRest (state g old) → P (archive_of (state g old)) × ArchiveIsUnchanged g old new

  -- Memory or the database was at fault: for no reason of the archive's, which is as it was, and E15 means this.
  pub record Fails (old new : Held S) (fault : StoreFault) (Cause : Type 0) : Type 0 where
    pub lasts : KeepsConnectionUnlessDiskFails (state g old) (state g new)
    pub none : refusal_of_fault fault ≡ None
    pub over : HasCleanDisk (state g new) → IsArchiveAtRest (state g old) → IsTrue (state g new).is_open → ArchiveIsUnchanged g old new
    pub cause : HasCleanDisk (state g new) → IsArchiveAtRest (state g old) → (state g old).step_limit ≡ None → fault ≡ faults.Store → Cause

  -- ---- questions

  -- one on the rows is one that says nothing of the archive
  pub of_rows : {old new : Held S} {A : Type 0} {told : Result A Error} {Says : Trees → A → Type 0} {Unread : Type 0} → AnswersFromRows g old new told Says Unread
      → AnswersFromDatabase g old new told (λ _ _. ⊤) Unread
  of_rows {told = told} asked = record {
    answer_holds = λ clean behind held. MatchResult-weaker told (asked.answer_holds clean behind held) (λ a it. (tt, it.1)) (λ e it. it);
    fault_has_cause = asked.fault_has_cause;
    same_database = asked.same_database;
    crash_adds_nothing = asked.crash_adds_nothing;
    ends_call = asked.ends_call;
  }

  pub begins : (old : Held S) → Found old old (λ _. ⊤)
  begins old = record { lasts = lasts_same (state g old); over = λ clean kept. (tt, (kept, refl)) }

  module _ {old mid : Held S} {P : Archive → Type 0} (before : Found old mid P) where
    -- one more
    pub asks : {new : Held S} {A : Type 0} {told : Result A Error} {a : A} {Says : Archive → A → Type 0} {Unread : Type 0} → AnswersFromDatabase g mid new told Says Unread → told ≡ Ok a
        → Found old new (λ x. P x × Says x a)
    asks {a = a} {Says = Says} asked is = record {
      lasts = lasts_then _ _ _ before.lasts asked.ends_call.remains_open;
      over = λ clean kept.
          let was = before.over (asked.ends_call.remains_open.disk_was_clean clean) kept in
          let it = passed_answer asked is clean was.1.0 in
          ((was.0, subst (λ x. Says x a) was.1.1 it.0), (it.1, it.2 ∙ was.1.1));
    }

    -- the store's own, whether there is a list
    pub asks_list : (new : Held S) (list : List ℕ) (there : Bool) → AnswersStoreQuestion g mid new (Ok there) never (λ a found. found ≡ has_list a list)
        → KeepsConnectionUnlessDiskFails (state g mid) (state g new) → Found old new (λ x. P x × (there ≡ has_list x list))
    asks_list new list there answer lasts = record {
      lasts = lasts_then _ _ _ before.lasts lasts;
      over = λ clean kept.
          let was = before.over (lasts.disk_was_clean clean) kept in
          let it = answer clean was.1.0 in
          ((was.0, subst (λ a. there ≡ has_list a list) was.1.1 it.2), (it.0.0, it.0.1 ∙ was.1.1));
    }

    -- ---- a fault

    -- of the question behind them
    pub fails : {new : Held S} {A : Type 0} {told : Result A Error} {Says : Archive → A → Type 0} (fault : StoreFault) → AnswersFromDatabase g mid new told Says ⊥
        → IsErrAnd told (λ e. fault ≡ store_fault_of_error e) → refusal_of_fault fault ≡ None → Fails old new fault (MoreFaults (state g old).faults (state g new).faults)
    fails {new = new} {told = told} fault asked is none = record {
      lasts = lasts_then _ _ _ before.lasts asked.ends_call.remains_open;
      none = none;
      over = λ clean kept up.
          let was = (before.over (asked.ends_call.remains_open.disk_was_clean clean) kept).1 in
          let it = passed_unanswered _ _ asked is clean was.0 up in
          (it.0, it.1 ∙ was.1);
      cause = λ clean kept free it.
          let was = (before.over (asked.ends_call.remains_open.disk_was_clean clean) kept).1 in
          more_since (state g old) (state g mid) (state g new) before.lasts
          (blames_disk g mid new told (Err fault) is asked.fault_has_cause clean was.0 (before.lasts.step_limit_is_same ∙ free) it);
    }

    -- of what was made of their answers
    pub fails_at : (fault : StoreFault) → refusal_of_fault fault ≡ None → Fails old mid fault (P (archive_of (state g old)) × (fault ≡ faults.Store))
    fails_at fault none =
        record { lasts = before.lasts; none = none; over = λ clean kept up. (before.over clean kept).1; cause = λ clean kept free it. ((before.over clean kept).0, it) }

  -- of the store's own question
  pub fails_list : {mid new : Store S} (list : List ℕ) (fault : StoreFault) → EndsQuestion g mid new {A = Bool} (Err fault) []
      → AnswersStoreQuestion g (store_connection mid) (store_connection new) {A = Bool} (Err fault) never (λ a found. found ≡ has_list a list) → {old : Held S} {P : Archive → Type 0}
      → Found old (store_connection mid) P → Fails old (store_connection new) fault (MoreFaults (state g old).faults (state g (store_connection new)).faults)
  fails_list {mid = mid} {new = new} list fault ends answer {old = old} before =
      let none = no_reason_of fault ends.refusal_is_possible in record {
        lasts = lasts_then _ _ _ before.lasts ends.remains_open;
        none = none;
        over = λ clean kept up.
            let was = (before.over (ends.remains_open.disk_was_clean clean) kept).1 in
            let it = rests_of fault _ none (answer clean was.0) up in
            (it.0, it.1 ∙ was.1);
        cause = λ clean kept free it.
            let was = (before.over (ends.remains_open.disk_was_clean clean) kept).1 in
            more_since (state g old) (state g (store_connection mid)) (state g (store_connection new)) before.lasts
            (ends.fault_has_cause clean was.0 (before.lasts.step_limit_is_same ∙ free) it);
      }

  -- what it leaves, and how the call ends
  pub fails_answer : {old new : Held S} {fault : StoreFault} {Cause A : Type 0} → Fails old new fault Cause → (r : Result A StoreFault) → IsErrAnd r (λ told. told ≡ fault)
      → (P : A → Type 0) (R : Refusal → Type 0) → HasCleanDisk (state g new) → IsArchiveAtRest (state g old)
      → MatchResult r P (λ told. MatchOption (refusal_of_fault told) (IsTrue (state g new).is_open → ArchiveIsUnchanged g old new) R)
  fails_answer {fault = fault} stop r is P R clean kept = stops r fault is stop.none P R (stop.over clean kept)

  pub fails_ends : {old new : Store S} {fault : StoreFault} {Cause Why A : Type 0} → Fails (store_connection old) (store_connection new) fault Cause
      → CountsFault fault (memory_refusal_count old) (memory_refusal_count new) → (r : Result A StoreFault) → IsErrAnd r (λ told. told ≡ fault) → (Cause → Why) → (whys : List Refusal)
      → EndsWithCause g old new Why r whys
  fails_ends {fault = fault} stop counted r is because whys =
      ends_with stop.lasts (λ clean. answers_none r _ _ is) (stops_for r fault is stop.none whys) (raises_on (Unit {0}) _ _ r fault is counted)
      (λ clean kept free. passed_on r fault _ is (λ it. because (stop.cause clean kept free it)))

  -- ---- where the last question is the whole answer

  pub last_answer : {old mid new : Held S} {P : Archive → Type 0} {A : Type 0} {told : Result A Error} {Says : Archive → A → Type 0} {Unread : Type 0} → Found old mid P
      → (r : Result A StoreFault) → Passes told r → HasNoReason r → AnswersFromDatabase g mid new told Says Unread → (refuses : Archive → Option Refusal) → ((x : Archive) → P x → refuses x ≡ None)
      → AnswersStoreQuestion g old new r refuses Says
  last_answer before (Ok a) is none asked refuses listed = λ clean kept. let it = (asks before asked is).over clean kept in (it.1, listed _ it.0.0, it.0.1)
  last_answer before (Err fault) is none asked refuses listed = λ clean kept.
      let was = (before.over (asked.ends_call.remains_open.disk_was_clean clean) kept).1 in
      let rest = passed_unanswered _ _ asked is clean was.0 in
      rw none (λ up. let it = rest up in (it.0, it.1 ∙ was.1))

  pub last_ends : {old new : Store S} {mid : Held S} {P : Archive → Type 0} {A : Type 0} {told : Result A Error} {Says : Archive → A → Type 0} {Unread : Type 0}
      → Found (store_connection old) mid P → (r : Result A StoreFault) → Passes told r → HasNoReason r → AnswersFromDatabase g mid (store_connection new) told Says Unread
      → CountsRefusals IsMemoryRefusal old new r → {Cause : Type 0} → (DiskHasFailed g old new → Cause)
      → (archive_of (state g mid) ≡ archive_of (state g (store_connection old)) → Unread → Cause) → (whys : List Refusal) → EndsWithCause g old new Cause r whys
  last_ends {mid = mid} before (Ok a) is none asked counted because unread whys =
      ends_with (lasts_then _ _ _ before.lasts asked.ends_call.remains_open)
      (λ clean. before.lasts.closed_stays_closed (asked.ends_call.remains_open.disk_was_clean clean) (subst (λ t. OnOk t (IsTrue (state g mid).is_open)) is (asked.ends_call.was_open clean)))
      tt counted (λ clean kept free. tt)
  last_ends {old = old} {new = new} {mid = mid} {A = A} {told = told} {Unread = Unread} before (Err fault) is none asked counted because unread whys =
      ends_with (lasts_then _ _ _ before.lasts asked.ends_call.remains_open) (λ clean. tt) (kind_last {A = A} (Err fault) whys none) counted
      (λ clean kept free it.
      let was = (before.over (asked.ends_call.remains_open.disk_was_clean clean) kept).1 in
      elim (blames_passed g mid (store_connection new) told (Err fault) Unread is asked.fault_has_cause clean was.0 (before.lasts.step_limit_is_same ∙ free) it) [
        | inl more ↦ because (more_since (state g (store_connection old)) (state g mid) (state g (store_connection new)) before.lasts more)
        | inr bad ↦ unread was.1 bad
      ])
