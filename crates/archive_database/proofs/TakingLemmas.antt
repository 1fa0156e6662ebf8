-- A list that is not full, and questions that ask others.
use Rattle.std.proofs.Common.{◌≡◌, ◌≤◌, ◌<◌, ◌⊎◌, ℕ, length, arith, List, Bool, false, inl, inr, Option, None, Result, Ok, Err, subst, ◌∙◌}
use Rattle.std.specs.Prelude.{nat_le, filter, ◌==◌, ◌||◌, IsErrAnd, MatchResult}
use Rattle.std.proofs.lemmas.Bool.{cases_Bool}
use Rattle.std.proofs.lemmas.Bool.Decides.{nat_tests}
use Rattle.std.proofs.lemmas.List.Sums.{count_by-le-length, length-filter}
use Rattle.sqlite.specs.declared.error.Error.{Error}
use Rattle.sqlite.specs.Effect.{Database}
use Rattle.sqlite.specs.Store.{Ghosts}
use Rattle.sqlite.specs.Held.{Held, state}
use Rattle.sqlite.specs.State.{State}
use Rattle.archive_model.specs.Records.{Archive}
use Rattle.archive_tables.specs.Tables.{archive_of}
use Rattle.archive_tables.specs.Calls.{AnswersFromDatabase, LeavesRowsUnchanged, FaultKeepsRowsOrRollsBack, IsMemoryOrDiskError, KeepsConnectionUnlessDiskFails}
use Rattle.archive_tables.proofs.CauseLemmas.{carried, answers_none}
use Rattle.archive_tables.proofs.EndLemmas.{archive_stays, stays_then, rests_behind}
use Rattle.archive_tables.proofs.LastLemmas.{lasts_then}
use Rattle.archive_tables.proofs.RunLemmas.{on_fault}
use Rattle.archive_database.proofs.CauseLemmas.{caused_since, each_error, each_answer}

pub not_full : {X : Type 0} (p : X → Bool) (xs : List X) (limit : ℕ) → length xs < limit → false ≡ nat_le limit (length (filter p xs))
not_full p xs limit h = let few : length (filter p xs) ≤ length xs = rw length-filter (count_by-le-length p xs) in grind (arith, nat_tests, h, few)

-- neither is so
pub above_zero : (n : ℕ) (b : Bool) → ((n == 0) || b) ≡ false → (0 < n) × (b ≡ false)
above_zero n b none = elim (cases_Bool (n == 0)) [
  | inl zero ↦ absurd (let bad = rw zero at none in cc)
  | inr some ↦ (grind (arith, nat_tests, some), rw some at none)
]

-- ---- a question that asks others

-- a fault of the last of them is its fault
pub asked_fails : {S A B : Type 0} {g : Ghosts S} {old new : Held S} {e : Error} {Says : Archive → A → Type 0} {Told : Archive → B → Type 0}
    → AnswersFromDatabase g old new (Err e) Says ⊥ → (r : Result B Error) → IsErrAnd r (λ f. f ≡ e) → AnswersFromDatabase g old new r Told ⊥
asked_fails {S} {A} {B} {g} {old} {new} {e} asked r is = record {
  answer_holds = λ clean behind k. on_fault _ _ r is (asked.answer_holds clean behind k);
  fault_has_cause = λ clean k free. carried r e (λ f. IsMemoryOrDiskError (state g old) (state g new) f ⊎ ⊥) is (asked.fault_has_cause clean k free);
  same_database = λ clean. answers_none r _ _ is;
  crash_adds_nothing = asked.crash_adds_nothing;
  ends_call = record { remains_open = asked.ends_call.remains_open; was_open = λ clean. answers_none r _ _ is };
}

-- its answer says something else
pub asked_as : {S A B : Type 0} {g : Ghosts S} {old new : Held S} {a : A} {Says : Archive → A → Type 0} (Told : Archive → B → Type 0) (b : B) → AnswersFromDatabase g old new (Ok a) Says ⊥
    → (Says (archive_of (state g old)) a → Told (archive_of (state g old)) b) → AnswersFromDatabase g old new (Ok b) Told ⊥
asked_as Told b asked told = record {
  answer_holds = λ clean behind k. let it = asked.answer_holds clean behind k in (told it.0, it.1);
  fault_has_cause = λ clean k free. tt;
  same_database = asked.same_database;
  crash_adds_nothing = asked.crash_adds_nothing;
  ends_call = record { remains_open = asked.ends_call.remains_open; was_open = asked.ends_call.was_open };
}

told_then : {B : Type 0} (Told : Archive → B → Type 0) (behind : Option Database) (old mid new : State) (q : Result B Error) → LeavesRowsUnchanged behind old mid
    → MatchResult q (λ b. Told (archive_of mid) b × LeavesRowsUnchanged behind mid new) (λ _. FaultKeepsRowsOrRollsBack behind mid new)
    → MatchResult q (λ b. Told (archive_of old) b × LeavesRowsUnchanged behind old new) (λ _. FaultKeepsRowsOrRollsBack behind old new)
told_then Told behind old mid new (Ok b) stays it = (subst (λ a. Told a b) (archive_stays stays.1) it.0, stays_then behind old mid new stays it.1)
told_then Told behind old mid new (Err e) stays it = rests_behind behind old mid new stays.1 it

fails_since : (a b c : State) (e : Error) → KeepsConnectionUnlessDiskFails a b → IsMemoryOrDiskError b c e ⊎ ⊥ → IsMemoryOrDiskError a c e ⊎ ⊥
fails_since a b c e before (inl why) = inl (caused_since a b c e before why)
fails_since a b c e before (inr none) = absurd none

-- one after the other
pub asked_then : {S A B : Type 0} {g : Ghosts S} {old mid new : Held S} {a : A} {q : Result B Error} {Says : Archive → A → Type 0} {Told : Archive → B → Type 0}
    → AnswersFromDatabase g old mid (Ok a) Says ⊥ → AnswersFromDatabase g mid new q Told ⊥ → AnswersFromDatabase g old new q Told ⊥
asked_then {S} {A} {B} {g} {old} {mid} {new} {a} {q} {Says} {Told} first last =
    let before = last.ends_call.remains_open.disk_was_clean in
    record {
      answer_holds = λ clean behind k.
          let it = first.answer_holds (before clean) behind k in
          told_then Told behind (state g old) (state g mid) (state g new) q it.1 (last.answer_holds clean behind it.1.0);
      fault_has_cause = λ clean k free.
          let it = first.answer_holds (before clean) None k in
          each_error q _ _ (λ e. fails_since (state g old) (state g mid) (state g new) e first.ends_call.remains_open)
          (last.fault_has_cause clean it.1.0 (first.ends_call.remains_open.step_limit_is_same ∙ free));
      same_database = λ clean. each_answer q _ _ (λ same. same ∙ first.same_database (before clean)) (last.same_database clean);
      crash_adds_nothing = λ clean db may. first.crash_adds_nothing (before clean) db (last.crash_adds_nothing clean db may);
      ends_call = record {
        remains_open = lasts_then _ _ _ first.ends_call.remains_open last.ends_call.remains_open;
        was_open = λ clean. each_answer q _ _ (first.ends_call.remains_open.closed_stays_closed (before clean)) (last.ends_call.was_open clean);
      };
    }
