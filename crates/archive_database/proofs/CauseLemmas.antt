-- Why a change of the archive failed, and what a stop of the machine leaves of it.
use Rattle.std.proofs.Common.{◌≡◌, ◌⊎◌, inl, inr, Ok, Err, Result, Some, sym, ap, ◌∙◌, arith}
use Rattle.std.specs.Prelude.{⊤, IsErrAnd, IfErr, OnOk, OnErr}
use Rattle.sqlite_disk.specs.Disk.{MoreFaults}
use Rattle.sqlite.specs.declared.error.Error.{Error}
use Rattle.sqlite.specs.Effect.{Database}
use Rattle.sqlite.specs.Tree.{Trees}
use Rattle.sqlite.specs.Store.{Ghosts}
use Rattle.sqlite.specs.Held.{Held, state}
use Rattle.sqlite.specs.State.{State, HasCleanDisk}
use Rattle.archive_model.specs.Records.{Archive}
use Rattle.archive_tables.specs.Tables.{IsOpenArchive, archive_of}
use Rattle.archive_tables.specs.Statements.{Statement}
use Rattle.archive_tables.specs.Calls.{KeepsConnectionUnlessDiskFails, IsMemoryOrDiskError, FaultKeepsRowsOrRollsBack, IsOpenArchiveOrRolledBack, WritesByStatement}
use Rattle.archive_tables.specs.Crashes.{CrashAddsNothing, CrashAddsOnly, IsArchiveStored}
use Rattle.archive_tables.specs.Making.{EndsCommit}
use Rattle.archive_tables.proofs.CrashLemmas.{adds_as, commit_over, never_adds}
use Rattle.archive_database.specs.Faults.{database_error_of, FailsByDiskOr}
use Rattle.archive_database.specs.declared.faults.DatabaseError.{DatabaseError}
use Rattle.archive_database.specs.declared.faults.DatabaseError.TheVariants as faults

-- ---- a result that is passed on

pub each_error : {A : Type 0} (r : Result A Error) (P Q : Error → Type 0) → ((e : Error) → P e → Q e) → IfErr r P → IfErr r Q
each_error (Ok a) P Q why it = tt
each_error (Err e) P Q why it = why e it

pub each_answer : {A : Type 0} (r : Result A Error) (P Q : Type 0) → (P → Q) → OnOk r P → OnOk r Q
each_answer (Ok a) P Q why it = why it
each_answer (Err e) P Q why it = tt

pub each_stop : {A : Type 0} (r : Result A Error) (P Q : Type 0) → (P → Q) → OnErr r P → OnErr r Q
each_stop (Ok a) P Q why it = tt
each_stop (Err e) P Q why it = why it

pub on_err : {A E : Type 0} (r : Result A E) (P : Type 0) → P → OnErr r P
on_err (Ok a) P p = tt
on_err (Err e) P p = p

-- ---- between other calls

pub caused_since : (a b c : State) (e : Error) → KeepsConnectionUnlessDiskFails a b → IsMemoryOrDiskError b c e → IsMemoryOrDiskError a c e
caused_since a b c e before (inl none) = inl none
caused_since a b c e before (inr more) = inr (omega (arith, more, before.closes_only_by_fault.faults_never_fall))

pub caused_between : (a b c d : State) (e : Error) → KeepsConnectionUnlessDiskFails a b → KeepsConnectionUnlessDiskFails c d → IsMemoryOrDiskError b c e → IsMemoryOrDiskError a d e
caused_between a b c d e before after (inl none) = inl none
caused_between a b c d e before after (inr more) = inr (omega (arith, more, before.closes_only_by_fault.faults_never_fall, after.closes_only_by_fault.faults_never_fall))

-- ---- what is answered

pub by_cause : (old new : State) (e : Error) (f : DatabaseError) (Refused : Type 0) → f ≡ database_error_of e → IsMemoryOrDiskError old new e ⊎ Refused → f ≡ faults.Database
    → MoreFaults old.faults new.faults ⊎ Refused
by_cause old new e f R is (inl (inl none)) it = absurd (let bad : faults.Memory ≡ faults.Database = sym (ap database_error_of none) ∙ sym is ∙ it in cc)
by_cause old new e f R is (inl (inr more)) it = inl more
by_cause old new e f R is (inr refused) it = inr refused

pub fails_by : {A : Type 0} (old new : State) (r : Result A DatabaseError) (e : Error) (Refused : Type 0) → IsErrAnd r (λ f. f ≡ database_error_of e) → IsMemoryOrDiskError old new e
    ⊎ Refused → FailsByDiskOr old new r Refused
fails_by old new (Ok a) e R is why = tt
fails_by old new (Err f) e R is why = by_cause old new e f R is why

-- a write within a transaction that fails
pub held_or_back : (db : Database) (old new : State) → FaultKeepsRowsOrRollsBack (Some db) old new → IsOpenArchiveOrRolledBack db new
held_or_back db old new rests up = elim (rests up) [ inl stays ↦ inl stays.0 | inr back ↦ inr back ]

-- ---- what a stop of the machine leaves

-- behind a call that adds nothing
pub adds_then : {S : Type 0} (g : Ghosts S) (old mid new : Held S) (Is : Trees → Type 0) → CrashAddsNothing g old mid → (HasCleanDisk (state g new) → HasCleanDisk (state g mid))
    → (HasCleanDisk (state g mid) → CrashAddsOnly g mid new Is) → CrashAddsOnly g old new Is
adds_then g old mid new Is first was last clean db may = elim (last (was clean) clean db may) [ inl before ↦ inl (first (was clean) db before) | inr is ↦ inr is ]

-- ---- two writes in a transaction, one after the other

module _ {S A B : Type 0} {g : Ghosts S} {old mid last : Held S} {a : A} {f h : Archive → Archive} {s t : Statement} (first : WritesByStatement g old mid (Ok a) (λ _. ⊤) f s) where
  pub both_quiet : {q : Result B Error} → WritesByStatement g mid last q (λ _. ⊤) h t → (db : Database) → IsOpenArchive (Some db) (state g old) → CrashAddsNothing g old last
  both_quiet second db held clean x may =
      let clean_1 = second.ends_call.remains_open.disk_was_clean clean in
      let one = first.answer_holds clean_1 (Some db) held tt in
      never_adds g old mid db _ (first.crash (Some db) held tt) clean_1 x (never_adds g mid last db _ (second.crash (Some db) one.0 tt) clean x may)

  module _ {b : B} (second : WritesByStatement g mid last (Ok b) (λ _. ⊤) h t) (db : Database) (held : IsOpenArchive (Some db) (state g old)) where
    pub both_held : HasCleanDisk (state g last) → IsOpenArchive (Some db) (state g last) × (archive_of (state g last) ≡ h (f (archive_of (state g old))))
    both_held clean =
        let one = first.answer_holds (second.ends_call.remains_open.disk_was_clean clean) (Some db) held tt in
        let two = second.answer_holds clean (Some db) one.0 tt in (two.0, two.1 ∙ ap h one.1)

    -- and COMMIT behind them
    pub both_stored : {C : Type 0} {new : Held S} {q : Result C Error} → EndsCommit g last new q → CrashAddsOnly g old new (IsArchiveStored (h (f (archive_of (state g old)))))
    both_stored {C} {new} commit = adds_then g old last new _ (both_quiet second db held) commit.remains_open.disk_was_clean (λ clean.
        let it = both_held clean in adds_as g last new _ _ it.1 (commit_over g last new db it.0 commit.crash))
