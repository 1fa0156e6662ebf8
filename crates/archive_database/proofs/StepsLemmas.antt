-- Where some steps lead, one after the other, and how they end.
use Rattle.std.proofs.Common.{◌≡◌, ◌≢◌, ◌⊎◌, inl, inr, ◌++◌, List, [], ◌∷◌, ℕ, Result, Ok, Err, refl, sym, ap, subst, ◌∙◌, append-nil}
use Rattle.std.specs.Prelude.{IsErrAnd, OnOk, OnErr}
use Rattle.std.proofs.lemmas.Bool.Decides.{eqb_tells}
use Rattle.sqlite_disk.specs.Disk.{MoreFaults}
use Rattle.sqlite.specs.declared.error.Error.{Error}
use Rattle.sqlite.specs.declared.error.Error.TheVariants.{SqliteFailure}
use Rattle.sqlite.specs.declared.error.ErrorCode.TheVariants.{OutOfMemory}
use Rattle.sqlite.specs.Effect.{Database as Tables}
use Rattle.sqlite.specs.Schema.{Schema}
use Rattle.sqlite.specs.Store.{Ghosts}
use Rattle.sqlite.specs.Held.{Held, state}
use Rattle.sqlite.specs.State.{State, HasCleanDisk, IsUnchanged, IsRolledBack}
use Rattle.archive_model.specs.Records.{Archive}
use Rattle.archive_tables.specs.Schema.{archive_schema, schema_2, schema_of_version}
use Rattle.archive_tables.specs.Tables.{IsArchiveAtRest, archive_of}
use Rattle.archive_tables.specs.Calls.{KeepsConnectionUnlessDiskFails}
use Rattle.archive_tables.specs.Crashes.{CrashAddsNothing, CrashAddsOnly, IsArchiveStored}
use Rattle.archive_tables.specs.Statements.{Statement, IsAnyStatementRefused, StatementsExecuteTo, option_migration_statements, create_option_statement, backfill_options_statement}
use Rattle.archive_tables.specs.Making.{EndsStep, EndsSteps, EndsBegin, EndsCommit, IsCreatingTables, IsInTransactionWithSchema, IsReadyToCommit, IsIdle, IsRollbackPendingOrDone}
use Rattle.archive_tables.specs.Making.{CreatesTables, MigratesSchema, CreationFailureCanRollBack, CrashAddsNothingInTransaction, empty_archive}
use Rattle.archive_tables.proofs.CauseLemmas.{carried, answers_none}
use Rattle.archive_tables.proofs.CrashLemmas.{commit_made, making_within}
use Rattle.archive_tables.proofs.LastLemmas.{lasts_then, lasts_same}
use Rattle.archive_tables.proofs.TurnLemmas.{carried_then, turn_first, turn_then, in_turn, one_carried}
use Rattle.archive_database.specs.Adopting.{IsOlderVersion, CrashAddsNothingWhileCreating}
use Rattle.archive_database.specs.Faults.{database_error_of, EndsDatabaseCall, FailsByDiskOr}
use Rattle.archive_database.specs.declared.faults.DatabaseError.{DatabaseError}
use Rattle.archive_database.specs.declared.faults.DatabaseError.TheVariants as faults
use Rattle.archive_database.proofs.CauseLemmas.{by_cause, caused_between, each_answer, each_error, each_stop, fails_by, on_err}

-- ---- what holds in a transaction

-- a statement that fails within one leaves that, or ends it
stopped_by : {schema : Schema} (old new : State) (before : Tables) → IsInTransactionWithSchema old before schema → IsUnchanged old new ⊎ IsRolledBack old new → IsRollbackPendingOrDone new before
stopped_by old new before within (inl same) up = (same.0.committed_is ∙ within.committed_is_before, inl (same.0.mode ∙ within.is_in_transaction))
stopped_by old new before within (inr back) up = ((back.undone up).1 ∙ within.committed_is_before, inr ((back.undone up).0 ∙ within.committed_is_before, back.autocommit))

abbrev pub Creating : Schema → State → Tables → Type 0
Creating schema s before = IsCreatingTables s schema before

abbrev pub Within : Schema → State → Tables → Type 0
Within schema s before = IsInTransactionWithSchema s before schema

-- over the tables of an older version
abbrev pub WithinOlder : ℕ → State → Tables → Type 0
WithinOlder number s before = IsOlderVersion number × IsInTransactionWithSchema s before (schema_of_version number)

abbrev pub Ready : State → Tables → Type 0
Ready s before = IsReadyToCommit s before empty_archive

-- and behind it
abbrev pub Kept : State → Tables → Type 0
Kept s before = IsArchiveAtRest s × (archive_of s ≡ empty_archive)

-- Steps in a transaction: from where the one holds to where the other does. Where they fail, the transaction goes on, or is over and goes back;
-- a stop of the machine leaves nothing new; and how they end.
pub record StepsLead {S A : Type 0} (g : Ghosts S) (old new : Held S) (result : Result A Error) (From To : State → Tables → Type 0) (statements : List Statement) : Type 0 where
  pub made : HasCleanDisk (state g new) → (before : Tables) → From (state g old) before → OnOk result (To (state g new) before)
  pub stopped : HasCleanDisk (state g new) → (before : Tables) → From (state g old) before → OnErr result (IsRollbackPendingOrDone (state g new) before)
  pub quiet : (before : Tables) → From (state g old) before → CrashAddsNothing g old new
  pub ends : EndsSteps g old new result From statements

module _ {S : Type 0} {g : Ghosts S} where
  -- ---- one step

  pub one_leads : {A : Type 0} {old new : Held S} {q : Result A Error} {schema : Schema} {st : Statement} (From To : State → Tables → Type 0) → EndsStep g old new q schema st
      → ((before : Tables) → From (state g old) before → IsInTransactionWithSchema (state g old) before schema)
      → (HasCleanDisk (state g new) → (before : Tables) → From (state g old) before → OnOk q (To (state g new) before)) → CrashAddsNothingInTransaction g old new schema
      → StepsLead g old new q From To (st ∷ [])
  one_leads {A} {old} {new} {q} {schema} {st} From To ends over made quiet = record {
    made = made;
    stopped = λ clean before k. each_stop q _ _ (stopped_by (state g old) (state g new) before (over before k)) (ends.failure_keeps_or_rolls_back clean);
    quiet = λ before k. quiet before (over before k);
    ends = record {
      remains_open = ends.remains_open;
      fault_has_cause = λ clean before k free.
          let it = over before k in each_error q _ _ (λ e. in_turn (state g old) (state g new) e st) (ends.fault_has_cause clean it.is_open it.schema_is free);
      executes = λ clean before k free. let it = over before k in each_answer q _ _ (one_carried st (state g old).now (state g new).now) (ends.executes clean it.is_open it.schema_is free);
    };
  }

  pub creates : {A : Type 0} {old new : Held S} {q : Result A Error} {from : Schema} {st : Statement} (to : Schema) → EndsStep g old new q from st → CreatesTables g old new q from to
      → CrashAddsNothingInTransaction g old new from → StepsLead g old new q (Creating from) (Creating to) (st ∷ [])
  creates {A} {old} {new} {q} {from} to ends made quiet = one_leads (Creating from) (Creating to) ends (λ before k. making_within (state g old) before from k) made quiet

  pub moves : {A : Type 0} {old new : Held S} {q : Result A Error} {from : Schema} {st : Statement} (to : Schema) → EndsStep g old new q from st → MigratesSchema g old new q from to
      → CrashAddsNothingInTransaction g old new from → StepsLead g old new q (Within from) (Within to) (st ∷ [])
  moves {A} {old} {new} {q} {from} to ends within quiet = one_leads (Within from) (Within to) ends (λ before k. k) within quiet

  -- ---- some that a call took

  pub leads : {A : Type 0} {old new : Held S} {q : Result A Error} {statements : List Statement} (from : Schema) (To : State → Tables → Type 0)
      → EndsSteps g old new q (Creating from) statements
      → (HasCleanDisk (state g new) → (before : Tables) → IsCreatingTables (state g old) from before → OnOk q (To (state g new) before))
      → CreationFailureCanRollBack g old new q from → CrashAddsNothingWhileCreating g old new from → StepsLead g old new q (Creating from) To statements
  leads from To ends made stopped quiet = record { made = made; stopped = stopped; quiet = quiet; ends = ends }

  pub older_leads : {A : Type 0} {old new : Held S} {q : Result A Error} (number : ℕ) → EndsSteps g old new q (WithinOlder number) (option_migration_statements number)
      → (HasCleanDisk (state g new) → IsOlderVersion number → (before : Tables) → IsInTransactionWithSchema (state g old) before (schema_of_version number)
      → OnOk q (IsInTransactionWithSchema (state g new) before schema_2))
      → (HasCleanDisk (state g new) → IsOlderVersion number → (before : Tables) → IsInTransactionWithSchema (state g old) before (schema_of_version number)
      → OnErr q (IsRollbackPendingOrDone (state g new) before))
      → (IsOlderVersion number → CrashAddsNothingInTransaction g old new (schema_of_version number))
      → StepsLead g old new q (WithinOlder number) (Within schema_2) (option_migration_statements number)
  older_leads number ends within stopped quiet = record {
    made = λ clean before k. within clean k.0 before k.1;
    stopped = λ clean before k. stopped clean k.0 before k.1;
    quiet = λ before k. quiet k.0 before k.1;
    ends = ends;
  }

  -- ---- one after the other

  ends_then : {A B : Type 0} {old mid new : Held S} {a : A} {q : Result B Error} {Holds Next : State → Tables → Type 0} {first second : List Statement} → EndsSteps g old mid (Ok a) Holds first
      → (HasCleanDisk (state g mid) → (before : Tables) → Holds (state g old) before → Next (state g mid) before) → EndsSteps g mid new q Next second
      → EndsSteps g old new q Holds (first ++ second)
  ends_then {A} {B} {old} {mid} {new} {a} {q} {Holds} {Next} {first} {second} one next two = record {
    remains_open = lasts_then _ _ _ one.remains_open two.remains_open;
    fault_has_cause = λ clean before held free.
        let earlier = two.remains_open.disk_was_clean clean in
        each_error q _ _ (λ e. turn_then e first second (state g old) (state g mid) (state g new) one.remains_open (one.executes earlier before held free))
        (two.fault_has_cause clean before (next earlier before held) (one.remains_open.step_limit_is_same ∙ free));
    executes = λ clean before held free.
        let earlier = two.remains_open.disk_was_clean clean in
        each_answer q _ _ (carried_then first second (state g old).now (state g mid).now (state g new).now (one.executes earlier before held free))
        (two.executes clean before (next earlier before held) (one.remains_open.step_limit_is_same ∙ free));
  }

  pub then_leads : {A B : Type 0} {old mid new : Held S} {a : A} {q : Result B Error} {From Mid To : State → Tables → Type 0} {first second : List Statement}
      → StepsLead g old mid (Ok a) From Mid first → StepsLead g mid new q Mid To second → StepsLead g old new q From To (first ++ second)
  then_leads one two = record {
    made = λ clean before k. two.made clean before (one.made (two.ends.remains_open.disk_was_clean clean) before k);
    stopped = λ clean before k. two.stopped clean before (one.made (two.ends.remains_open.disk_was_clean clean) before k);
    quiet = λ before k clean db may.
        let earlier = two.ends.remains_open.disk_was_clean clean in one.quiet before k earlier db (two.quiet before (one.made earlier before k) clean db may);
    ends = ends_then one.ends one.made two.ends;
  }

  -- ---- what the call returns that takes them

  pub done_ends : {A : Type 0} {old new : Held S} {a : A} {Holds : State → Tables → Type 0} {statements : List Statement} → EndsSteps g old new (Ok a) Holds statements
      → EndsSteps {A = Unit {0}} g old new (Ok tt) Holds statements
  done_ends ends = record { remains_open = ends.remains_open; fault_has_cause = λ clean before held free. tt; executes = ends.executes }

  pub done : {A : Type 0} {old new : Held S} {a : A} {From To : State → Tables → Type 0} {statements : List Statement} → StepsLead g old new (Ok a) From To statements
      → StepsLead {A = Unit {0}} g old new (Ok tt) From To statements
  done steps = record { made = steps.made; stopped = λ clean before k. tt; quiet = steps.quiet; ends = done_ends steps.ends }

  -- where a step fails, the call does
  pub fails_ends : {A : Type 0} {old new : Held S} {e : Error} {Holds : State → Tables → Type 0} {statements : List Statement} → EndsSteps {A = A} g old new (Err e) Holds statements
      → (r : Result (Unit {0}) Error) → IsErrAnd r (λ f. f ≡ e) → EndsSteps g old new r Holds statements
  fails_ends {A} {old} {new} {e} ends r is = record {
    remains_open = ends.remains_open;
    fault_has_cause = λ clean before held free. carried r e _ is (ends.fault_has_cause clean before held free);
    executes = λ clean before held free. answers_none r _ _ is;
  }

  pub fails : {A : Type 0} {old new : Held S} {e : Error} {From Next : State → Tables → Type 0} {first : List Statement} (To : State → Tables → Type 0)
      → StepsLead {A = A} g old new (Err e) From Next first → (rest : List Statement) (r : Result (Unit {0}) Error) → IsErrAnd r (λ f. f ≡ e) → StepsLead g old new r From To (first ++ rest)
  fails {A} {old} {new} {e} {From} {Next} {first} To steps rest r is = record {
    made = λ clean before k. answers_none r _ _ is;
    stopped = λ clean before k. on_err r _ (steps.stopped clean before k);
    quiet = steps.quiet;
    ends = record {
      remains_open = steps.ends.remains_open;
      fault_has_cause = λ clean before k free. carried r e _ is (turn_first e first rest (state g old) (state g old) (state g new) (steps.ends.fault_has_cause clean before k free));
      executes = λ clean before k free. answers_none r _ _ is;
    };
  }

  -- ---- COMMIT behind them

  module _ {A B : Type 0} {old mid new : Held S} {a : A} {q : Result B Error} {From Last : State → Tables → Type 0} {statements : List Statement}
      (steps : StepsLead g old mid (Ok a) From Last statements) (over : (before : Tables) → Last (state g mid) before → IsInTransactionWithSchema (state g mid) before archive_schema)
      (ends : EndsCommit g mid new q) where
    pub commit_stops : HasCleanDisk (state g new) → (before : Tables) → From (state g old) before → OnErr q (IsRollbackPendingOrDone (state g new) before)
    commit_stops clean before k =
        let within = over before (steps.made (ends.remains_open.disk_was_clean clean) before k) in
        each_stop q _ _ (stopped_by (state g mid) (state g new) before within) (ends.failure_keeps_or_rolls_back clean)

    pub commit_ends : EndsSteps g old new q From statements
    commit_ends = subst (λ l. EndsSteps g old new q From l) (append-nil statements) (ends_then {Next = Last} {second = []} steps.ends steps.made (record {
      remains_open = ends.remains_open;
      fault_has_cause = λ clean before held free. let it = over before held in each_error q _ _ (λ e why. inl why) (ends.fault_has_cause clean it.is_open it.is_in_transaction);
      executes = λ clean before held free. ends.same_database clean;
    }))

    pub commit_adds : (before : Tables) (archive : Archive) → From (state g old) before → (HasCleanDisk (state g mid) → IsReadyToCommit (state g mid) before archive)
        → CrashAddsOnly g old new (IsArchiveStored archive)
    commit_adds before archive k ready clean db may =
        let earlier = ends.remains_open.disk_was_clean clean in
        elim (commit_made g mid new before archive (ready earlier) ends.crash clean db may) [
          | inl left ↦ inl (steps.quiet before k earlier db left)
          | inr stored ↦ inr stored
        ]

  -- ---- from version 1

  pub from_first : {A : Type 0} {old new : Held S} {q : Result A Error} (number : ℕ) → number ≡ 1
      → StepsLead g old new q (WithinOlder 1) (Within schema_2) (create_option_statement ∷ backfill_options_statement ∷ [])
      → StepsLead g old new q (WithinOlder number) (Within schema_2) (option_migration_statements number)
  from_first {A} {old} {new} {q} number is steps = subst (λ n. StepsLead g old new q (WithinOlder n) (Within schema_2) (option_migration_statements n)) (sym is) steps

  -- the tables of version 2 stay as they are
  pub same_ends : (old : Held S) (number : ℕ) (Holds : State → Tables → Type 0) → ¬ (number ≡ 1) → EndsSteps {A = Unit {0}} g old old (Ok tt) Holds (option_migration_statements number)
  same_ends old number Holds other =
      let none : option_migration_statements number ≡ [] = elim (eqb_tells number 1) [ inl it ↦ absurd (other it.1) | inr it ↦ rw it.0 refl ] in
      record {
        remains_open = lasts_same (state g old);
        fault_has_cause = λ clean before held free. tt;
        executes = λ clean before held free. subst (λ l. StatementsExecuteTo l (state g old).now (state g old).now) (sym none) refl;
      }

  -- ---- a call that takes them in a transaction, and goes back where they fail

  module _ {old : Held S} (Premise : State → Type 0) (Refused : Tables → Type 0) where
    pub begin_fails : {A C : Type 0} {new : Held S} {e : Error} → EndsBegin {A = A} g old new (Err e) → ((s : State) → Premise s → IsIdle s) → (r : Result C DatabaseError)
        → IsErrAnd r (λ f. f ≡ database_error_of e) → EndsDatabaseCall g old new r Premise Refused
    begin_fails {A} {C} {new} {e} ends idle r is = record {
      remains_open = ends.remains_open;
      was_open = λ clean. answers_none r _ _ is;
      fault_has_cause = λ clean it free.
          let up = idle (state g old) it in fails_by (state g old) (state g new) r e _ is (inl (ends.fault_has_cause clean up.is_open up.autocommit));
    }

    module _ {A B C : Type 0} {mid new : Held S} {a : A} {Holds : State → Tables → Type 0} {statements : List Statement} (begun : EndsBegin g old mid (Ok a)) where
      pub undone_ends : {stop : Held S} {e : Error} → EndsSteps {A = B} g mid stop (Err e) Holds statements → KeepsConnectionUnlessDiskFails (state g stop) (state g new)
          → (HasCleanDisk (state g mid) → Premise (state g old) → Holds (state g mid) (state g old).committed)
          → (HasCleanDisk (state g mid) → Premise (state g old) → IsAnyStatementRefused statements (state g mid).now → Refused (state g old).now)
          → (f : DatabaseError) → f ≡ database_error_of e → EndsDatabaseCall {A = C} g old new (Err f) Premise Refused
      undone_ends {stop} {e} steps back holds refuses f is = record {
        remains_open = lasts_then _ _ _ (lasts_then _ _ _ begun.remains_open steps.remains_open) back;
        was_open = λ clean. tt;
        fault_has_cause = λ clean it free.
            let clean_2 = back.disk_was_clean clean in
            let clean_1 = steps.remains_open.disk_was_clean clean_2 in
            by_cause (state g old) (state g new) e f (Refused (state g old).now) is
            (elim (steps.fault_has_cause clean_2 (state g old).committed (holds clean_1 it) (begun.remains_open.step_limit_is_same ∙ free)) [
              | inl why ↦ inl (caused_between (state g old) (state g mid) (state g stop) (state g new) e begun.remains_open back why)
              | inr refused ↦ inr (refuses clean_1 it refused)
            ]);
      }

      pub all_done : {b : B} (c : C) → EndsSteps g mid new (Ok b) Holds statements → EndsDatabaseCall g old new (Ok c) Premise Refused
      all_done c steps = record {
        remains_open = lasts_then _ _ _ begun.remains_open steps.remains_open;
        was_open = λ clean. begun.was_open (steps.remains_open.disk_was_clean clean);
        fault_has_cause = λ clean it free. tt;
      }

-- ---- as a fault of the database

-- a fault that is passed on
pub passes : {A : Type 0} (old new : State) (r : Result A DatabaseError) (f : DatabaseError) (Earlier Later : Type 0) → IsErrAnd r (λ g. g ≡ f) → (Earlier → Later)
    → (f ≡ faults.Database → MoreFaults old.faults new.faults ⊎ Earlier) → FailsByDiskOr old new r Later
passes old new (Ok a) f Earlier Later is on why = tt
passes old new (Err g) f Earlier Later is on why = λ it. elim (why (sym is ∙ it)) [ inl more ↦ inl more | inr refused ↦ inr (on refused) ]

-- a row that is not read
pub unread : {A : Type 0} (old new : State) (r : Result A DatabaseError) (e : Error) (Later : Type 0) → IsErrAnd r (λ f. f ≡ database_error_of e) → (e ≢ SqliteFailure OutOfMemory → Later)
    → FailsByDiskOr old new r Later
unread old new (Ok a) e Later is why = tt
unread old new (Err f) e Later is why = λ it. inr (why (λ none. absurd (let bad : faults.Memory ≡ faults.Database = sym (ap database_error_of none) ∙ sym is ∙ it in cc)))
