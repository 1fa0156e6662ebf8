-- Whole clauses of a call, from what the database says of its statement.
use Rattle.std.proofs.Common.{ap, ◌≡◌, ◌⊎◌, inl, inr, ◌∙◌, List, ℕ, Ok, Err, Result, None, Some, Option, refl}
use Rattle.std.specs.Prelude.{⊤, IsTrue, IsErrAnd, IfOk, IfErr, OnOk, OnErr, MatchResult, Vec}
use Rattle.std.specs.declared.alloc.Global.{Global}
use Rattle.sqlite.specs.declared.error.Error.{Error}
use Rattle.sqlite.specs.Effect.{Database}
use Rattle.sqlite.specs.Order.{Row}
use Rattle.sqlite.specs.Tree.{Trees}
use Rattle.sqlite.specs.Schema.{Schema}
use Rattle.sqlite.specs.Store.{Ghosts}
use Rattle.sqlite.specs.Held.{Held, state}
use Rattle.sqlite.specs.State.{State, HasCleanDisk, Survives, Executes, Shown, FailsToQuery, IsUnchanged, IsRolledBack, CommitsBy, CommitsShowing}
use Rattle.sqlite_resolve.specs.Compile.{first}
use Rattle.archive_model.specs.Records.{Archive}
use Rattle.archive_tables.specs.Tables.{IsOpenArchive, IsArchiveAtRest, archive_in_trees, archive_of}
use Rattle.archive_tables.specs.Calls.{LeavesRowsUnchanged, FaultKeepsRowsOrRollsBack, IsMemoryOrDiskError, ChangesArchive, AnswerHoldsOfArchive, AnswerHoldsOfRows}
use Rattle.archive_tables.specs.Calls.{FailsByFaultOr, EndsConnectionCall, AnswersFromDatabase, AnswersOrFailsByFault, AnswersFromRows, WritesByStatement as WritesBy}
use Rattle.archive_tables.specs.Statements.{Statement}
use Rattle.archive_tables.specs.Making.{EndsStep}
use Rattle.archive_tables.proofs.RunLemmas.{execute_fails, on_fault}
use Rattle.archive_tables.proofs.CauseLemmas.{carried, answers_none}
use Rattle.archive_tables.proofs.RefusalLemmas.{Knows, KnowsIn, write_fails, write_carries_out, step_fails, step_carries_out}
use Rattle.archive_tables.proofs.CrashLemmas.{IsQuestionText, question_sees, question_adds_nothing, crash_over}
use Rattle.archive_tables.proofs.LastLemmas.{IsOurText, execute_lasts, execute_open, query_lasts, query_open, shown_open}

-- ---- one call after the other

-- the same rows remember the same archive
pub archive_stays : {a b : Database} → b ≡ a → archive_in_trees b.trees ≡ archive_in_trees a.trees
archive_stays same = ap (λ (db : Database). archive_in_trees db.trees) same

pub stays_then : (behind : Option Database) (a b c : State) → LeavesRowsUnchanged behind a b → LeavesRowsUnchanged behind b c → LeavesRowsUnchanged behind a c
stays_then behind a b c p q = (q.0, q.1 ∙ p.1)

pub rests_behind : (behind : Option Database) (old mid new : State) → mid.now ≡ old.now → FaultKeepsRowsOrRollsBack behind mid new → FaultKeepsRowsOrRollsBack behind old new
rests_behind None old mid new same rests = λ up. let it = rests up in (it.0, it.1 ∙ same)
rests_behind (Some db) old mid new same rests = λ up. elim (rests up) [ inl stays ↦ inl (stays.0, stays.1 ∙ same) | inr back ↦ inr back ]

-- ---- one call

-- a write that needs nothing
pub needs_nothing : {A E : Type 0} (r : Result A E) (C R : Type 0) → MatchResult r (λ _. C) (λ _. R) → MatchResult r (λ _. ⊤ → C) (λ _. R)
needs_nothing (Ok a) C R it = λ any. it
needs_nothing (Err e) C R it = it

module _ {S : Type 0} {g : Ghosts S} {old new : Held S} (sql : List ℕ) (params : Row) (P : Trees → Type 0) where
  -- ---- a statement that changes something

  module _ (r : Result ℕ Error) (ours : IsOurText (first sql)) (s : Survives (state g old) (state g new) P)
      (runs : HasCleanDisk (state g new) → Executes sql params (state g old) (state g new) r) where
    pub execute_ends : EndsConnectionCall g old new r
    execute_ends = record {
      remains_open = execute_lasts (state g old) (state g new) sql params P r s runs;
      was_open = λ clean. execute_open (state g old) (state g new) sql params r ours (runs clean);
    }

-- where it fails, it changes nothing, or goes back
pub statement_stops : (old new : State) (sql : List ℕ) (params : Row) (r : Result ℕ Error) → Executes sql params old new r → OnErr r (IsUnchanged old new ⊎ IsRolledBack old new)
statement_stops old new sql params (Ok count) h = tt
statement_stops old new sql params (Err e) h = execute_fails old new sql params e h

-- a step of the making or the moving
pub step_ends : {S : Type 0} {g : Ghosts S} {old new : Held S} (s : Schema) (st : Statement) (P : Trees → Type 0) (r : Result ℕ Error) → KnowsIn s st → IsOurText (first st.sql)
    → Survives (state g old) (state g new) P → (HasCleanDisk (state g new) → Executes st.sql st.parameters (state g old) (state g new) r) → EndsStep g old new r s st
step_ends {S} {g} {old} {new} s st P r knows ours survives runs =
    let ends : EndsConnectionCall g old new r = execute_ends st.sql st.parameters P r ours survives runs in
    record {
      remains_open = ends.remains_open;
      was_open = ends.was_open;
      failure_keeps_or_rolls_back = λ clean. statement_stops (state g old) (state g new) st.sql st.parameters r (runs clean);
      fault_has_cause = λ clean up has free. step_fails s st knows (state g old) (state g new) up has free r (runs clean);
      executes = λ clean up has free. step_carries_out s st knows (state g old) (state g new) up has free r (runs clean);
    }

-- ---- a write of an archive

module _ (st : Statement) (Needs : Archive → Type 0) (change : Archive → Archive) where
  -- what the statement makes of tables that are held
  abbrev pub Tries : Type 1
  Tries = (behind : Option Database) (old new : State) (r : Result ℕ Error) → IsOpenArchive behind old → Executes st.sql st.parameters old new r
      → MatchResult r (λ _. Needs (archive_of old) → ChangesArchive behind old new change) (λ _. FaultKeepsRowsOrRollsBack behind old new)

  module _ (knows : Knows st) (ours : IsOurText (first st.sql)) (tries : Tries) where
    pub write_whole : {S : Type 0} {g : Ghosts S} {old new : Held S} (r : Result ℕ Error) → Survives (state g old) (state g new) (CommitsBy st.sql st.parameters (state g old))
        → (HasCleanDisk (state g new) → Executes st.sql st.parameters (state g old) (state g new) r) → WritesBy g old new r Needs change st
    write_whole {S} {g} {old} {new} r s runs = record {
      answer_holds = λ clean behind k. tries behind (state g old) (state g new) r k (runs clean);
      fault_has_cause = λ clean behind k free. write_fails st knows (state g old) (state g new) k free r (runs clean);
      executes_statement = λ clean behind k free. write_carries_out st knows (state g old) (state g new) k free r (runs clean);
      crash = λ behind k needs. crash_over st.sql _ refl knows.plain knows.writes st.parameters change (state g old) (state g new) behind k
          (λ kept next count ran. tries None (state g old) next (Ok count) kept ran needs) s;
      ends_call = execute_ends st.sql st.parameters _ r ours s runs;
    }

-- where it needs nothing
pub write_freely : (st : Statement) (change : Archive → Archive) → Knows st → IsOurText (first st.sql)
    → ((behind : Option Database) (old new : State) (r : Result ℕ Error) → IsOpenArchive behind old → Executes st.sql st.parameters old new r
    → MatchResult r (λ _. ChangesArchive behind old new change) (λ _. FaultKeepsRowsOrRollsBack behind old new))
    → {S : Type 0} {g : Ghosts S} {old new : Held S} (r : Result ℕ Error) → Survives (state g old) (state g new) (CommitsBy st.sql st.parameters (state g old))
    → (HasCleanDisk (state g new) → Executes st.sql st.parameters (state g old) (state g new) r) → WritesBy g old new r (λ _. ⊤) change st
write_freely st change knows ours tries = write_whole st (λ _. ⊤) change knows ours (λ behind old new r k h. needs_nothing r _ _ (tries behind old new r k h))

-- ---- a question

shown_same : (old new : State) (sql : List ℕ) (params : Row) → IsQuestionText (first sql) → (r : Result (Vec Row Global) Error) → IfOk r (λ rows. Shown sql params old new rows.items)
    → OnOk r (new.now ≡ old.now)
shown_same old new sql params asks (Ok rows) shown = question_sees old new sql params rows.items asks shown
shown_same old new sql params asks (Err e) shown = tt

-- what is said of the archive is said of its rows
of_rows : {S : Type 0} {g : Ghosts S} {old new : Held S} {A : Type 0} {r : Result A Error} {Says : Archive → A → Type 0} {Unread : Type 0}
    → AnswersFromRows g old new r (λ trees. Says (archive_in_trees trees)) Unread → AnswersFromDatabase g old new r Says Unread
of_rows it = record {
  answer_holds = it.answer_holds;
  fault_has_cause = it.fault_has_cause;
  same_database = it.same_database;
  crash_adds_nothing = it.crash_adds_nothing;
  ends_call = it.ends_call;
}

module _ {S : Type 0} {g : Ghosts S} {old new : Held S} (sql : List ℕ) (params : Row) (asks : IsQuestionText (first sql)) where
  module _ (q : Result (Vec Row Global) Error) (s : Survives (state g old) (state g new) (CommitsShowing sql params (state g old)))
      (ok : HasCleanDisk (state g new) → IfOk q (λ rows. Shown sql params (state g old) (state g new) rows.items))
      (err : HasCleanDisk (state g new) → IfErr q (FailsToQuery sql params (state g old) (state g new))) where
    query_ends : {A : Type 0} (r : Result A Error) → (HasCleanDisk (state g new) → OnOk r (IsTrue (state g old).is_open)) → EndsConnectionCall g old new r
    query_ends r was_open = record { remains_open = query_lasts (state g old) (state g new) sql params _ q s ok err; was_open = was_open }

    -- where its rows are the answer
    pub shown_ends : EndsConnectionCall g old new q
    shown_ends = query_ends q (λ clean. query_open (state g old) (state g new) sql params q (ok clean))

    -- where an answer is made of its rows
    pub answered_ends : {A : Type 0} (a : A) (rows : List Row) → (HasCleanDisk (state g new) → Shown sql params (state g old) (state g new) rows)
        → (let r : Result A Error = Ok a in EndsConnectionCall g old new r)
    answered_ends a rows shown = query_ends (Ok a) (λ clean. shown_open (state g old) (state g new) sql params rows (shown clean))

    -- at the exit of a `?`
    pub failed_ends : {A : Type 0} (r : Result A Error) (Q : Error → Type 0) → IsErrAnd r Q → EndsConnectionCall g old new r
    failed_ends r Q is = query_ends r (λ clean. answers_none r Q _ is)

    -- the whole clause there
    pub asks_rows_fails : {A : Type 0} {Says : Trees → A → Type 0} {Unread : Type 0} (r : Result A Error) (e : Error) → IsErrAnd r (λ f. f ≡ e)
        → (HasCleanDisk (state g new) → (behind : Option Database) → IsOpenArchive behind (state g old) → FaultKeepsRowsOrRollsBack behind (state g old) (state g new))
        → (HasCleanDisk (state g new) → IsArchiveAtRest (state g old) → (state g old).step_limit ≡ None → IsMemoryOrDiskError (state g old) (state g new) e ⊎ Unread)
        → AnswersFromRows g old new r Says Unread
    asks_rows_fails {A} {Says} {Unread} r e is rests why = record {
      answer_holds = λ clean behind k. on_fault _ _ r is (rests clean behind k);
      fault_has_cause = λ clean k free. carried r e (λ f. IsMemoryOrDiskError (state g old) (state g new) f ⊎ Unread) is (why clean k free);
      same_database = λ clean. answers_none r _ _ is;
      crash_adds_nothing = λ clean db may. question_adds_nothing (state g old) (state g new) sql params asks s clean db may;
      ends_call = failed_ends r _ is;
    }

    pub asks_fails : {A : Type 0} {Says : Archive → A → Type 0} {Unread : Type 0} (r : Result A Error) (e : Error) → IsErrAnd r (λ f. f ≡ e)
        → (HasCleanDisk (state g new) → (behind : Option Database) → IsOpenArchive behind (state g old) → FaultKeepsRowsOrRollsBack behind (state g old) (state g new))
        → (HasCleanDisk (state g new) → IsArchiveAtRest (state g old) → (state g old).step_limit ≡ None → IsMemoryOrDiskError (state g old) (state g new) e ⊎ Unread)
        → AnswersFromDatabase g old new r Says Unread
    asks_fails r e is rests why = of_rows (asks_rows_fails r e is rests why)

    -- where its faults have a cause within a transaction, too
    pub anywhere_fails : {A : Type 0} {Says : Archive → A → Type 0} (r : Result A Error) (e : Error) → IsErrAnd r (λ f. f ≡ e)
        → (HasCleanDisk (state g new) → (behind : Option Database) → IsOpenArchive behind (state g old) → FaultKeepsRowsOrRollsBack behind (state g old) (state g new))
        → (HasCleanDisk (state g new) → (behind : Option Database) → IsOpenArchive behind (state g old) → (state g old).step_limit ≡ None → IsMemoryOrDiskError (state g old) (state g new) e)
        → AnswersOrFailsByFault g old new r Says
    anywhere_fails {A} {Says} r e is rests why = record {
      answer_holds = λ clean behind k. on_fault _ _ r is (rests clean behind k);
      fault_has_cause = λ clean behind k free. carried r e (λ f. IsMemoryOrDiskError (state g old) (state g new) f) is (why clean behind k free);
      same_database = λ clean. answers_none r _ _ is;
      crash_adds_nothing = λ clean db may. question_adds_nothing (state g old) (state g new) sql params asks s clean db may;
      ends_call = failed_ends r _ is;
    }

    -- where its rows are the answer
    pub asks_rows_shows : {Says : Trees → Vec Row Global → Type 0} {Unread : Type 0} → AnswerHoldsOfRows g old new q Says → FailsByFaultOr g old new q Unread → AnswersFromRows g old new q Says Unread
    asks_rows_shows over caused = record {
      answer_holds = over;
      fault_has_cause = caused;
      same_database = λ clean. shown_same (state g old) (state g new) sql params asks q (ok clean);
      crash_adds_nothing = λ clean db may. question_adds_nothing (state g old) (state g new) sql params asks s clean db may;
      ends_call = shown_ends;
    }

    pub asks_shows : {Says : Archive → Vec Row Global → Type 0} {Unread : Type 0} → AnswerHoldsOfArchive g old new q Says → FailsByFaultOr g old new q Unread
        → AnswersFromDatabase g old new q Says Unread
    asks_shows over caused = of_rows (asks_rows_shows over caused)

    -- and where it answers
    pub asks_rows_answers : {A : Type 0} {Says : Trees → A → Type 0} {Unread : Type 0} (a : A) (rows : List Row)
        → (HasCleanDisk (state g new) → Shown sql params (state g old) (state g new) rows)
        → (HasCleanDisk (state g new) → (behind : Option Database) → IsOpenArchive behind (state g old)
        → Says (state g old).now.trees a × LeavesRowsUnchanged behind (state g old) (state g new))
        → AnswersFromRows g old new (Ok a) Says Unread
    asks_rows_answers a rows shown over = record {
      answer_holds = over;
      fault_has_cause = λ clean k free. tt;
      same_database = λ clean. question_sees (state g old) (state g new) sql params rows asks (shown clean);
      crash_adds_nothing = λ clean db may. question_adds_nothing (state g old) (state g new) sql params asks s clean db may;
      ends_call = answered_ends a rows shown;
    }

    pub asks_answers : {A : Type 0} {Says : Archive → A → Type 0} {Unread : Type 0} (a : A) (rows : List Row)
        → (HasCleanDisk (state g new) → Shown sql params (state g old) (state g new) rows)
        → (HasCleanDisk (state g new) → (behind : Option Database) → IsOpenArchive behind (state g old) → Says (archive_of (state g old)) a × LeavesRowsUnchanged behind (state g old) (state g new))
        → AnswersFromDatabase g old new (Ok a) Says Unread
    asks_answers a rows shown over = of_rows (asks_rows_answers a rows shown over)

    pub anywhere_answers : {A : Type 0} {Says : Archive → A → Type 0} (a : A) (rows : List Row)
        → (HasCleanDisk (state g new) → Shown sql params (state g old) (state g new) rows)
        → (HasCleanDisk (state g new) → (behind : Option Database) → IsOpenArchive behind (state g old) → Says (archive_of (state g old)) a × LeavesRowsUnchanged behind (state g old) (state g new))
        → AnswersOrFailsByFault g old new (Ok a) Says
    anywhere_answers a rows shown over = record {
      answer_holds = over;
      fault_has_cause = λ clean behind k free. tt;
      same_database = λ clean. question_sees (state g old) (state g new) sql params rows asks (shown clean);
      crash_adds_nothing = λ clean db may. question_adds_nothing (state g old) (state g new) sql params asks s clean db may;
      ends_call = answered_ends a rows shown;
    }
