-- A question on the tables: what is known of its text, and the whole clause at each exit of a call that asks it.
use Rattle.std.proofs.Common.{◌≡◌, ◌⊎◌, inl, inr, ◌∙◌, sym, ap, subst, ℕ, ℤ, List, [], ◌∷◌, map, filter, Bool, true, false, Ok, Err, Result, Option, Some, None}
use Rattle.std.specs.Prelude.{IfOk, IfErr, IsErrAnd, MatchResult, Vec, find, slice_get, not, length, ◌==◌}
use Rattle.std.specs.List.{list_any}
use Rattle.std.specs.Vec.{vec_len}
use Rattle.std.specs.declared.alloc.Global.{Global}
use Rattle.sqlite.specs.declared.error.Error.{Error}
use Rattle.sqlite.specs.declared.types.Value.TheVariants.{Null, Int}
use Rattle.sqlite.specs.Command.TheVariants.{Select}
use Rattle.sqlite.specs.Effect.{Database}
use Rattle.sqlite.specs.Held.{Held, state}
use Rattle.sqlite.specs.Listing.{understood, reads_listing}
use Rattle.sqlite.specs.Order.{Row}
use Rattle.sqlite.specs.Program.{overlay}
use Rattle.sqlite.specs.Query.{Query, output, IsAnswer}
use Rattle.sqlite.specs.State.{State, HasCleanDisk, Survives, Shown, FailsToQuery, CommitsShowing}
use Rattle.sqlite.specs.Store.{Ghosts}
use Rattle.sqlite.specs.Table.{Table}
use Rattle.sqlite.specs.Term.{Term}
use Rattle.sqlite.specs.Tree.{Trees}
use Rattle.sqlite.proofs.Callers.{IsPlain, command_of, reads_as}
use Rattle.sqlite_resolve.specs.Compile.{first}
use Rattle.sqlite_sql.specs.Program.{ProgramOverflows}
use Rattle.sqlite_typing.specs.Types.{accepts_program}
use Rattle.sqlite_value.specs.declared.keys.Key.{Key}
use Rattle.archive_model.specs.Records.{Archive}
use Rattle.archive_tables.specs.Schema.{archive_schema}
use Rattle.archive_tables.specs.Tables.{IsOpenArchive, AreArchiveTables, HoldsRecords, archive_in_trees}
use Rattle.archive_tables.specs.Rows.{out_of_memory_error}
use Rattle.archive_tables.specs.Calls.{LeavesRowsUnchanged, FaultKeepsRowsOrRollsBack, IsMemoryOrDiskError, FailsOnlyByMemoryOrDisk, AnswersFromDatabase, AnswersOrFailsByFault, AnswersFromRows}
use Rattle.archive_tables.proofs.RunLemmas.{query_fails, query_leaves, rests, stays}
use Rattle.archive_tables.proofs.SelectLemmas.{plain_query, by_number, env_of, passes, Picks, picks_of, any_wanted, shows, first_found, none_found}
use Rattle.archive_tables.proofs.CauseLemmas.{Fits, schema_question_fails_by, calm, stays_rests}
use Rattle.archive_tables.proofs.CrashLemmas.{IsQuestionText}
use Rattle.archive_tables.proofs.EndLemmas.{asks_rows_fails, asks_rows_answers, asks_rows_shows}

-- What is known of a text, where these are put in for its parameters: it is a question, what its rows tell of the tables of an
-- archive, which it leaves, and what is so where it fails.
pub record Question (sql : List ℕ) (params : Row) (Tells : Trees → List Row → Type 0) : Type 1 where
  pub asks : IsQuestionText (first sql)
  pub tells : (behind : Option Database) (old new : State) → IsOpenArchive behind old → (rows : List Row) → Shown sql params old new rows
      → Tells old.now.trees rows × LeavesRowsUnchanged behind old new
  pub rests : (behind : Option Database) (old new : State) → IsOpenArchive behind old → (e : Error) → FailsToQuery sql params old new e → FaultKeepsRowsOrRollsBack behind old new
  pub caused : (behind : Option Database) (old new : State) → IsOpenArchive behind old → (e : Error) → FailsToQuery sql params old new e → old.step_limit ≡ None
      → IsMemoryOrDiskError old new e

-- ---- its text

-- The database takes the text for this query, with these parameters.
pub record QuestionText (sql : List ℕ) (body : Query) (params : Row) : Type 0 where
  pub names : List (List ℕ)
  pub is : command_of (understood archive_schema sql) ≡ Select (record { lets = []; body = body }) names
  pub plain : IsPlain (understood archive_schema sql)
  pub unlisted : reads_listing archive_schema sql ≡ false
  pub fits : Fits sql (length params) (understood archive_schema sql)
  pub typed : accepts_program archive_schema [] body params ≡ true
  pub asks : IsQuestionText (first sql)

pub question_of : {sql : List ℕ} {body : Query} {params : Row} {Tells : Trees → List Row → Type 0} → QuestionText sql body params
    → ((db : Trees) → ¬ ProgramOverflows db params [] [] body) → ((db : Trees) → AreArchiveTables db → (rows : List Row) → IsAnswer body (overlay db []) params rows → Tells db rows)
    → Question sql params Tells
question_of {sql} {body} {params} text calm tells = record {
  asks = text.asks;
  tells = λ behind old new k rows h. (
    tells old.now.trees k.tables rows ((reads_as sql params old new archive_schema k.schema _ text.is text.plain text.unlisted rows h).answer Null),
    stays old new k (query_leaves old new sql params rows (subst (λ s. IsPlain (understood s sql)) (sym k.schema) text.plain) h),
  );
  rests = λ behind old new k e h. rests old new k (query_fails old new sql params e (subst (λ s. IsPlain (understood s sql)) (sym k.schema) text.plain) h);
  caused = λ behind old new k e h free. schema_question_fails_by archive_schema sql body text.names text.is text.plain text.unlisted params text.fits text.typed calm old new k.is_open k.schema
      free e h;
}

-- of a query over one table
pub table_question : {sql : List ℕ} (t : ℕ) (terms shown : List Term) (order : List (Term × Key)) {params : Row} {Tells : Trees → List Row → Type 0} → ((db : Trees) → overlay db [] t ≡ db t)
    → QuestionText sql (plain_query t terms shown order) params
    → ((db : Trees) → AreArchiveTables db → (rows : List Row) → Picks (plain_query t terms shown order) params (db t) rows → Tells db rows) → Question sql params Tells
table_question t terms shown order {params} low text tells = question_of text (calm t terms shown order params) (λ db k rows a.
    tells db k rows (subst (λ l. Picks (plain_query t terms shown order) params l rows) (low db) (picks_of t terms shown order (overlay db []) params rows a)))

-- there is a row where one of these is wanted
pub record HasWanted {X : Type 0} (wanted : X → Bool) (get : Trees → List X) (db : Trees) (rows : List Row) : Type 0 where
  pub is : not (length rows == 0) ≡ list_any wanted (get db)

-- the rows show those of these that are wanted, in their order
pub record ShowsWanted {X : Type 0} (show : X → Row) (wanted : X → Bool) (get : Trees → List X) (db : Trees) (rows : List Row) : Type 0 where
  pub are : rows ≡ map show (filter wanted (get db))

-- an archive keeps these records in the rows of the table
pub record KeepsRecords {R : Type 0} (table : Table) (cells : R → Row) (read : Row → R) : Type 0 where
  pub back : (n : ℤ) (r : R) → read (Int n ∷ cells r) ≡ r
  pub low : (db : Trees) → overlay db [] table.tree ≡ db table.tree
  pub holds : (db : Trees) → AreArchiveTables db → HoldsRecords cells read (db table.tree)

module _ {R : Type 0} {table : Table} {cells : R → Row} {read : Row → R} (kept : KeepsRecords table cells read) {sql : List ℕ} (terms shown : List Term) {params : Row} where
  pub asks_whether : QuestionText sql (plain_query table.tree terms shown []) params → (wanted : R → Bool) → ((n : ℤ) (r : R) → passes terms params (Int n ∷ cells r) ≡ wanted r)
      → Question sql params (HasWanted wanted (λ db. map read (db table.tree)))
  asks_whether text wanted tests = table_question table.tree terms shown [] kept.low text (λ db k rows p.
      record { is = any_wanted cells read kept.back (plain_query table.tree terms shown []) params wanted tests (db table.tree) rows (kept.holds db k) p })

  pub asks_which : QuestionText sql (plain_query table.tree terms shown by_number) params → (show : R → Row) (wanted : R → Bool) → ((n : ℤ) (r : R) → passes terms params (Int n ∷ cells r) ≡ wanted r)
      → ((n : ℤ) (r : R) → (output (plain_query table.tree terms shown by_number) (env_of params (Int n ∷ cells r))).1 ≡ show r)
      → Question sql params (ShowsWanted show wanted (λ db. map read (db table.tree)))
  asks_which text show wanted tests same = table_question table.tree terms shown by_number kept.low text (λ db k rows p.
      record { are = shows table.tree terms shown params cells read kept.back wanted tests show same (db table.tree) rows (kept.holds db k) p })

-- ---- a call that asks it

module _ {sql : List ℕ} {params : Row} {Tells : Trees → List Row → Type 0} (question : Question sql params Tells) (behind : Option Database) (old new : State) (k : IsOpenArchive behind old) where
  rows_or_rests : {Says : Vec Row Global → Type 0} (r : Result (Vec Row Global) Error) → ((rows : Vec Row Global) → Tells old.now.trees rows.items → Says rows)
      → IfOk r (λ rows. Shown sql params old new rows.items) → IfErr r (FailsToQuery sql params old new)
      → MatchResult r (λ rows. Says rows × LeavesRowsUnchanged behind old new) (λ _. FaultKeepsRowsOrRollsBack behind old new)
  rows_or_rests (Ok rows) says ok err = let it = question.tells behind old new k rows.items ok in (says rows it.0, it.1)
  rows_or_rests (Err e) says ok err = question.rests behind old new k e err

  rows_or_caused : (r : Result (Vec Row Global) Error) → old.step_limit ≡ None → IfErr r (FailsToQuery sql params old new) → IfErr r (λ e. IsMemoryOrDiskError old new e ⊎ ⊥)
  rows_or_caused (Ok rows) free err = tt
  rows_or_caused (Err e) free err = inl (question.caused behind old new k e err free)

module _ {sql : List ℕ} {params given : Row} {Tells : Trees → List Row → Type 0} (question : Question sql params Tells) {S : Type 0} {g : Ghosts S} {old new : Held S}
    (q : Result (Vec Row Global) Error) (s : Survives (state g old) (state g new) (CommitsShowing sql given (state g old)))
    (ok : HasCleanDisk (state g new) → IfOk q (λ rows. Shown sql given (state g old) (state g new) rows.items))
    (err : HasCleanDisk (state g new) → IfErr q (FailsToQuery sql given (state g old) (state g new))) (same : given ≡ params) where
  -- where its rows are the answer
  pub rows_answer : {Says : Trees → Vec Row Global → Type 0} → ((rows : Vec Row Global) → Tells (state g old).now.trees rows.items → Says (state g old).now.trees rows)
      → AnswersFromRows g old new q Says ⊥
  rows_answer says =
      asks_rows_shows sql given question.asks q s ok err (λ clean behind k. rows_or_rests question behind (state g old) (state g new) k q says (rw same at (ok clean)) (rw same at (err clean)))
      (λ clean k free. rows_or_caused question None (state g old) (state g new) k q free (rw same at (err clean)))

  -- where an answer is made of its rows
  pub answers : {A : Type 0} {Says : Trees → A → Type 0} {Unread : Type 0} {a : A} (rows : List Row) → (HasCleanDisk (state g new) → Shown sql given (state g old) (state g new) rows)
      → (Tells (state g old).now.trees rows → Says (state g old).now.trees a) → AnswersFromRows g old new (Ok a) Says Unread
  answers {a = a} rows shown says = asks_rows_answers sql given question.asks q s ok err a rows shown
      (λ clean behind k. let it = question.tells behind (state g old) (state g new) k rows (rw same at (shown clean)) in (says it.0, it.1))

  -- at the exit of a `?` on the call
  pub fails : {A : Type 0} {Says : Trees → A → Type 0} {Unread : Type 0} {r : Result A Error} (e : Error) → IsErrAnd r (λ f. f ≡ e)
      → (HasCleanDisk (state g new) → FailsToQuery sql given (state g old) (state g new) e) → AnswersFromRows g old new r Says Unread
  fails {r = r} e is failed =
      asks_rows_fails sql given question.asks q s ok err r e is (λ clean behind k. question.rests behind (state g old) (state g new) k e (rw same at (failed clean)))
      (λ clean k free. inl (question.caused None (state g old) (state g new) k e (rw same at (failed clean)) free))

-- what is said of the tables is said of the archive
pub of_archive : {S : Type 0} {g : Ghosts S} {old new : Held S} {A : Type 0} {r : Result A Error} {Says : Archive → A → Type 0} {Unread : Type 0}
    → AnswersFromRows g old new r (λ db a. Says (archive_in_trees db) a) Unread → AnswersFromDatabase g old new r Says Unread
of_archive it = record {
  answer_holds = it.answer_holds;
  fault_has_cause = it.fault_has_cause;
  same_database = it.same_database;
  crash_adds_nothing = it.crash_adds_nothing;
  ends_call = it.ends_call;
}

-- where a fault has a cause within a transaction, too
pub within_too : {S : Type 0} {g : Ghosts S} {old new : Held S} {A : Type 0} {r : Result A Error} {Says : Archive → A → Type 0} → AnswersFromDatabase g old new r Says ⊥
    → FailsOnlyByMemoryOrDisk g old new r → AnswersOrFailsByFault g old new r Says
within_too it caused = record {
  answer_holds = it.answer_holds;
  fault_has_cause = caused;
  same_database = it.same_database;
  crash_adds_nothing = it.crash_adds_nothing;
  ends_call = it.ends_call;
}

-- ---- whether there is a row

pub whether : {X : Type 0} {sql : List ℕ} {params given : Row} {wanted : X → Bool} {get : Trees → List X} (question : Question sql params (HasWanted wanted get))
    {S : Type 0} {g : Ghosts S} {old new : Held S} (q : Result (Vec Row Global) Error) → Survives (state g old) (state g new) (CommitsShowing sql given (state g old))
    → (HasCleanDisk (state g new) → IfOk q (λ rows. Shown sql given (state g old) (state g new) rows.items))
    → (HasCleanDisk (state g new) → IfErr q (FailsToQuery sql given (state g old) (state g new))) → given ≡ params
    → {Unread : Type 0} {a : Bool} (rows : Vec Row Global) → (HasCleanDisk (state g new) → Shown sql given (state g old) (state g new) rows.items) → a ≡ not (vec_len rows == 0)
    → AnswersFromRows g old new (Ok a) (λ db found. found ≡ list_any wanted (get db)) Unread
whether question q s ok err same rows shown is = answers question q s ok err same rows.items shown (λ it. is ∙ ap (λ n. not (n == 0)) rows.ok.0 ∙ it.is)

-- ---- its first row

module _ {X : Type 0} {sql : List ℕ} {params given : Row} {show : X → Row} {wanted : X → Bool} {get : Trees → List X} (question : Question sql params (ShowsWanted show wanted get))
    {S : Type 0} {g : Ghosts S} {old new : Held S} (q : Result (Vec Row Global) Error) (s : Survives (state g old) (state g new) (CommitsShowing sql given (state g old)))
    (ok : HasCleanDisk (state g new) → IfOk q (λ rows. Shown sql given (state g old) (state g new) rows.items))
    (err : HasCleanDisk (state g new) → IfErr q (FailsToQuery sql given (state g old) (state g new))) (same : given ≡ params)
    (rows : List Row) (shown : HasCleanDisk (state g new) → Shown sql given (state g old) (state g new) rows) where
  pub finds_none : {A : Type 0} {Says : Trees → A → Type 0} {Unread : Type 0} {a : A} → slice_get rows 0 ≡ None
      → (find wanted (get (state g old).now.trees) ≡ None → Says (state g old).now.trees a) → AnswersFromRows g old new (Ok a) Says Unread
  finds_none no_first says = answers question q s ok err same rows shown (λ it. says (none_found wanted show (get (state g old).now.trees) rows it.are no_first))

  pub finds : {A : Type 0} {Says : Trees → A → Type 0} {Unread : Type 0} {a : A} (row : Row) → slice_get rows 0 ≡ Some row
      → ((x : X) → find wanted (get (state g old).now.trees) ≡ Some x → row ≡ show x → Says (state g old).now.trees a) → AnswersFromRows g old new (Ok a) Says Unread
  finds row at_first says = answers question q s ok err same rows shown (λ it.
      let one = first_found wanted show (get (state g old).now.trees) rows it.are row at_first in says one.0 one.1 one.2)

  -- at the exit of a `?` on it
  pub finds_unread : {A : Type 0} {Says : Trees → A → Type 0} {Unread : Type 0} {r : Result A Error} (row : Row) → slice_get rows 0 ≡ Some row → (e : Error) → IsErrAnd r (λ f. f ≡ e)
      → ((x : X) → find wanted (get (state g old).now.trees) ≡ Some x → row ≡ show x → (e ≡ out_of_memory_error) ⊎ Unread) → AnswersFromRows g old new r Says Unread
  finds_unread {r = r} row at_first e is why = asks_rows_fails sql given question.asks q s ok err r e is
      (λ clean behind k. stays_rests behind (state g old) (state g new) (question.tells behind (state g old) (state g new) k rows (rw same at (shown clean))).1) (λ clean k free.
      let it = question.tells None (state g old) (state g new) k rows (rw same at (shown clean)) in
      let one = first_found wanted show (get (state g old).now.trees) rows it.0.are row at_first in
      elim (why one.0 one.1 one.2) [ inl none ↦ inl (inl none) | inr bad ↦ inr bad ])
