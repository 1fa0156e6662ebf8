-- The statements that make the tables.
use Rattle.std.proofs.Common.{◌≡◌, ℕ, List, [], ◌∷◌, codes, Ok, Err, Result, OnOk, refl, sym, ap, subst, ◌∙◌, false, None}
use Rattle.std.specs.Prelude.{IsTrue}
use Rattle.sqlite.specs.declared.error.Error.{Error}
use Rattle.sqlite.specs.declared.types.Value.TheVariants.{Null, Int}
use Rattle.sqlite.specs.Order.{Row}
use Rattle.sqlite.specs.Schema.{Schema}
use Rattle.sqlite.specs.Command.TheVariants.{Begin, Commit, Rollback}
use Rattle.sqlite.specs.Does.{Tally, Does}
use Rattle.sqlite.specs.Edit.{edit_of, edited, taken_by}
use Rattle.sqlite.specs.Rowids.TheVariants.{Chosen}
use Rattle.sqlite.specs.Rows.{Written}
use Rattle.sqlite.specs.Tree.{Trees, no_trees, with_tree}
use Rattle.sqlite.specs.Listing.{understood}
use Rattle.sqlite.specs.Effect.{Database}
use Rattle.sqlite.specs.Store.{Ghosts}
use Rattle.sqlite.specs.Held.{Held, state}
use Rattle.sqlite.specs.State.{State, HasCleanDisk, Survives, CommitsBy, Runs, Writes, Executes, mode_of}
use Rattle.sqlite.proofs.Callers.{IsPlain, command_of, statement_of, runs_as, one_step}
use Rattle.sqlite_schema.specs.declared.command.Command.{Command}
use Rattle.sqlite_tied.specs.Compute.{everything}
use Rattle.archive_tables.specs.Schema.{empty_schema, archive_schema, version_table}
use Rattle.archive_model.specs.Records.{Archive}
use Rattle.archive_tables.specs.Tables.{AreArchiveTables, IsArchiveAtRest, archive_in_trees, archive_of, version_rows}
use Rattle.archive_tables.specs.Making.{IsCreatingTables, IsInTransactionWithSchema, IsReadyToCommit, CreatesTables, MigratesSchema, CrashAddsNothingInTransaction, EndsStep, empty_archive}
use Rattle.archive_tables.specs.Statements.{Statement, insert_version_statement}
use Rattle.archive_tables.specs.declared.texts.schema.TheConstants.{VERSION}
use Rattle.archive_tables.proofs.RunLemmas.{passed, value_is, no_action, cast_null, cast_int}
use Rattle.archive_tables.proofs.TableLemmas.{SameBut, same_but, one_changes}
use Rattle.archive_tables.proofs.CauseLemmas.{Fits}
use Rattle.archive_tables.proofs.CrashLemmas.{making_within, within_adds_nothing}
use Rattle.archive_tables.proofs.EndLemmas.{step_ends}
use Rattle.archive_tables.proofs.CreateLemmas.{over, Turns, Extends}
use Rattle.archive_tables.proofs.SchemaLemmas.{IsStep, number_step}

-- ---- one statement more

-- what is so where it ran is so if it answers
pub if_ran : (sql : List ℕ) (params : Row) (old new : State) {Q : Type 0} (r : Result ℕ Error) → Executes sql params old new r
    → ((count : ℕ) → Executes sql params old new (Ok count) → Q) → OnOk r Q
if_ran sql params old new (Ok count) h does = does count h
if_ran sql params old new (Err e) h does = tt

pub runs : {s : Schema} {st : Statement} {k : Command} → IsStep s st k → (old new : State) → old.now.schema ≡ s → (count : ℕ) → Executes st.sql st.parameters old new (Ok count)
    → Runs old new None k st.sql st.parameters count
runs {s} {st} {k} step old new has count h =
    subst (λ text. Runs old new None k text st.parameters count) step.whole (runs_as st.sql st.parameters old new s has k step.is step.knows.plain count h)

-- what it does to a database of that schema
pub changes : {s : Schema} {k : Command} {text : List ℕ} {params : Row} {count : ℕ} (old new : State) → old.now.schema ≡ s → (w : Writes old new None k text params count)
    → Does old.step_limit (mode_of old) params (over s old.now.trees) text None k (Ok (w.tally, new.now))
changes {s} {k} {text} {params} old new has w =
    subst (λ d. Does old.step_limit (mode_of old) params (record old.now { schema = d }) text None k (Ok (w.tally, new.now))) has w.changed

-- within a transaction, whatever the rows are
pub stays_in : {s next : Schema} {st : Statement} {k : Command} → IsStep s st k → Turns k st s next → (old new : State) (before : Database) (count : ℕ)
    → IsInTransactionWithSchema old before s → Executes st.sql st.parameters old new (Ok count) → IsInTransactionWithSchema new before next
stays_in step turns old new before count it h =
    let w = turns.writes old new _ _ count (runs step old new it.schema_is count h) in
    record {
      is_open = w.shown.is_open;
      is_in_transaction = w.shown.mode ∙ it.is_in_transaction;
      committed_is_before = w.shown.committed_is ∙ rw it.is_in_transaction it.committed_is_before;
      schema_is = turns.schema old.step_limit (mode_of old) old.now.trees w.tally new.now (changes old new it.schema_is w);
    }

-- and over tables without rows
pub makes : {s next : Schema} {st : Statement} {k : Command} → IsStep s st k → Extends k st s next → (old new : State) (before : Database) (count : ℕ)
    → IsCreatingTables old s before → Executes st.sql st.parameters old new (Ok count) → IsCreatingTables new next before
makes {s} step extends old new before count it h =
    let w = extends.turns.writes old new _ _ count (runs step old new it.schema_is count h) in
    let within = stays_in step extends.turns old new before count (making_within old before s it) h in
    record {
      is_open = within.is_open;
      is_in_transaction = within.is_in_transaction;
      committed_is_before = within.committed_is_before;
      schema_is = within.schema_is;
      tables_are_empty = extends.empty old.step_limit (mode_of old) old.now.trees w.tally new.now it.tables_are_empty (changes old new it.schema_is w);
    }

-- the clauses of a call that runs it
module _ {S : Type 0} (g : Ghosts S) (old new : Held S) {s : Schema} {st : Statement} {k : Command} (step : IsStep s st k) (r : Result ℕ Error) where
  pub ended : Survives (state g old) (state g new) (CommitsBy st.sql st.parameters (state g old))
      → (HasCleanDisk (state g new) → Executes st.sql st.parameters (state g old) (state g new) r) → CrashAddsNothingInTransaction g old new s × EndsStep g old new r s st
  ended survives h = (
    λ before within. within_adds_nothing st.sql s k step.is step.goes_on st.parameters before (state g old) (state g new) within survives,
    step_ends s st _ r step.knows step.ours survives h,
  )

  module _ (h : HasCleanDisk (state g new) → Executes st.sql st.parameters (state g old) (state g new) r) {next : Schema} where
    pub created : Extends k st s next → CreatesTables g old new r s next
    created extends clean before it = if_ran st.sql st.parameters (state g old) (state g new) r (h clean) (λ count. makes step extends (state g old) (state g new) before count it)

    pub migrated : Turns k st s next → MigratesSchema g old new r s next
    migrated turns clean before it = if_ran st.sql st.parameters (state g old) (state g new) r (h clean) (λ count. stays_in step turns (state g old) (state g new) before count it)

-- ---- the transaction

-- a text that is this command, whatever the schema is
pub record IsAlways (sql : List ℕ) (k : Command) : Type 0 where
  pub is : (s : Schema) → command_of (understood s sql) ≡ k
  pub plain : (s : Schema) → IsPlain (understood s sql)
  pub fits : (s : Schema) → Fits sql 0 (understood s sql)

pub runs_always : {sql : List ℕ} {k : Command} → IsAlways sql k → (old new : State) (count : ℕ) → Executes sql [] old new (Ok count)
    → Runs old new None k (statement_of sql (understood old.now.schema sql)) [] count
runs_always {sql} {k} always old new = runs_as sql [] old new old.now.schema refl k (always.is old.now.schema) (always.plain old.now.schema)

abbrev pub begin_text : List ℕ
begin_text = codes "BEGIN"

pub begin_always : IsAlways begin_text Begin
unfolding understood everything
begin_always = record { is = λ s. refl; plain = λ s. (refl, refl); fits = λ s. (refl, refl) }

pub begins : (old new : State) (count : ℕ) → old.now.schema ≡ empty_schema → Executes begin_text [] old new (Ok count) → IsCreatingTables new empty_schema old.committed
begins old new count has h =
    let ran = runs_always begin_always old new count h in
    record {
      is_open = ran.1.is_open;
      is_in_transaction = ran.1.mode;
      committed_is_before = ran.1.committed_is;
      schema_is = ap (λ (d : Database). d.schema) ran.1.now_is ∙ has;
      tables_are_empty = tt;
    }

abbrev pub commit_text : List ℕ
commit_text = codes "COMMIT"

pub commit_always : IsAlways commit_text Commit
unfolding understood everything
commit_always = record { is = λ s. refl; plain = λ s. (refl, refl); fits = λ s. (refl, refl) }

pub commit_is : command_of (understood archive_schema commit_text) ≡ Commit
commit_is = commit_always.is archive_schema

pub commit_plain : IsPlain (understood archive_schema commit_text)
commit_plain = commit_always.plain archive_schema

pub commits : (old new : State) (before : Database) (archive : Archive) (count : ℕ) → IsReadyToCommit old before archive → Executes commit_text [] old new (Ok count)
    → IsArchiveAtRest new × (archive_of new ≡ archive)
commits old new before archive count k h =
    let ran = runs_always commit_always old new count h in (
      record {
        is_open = ran.1.is_open;
        autocommit = ran.1.mode;
        committed_is = ran.1.committed_is ∙ sym ran.1.now_is;
        schema = ap (λ (d : Database). d.schema) ran.1.now_is ∙ k.schema_is;
        tables = subst (λ (d : Database). AreArchiveTables d.trees) (sym ran.1.now_is) k.are_tables_of_version;
        rollback_leaves_archive = tt;
      },
      ap (λ (d : Database). archive_in_trees d.trees) ran.1.now_is ∙ k.archive_is,
    )

abbrev pub rollback_text : List ℕ
rollback_text = codes "ROLLBACK"

pub rollback_always : IsAlways rollback_text Rollback
unfolding understood everything
rollback_always = record { is = λ s. refl; plain = λ s. (refl, refl); fits = λ s. (refl, refl) }

pub undoes : (old new : State) (count : ℕ) → Executes rollback_text [] old new (Ok count)
    → IsTrue new.is_open → IsTrue old.is_open × (new.now ≡ old.committed) × (new.committed ≡ old.committed) × (new.in_transaction ≡ false)
undoes old new count h up =
    let ran = runs_always rollback_always old new count h in
    (ran.1.was_open up, (ran.1.undone up).0, (ran.1.undone up).1, ran.1.autocommit)

-- ---- the version

pub puts : (db : Trees) (given : List Row) → db 0 ≡ [] → given ≡ (Null ∷ Int VERSION ∷ []) ∷ [] → edited db (edit_of db version_table [] Chosen 0 given) ≡ version_rows VERSION
puts db given none from = rw (from, none, cast_null, cast_int VERSION)

-- no row but that of the version
abbrev only_version : Trees
only_version = with_tree no_trees 0 (version_rows VERSION)

only_version_is : AreArchiveTables only_version
only_version_is = assumption refl

pub makes_whole : (old new : State) (before : Database) (count : ℕ) → IsCreatingTables old archive_schema before → Executes insert_version_statement.sql (Int VERSION ∷ []) old new (Ok count)
    → IsReadyToCommit new before empty_archive
makes_whole old new before count k h =
    let db = old.now.trees in
    let w = runs number_step old new k.schema_is count h in
    let done = passed (changes old new k.schema_is w) in
    let now = ap (λ (it : Tally × Database). it.1) (value_is (passed (passed done.2).2).2) in
    let given = passed done.1 in
    let written = passed (passed given.2).2 in
    let counted = passed written.2 in
    let edit = edit_of db version_table [] Chosen 0 given.0 in
    let applied = one_step archive_schema _ db written.0 edit (no_action 0 (taken_by db edit) edit.news) written.1 in
    let trees : new.now.trees ≡ written.0 =
    ap (λ (d : Database). d.trees) now ∙ ap (λ (it : Written). it.trees) (value_is counted.2) ∙ value_is counted.1 in
    let version : new.now.trees 0 ≡ version_rows VERSION = ap (λ (t : Trees). t 0) trees ∙ applied.rows ∙ puts db given.0 k.tables_are_empty.0 given.1.1 in
    let same = subst (SameBut 0 db) (sym trees) (same_but 0 db written.0 applied.tables) in
    let empty = k.tables_are_empty.1 in
    let rest : SameBut 0 only_version new.now.trees = record {
      version = λ e. version;
      lists = λ e. same.lists e ∙ empty.0;
      persons = λ e. same.persons e ∙ empty.1.0;
      grants = λ e. same.grants e ∙ empty.1.1.0;
      messages = λ e. same.messages e ∙ empty.1.1.1.0;
      options = λ e. same.options e ∙ empty.1.1.1.1.1.0;
      addresses = λ e. same.addresses e ∙ empty.1.1.1.1.1.1.0;
    } in
    let it = one_changes only_version new.now.trees only_version_is 0 (version_rows VERSION) version (tt, tt, tt, tt, tt, tt) VERSION rest version in
    record {
      is_open = w.shown.is_open;
      is_in_transaction = w.shown.mode ∙ k.is_in_transaction;
      committed_is_before = w.shown.committed_is ∙ rw k.is_in_transaction k.committed_is_before;
      schema_is = ap (λ (d : Database). d.schema) now;
      are_tables_of_version = it.0;
      archive_is = it.1;
    }
