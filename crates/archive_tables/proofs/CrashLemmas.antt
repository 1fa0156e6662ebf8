-- What a crash may leave after a statement: what it left before, or what the statement commits.
use Rattle.std.proofs.Common.{◌≡◌, ◌⊎◌, inl, inr, ℕ, ℤ, List, Ok, Err, Result, refl, sym, ap, subst, ◌∙◌, false, Some, None, Option}
use Rattle.std.specs.Prelude.{⊤, IsTrue, unwrap_or}
use Rattle.sqlite.specs.Order.{Row}
use Rattle.sqlite_ast.specs.declared.Statement.{Statement}
use Rattle.sqlite_ast.specs.declared.Statement.TheVariants as written
use Rattle.sqlite_syntax.specs.declared.statement.Parsed.{Parsed}
use Rattle.sqlite_trees.specs.Tree.{Trees}
use Rattle.sqlite_trees.specs.Objects.{catalog_tree}
use Rattle.sqlite_catalog.specs.Listing.{Lists}
use Rattle.sqlite_schema.specs.declared.schema.Schema.{Schema}
use Rattle.sqlite_schema.specs.declared.command.Returning.{Returning}
use Rattle.sqlite_schema.specs.declared.command.Command.{Command}
use Rattle.sqlite_schema.specs.declared.command.Command.TheVariants.{Insert, InsertOr, Update, Delete, Begin, Commit, Rollback, Release}
use Rattle.sqlite_resolve.specs.declared.compiled.Compiled.{Compiled}
use Rattle.sqlite_resolve.specs.Lowering.{Checked}
use Rattle.sqlite_resolve.specs.Compile.{first, returning}
use Rattle.sqlite.specs.Listing.{understood}
use Rattle.sqlite.specs.Effect.{Database}
use Rattle.sqlite.specs.Does.{Tally, Does}
use Rattle.sqlite.specs.declared.run.Mode.{Mode}
use Rattle.sqlite.specs.State.{State, HasCleanDisk, IsLive, Survives, Writes, Runs, MayWrite, MayCommit, CommitsBy}
use Rattle.sqlite.specs.State.{CommitsShowing, ExecutesIn, Executes, text_of, shows_rows, mode_of, Shown, ShowsRows}
use Rattle.sqlite.proofs.Callers.{IsPlain, command_of}
use Rattle.archive_model.specs.Records.{Archive}
use Rattle.archive_tables.specs.Schema.{archive_schema}
use Rattle.archive_tables.specs.Tables.{IsOpenArchive, IsArchiveAtRest, AreArchiveTables, archive_in_trees, archive_of}
use Rattle.archive_tables.specs.Making.{IsCreatingTables, IsInTransactionWithSchema, IsMigratingTables, IsReadyToCommit}
use Rattle.archive_tables.specs.Calls.{CommitsChange}
use Rattle.archive_tables.specs.Crashes.{IsArchiveStored, IsCommitOf, CrashAddsNothing, CrashAddsOnly, CrashAddsOnlyCommit}
use Rattle.sqlite.specs.Store.{Ghosts}
use Rattle.sqlite.specs.Held.{Held, state}
use Rattle.archive_tables.proofs.RunLemmas.{value_is}
use Rattle.archive_tables.proofs.LastLemmas.{compiled_as}
use Rattle.archive_tables.proofs.RefusalLemmas.{WritesRows, WritesNothing, shows_nothing}

-- ---- a question, whatever the schema is

abbrev pub IsQuestion : Statement → Type 0
IsQuestion (written.Select q) = ⊤
IsQuestion _ = ⊥

abbrev pub IsQuestionText : Checked Parsed → Type 0
IsQuestionText (Ok p) = IsQuestion p.statement
IsQuestionText (Err e) = ⊥

returns_none : (schema : Schema) (base : ℕ) (s : Statement) → IsQuestion s → returning schema base s ≡ Ok None
unfolding returning
returns_none schema base (written.Select q) ours = refl
returns_none schema base _ ours = absurd ours

understood_none : (schema : Schema) (sql : List ℕ) (c : Compiled) → IsQuestionText (first sql) → understood schema sql ≡ Ok c → c.returning ≡ None
understood_none schema sql c ours is =
    let it = compiled_as schema sql c is in
    value_is (sym it.returns ∙ returns_none it.schema it.base it.parsed.statement (subst IsQuestionText it.reads ours))

never_shows : (sql : List ℕ) (params : Row) (s : State) (db : Trees) → IsQuestionText (first sql) → ¬ CommitsShowing sql params s db
unfolding CommitsShowing
never_shows sql params s db ours h = absurd (let none = rw (understood_none s.now.schema sql h.0 ours h.1.is) at h.2 in cc)

shown_same : (old new : State) (sql : List ℕ) (c : Compiled) (full : Row) (rows : List Row) (how : Option Returning) → how ≡ None → ShowsRows old new sql c full rows how → new.now ≡ old.now
shown_same old new sql c full rows None none h = h.3.0.now_is
shown_same old new sql c full rows (Some what) none h = absurd cc

-- a question leaves what is seen
pub question_sees : (old new : State) (sql : List ℕ) (params : Row) (rows : List Row) → IsQuestionText (first sql) → Shown sql params old new rows → new.now ≡ old.now
unfolding Shown
question_sees old new sql params rows ours h = shown_same old new sql h.0 _ rows h.0.returning (understood_none old.now.schema sql h.0 ours h.1.is) h.2

pub question_adds_nothing : (old new : State) (sql : List ℕ) (params : Row) → IsQuestionText (first sql) → Survives old new (CommitsShowing sql params old)
    → HasCleanDisk new → (db : Trees) → new.may_leave db → old.may_leave db
question_adds_nothing old new sql params ours s clean db may = elim (s.crash clean db may) [
  | inl before ↦ before
  | inr shows ↦ absurd (never_shows sql params old db ours shows)
]

-- ---- what a statement commits

-- it ends no transaction
abbrev pub EndsNothing : Command → Type 0
EndsNothing Commit = ⊥
EndsNothing (Release name) = ⊥
EndsNothing _ = ⊤

rows_end_nothing : (k : Command) → WritesRows k → EndsNothing k
rows_end_nothing Commit ours = ours
rows_end_nothing (Release name) ours = ours
rows_end_nothing _ ours = tt

no_value : {A E : Type 0} {a : A} {e : E} → ◌≡◌ {A = Result A E} (Ok a) (Err e) → ⊥
no_value is = cc

idle : (limit : Option ℕ) (mode : Mode) (full : Row) (db : Database) (text : List ℕ) (k : Command) (x : Tally × Database) → WritesNothing k → ¬ Does limit mode full db text None k (Ok x)
idle limit mode full db text Begin x ours h = no_value h
idle limit mode full db text Commit x ours h = no_value h
idle limit mode full db text Rollback x ours h = no_value h
idle limit mode full db text _ x ours h = absurd ours

writes_only : (s : State) (how : Option Returning) (k : Command) (text : List ℕ) (full : Row) (db : Trees) → EndsNothing k → MayCommit s how k text full db → MayWrite s how k text full db
writes_only s how k text full db ours may = elim may [
  | inl ends ↦ absurd (elim ends.0 [ inl commit ↦ subst EndsNothing commit ours | inr release ↦ subst EndsNothing release.2 ours ])
  | inr write ↦ write
]

-- ---- a write outside a transaction, as if it had succeeded

module _ (s : State) (up : IsTrue s.is_open) where
  abbrev would : Tally → Database → State
  would tally after = record s { now = after; committed = after; changes = unwrap_or tally.rows s.changes; last_rowid = unwrap_or tally.last s.last_rowid }

  would_write : (how : Option Returning) (k : Command) (text : List ℕ) (full : Row) (db : Trees) (may : MayWrite s how k text full db)
      → Writes s (would may.1 may.2) how k text full (unwrap_or may.1.rows 0)
  would_write how k text full db may = record {
    tally = may.1;
    changed = may.3;
    frozen = may.6;
    sound = may.4;
    shown = record { was_open = up; is_open = up; now_is = refl; committed_is = rw may.0; mode = refl };
    marks = refl;
    counted = refl;
    changes = refl;
    last_rowid = refl;
  }

writes_run : (old new : State) (how : Option Returning) (k : Command) (text : List ℕ) (full : Row) (count : ℕ) → WritesRows k → Writes old new how k text full count
    → Runs old new how k text full count
writes_run old new how (Insert at from) text full count ours w = w
writes_run old new how (InsertOr at way from clauses) text full count ours w = w
writes_run old new how (Update at q) text full count ours w = w
writes_run old new how (Delete at q) text full count ours w = w
writes_run old new how _ text full count ours w = absurd ours

module _ (sql : List ℕ) (k : Command) (is : command_of (understood archive_schema sql) ≡ k) (plain : IsPlain (understood archive_schema sql)) (ours : WritesRows k)
    (params : Row) (change : Archive → Archive) (old new : State) where
  outside : {behind : Option Database} → IsOpenArchive behind old → (db : Trees) → CommitsBy sql params old db → old.in_transaction ≡ false
  unfolding CommitsBy
  outside held db h =
      let known = sym h.1.is ∙ ap (λ s. understood s sql) held.schema in
      let which : h.0.command ≡ k = ap command_of known ∙ is in
      (writes_only old h.0.returning h.0.command _ _ db (rows_end_nothing h.0.command (subst WritesRows (sym which) ours)) h.2).0

  commits : IsArchiveAtRest old → ((next : State) (count : ℕ) → Executes sql params old next (Ok count) → CommitsChange old next change) → (db : Trees) → CommitsBy sql params old db
      → IsArchiveStored (change (archive_of old)) db
  unfolding CommitsBy ExecutesIn
  commits kept does db h =
      let known = sym h.1.is ∙ ap (λ s. understood s sql) kept.schema in
      let bare = subst IsPlain (sym known) plain in
      let which : h.0.command ≡ k = ap command_of known ∙ is in
      let mine = subst WritesRows (sym which) ours in
      let may = writes_only old h.0.returning h.0.command _ _ db (rows_end_nothing h.0.command mine) h.2 in
      let next = would old kept.is_open may.1 may.2 in
      let count = unwrap_or may.1.rows 0 in
      let silent : shows_rows false h.0 ≡ false = shows_nothing h.0.command h.0.returning mine bare.0 in
      let ran : Executes sql params old next (Ok count) = (
        h.0,
        h.1,
        rw silent (writes_run old next h.0.returning h.0.command _ _ count mine
            (would_write old kept.is_open h.0.returning h.0.command _ _ db may)),
      ) in
      let done = does next count ran in
      record {
        lists = subst (λ (t : Trees). Lists (t catalog_tree) archive_schema) (sym may.5) (subst (λ (x : Schema). Lists (may.2.trees catalog_tree) x) done.0.schema may.4.lists);
        tables = subst AreArchiveTables (sym may.5) done.0.tables;
        archive_is = ap archive_in_trees may.5 ∙ done.1;
      }

  pub crash_over : (behind : Option Database) → IsOpenArchive behind old → (IsArchiveAtRest old → (next : State) (count : ℕ) → Executes sql params old next (Ok count) → CommitsChange old next change)
      → Survives old new (CommitsBy sql params old) → HasCleanDisk new → (db : Trees) → new.may_leave db
      → old.may_leave db ⊎ ((behind ≡ None) × IsArchiveStored (change (archive_of old)) db)
  crash_over None held does s clean db may = elim (s.crash clean db may) [
    | inl before ↦ inl before
    | inr made ↦ inr (refl, commits held (does held) db made)
  ]
  crash_over (Some b) held does s clean db may = elim (s.crash clean db may) [
    | inl before ↦ inl before
    | inr made ↦ absurd (let e = sym held.autocommit ∙ outside held db made in cc)
  ]

-- ---- BEGIN, ROLLBACK and COMMIT, whatever the schema is

module _ (sql : List ℕ) (k : Command) (is : (schema : Schema) → command_of (understood schema sql) ≡ k) (plain : (schema : Schema) → IsPlain (understood schema sql)) (ours : WritesNothing k)
    (params : Row) (old new : State) where
  commits_as : (db : Trees) → CommitsBy sql params old db → ((k ≡ Commit) ⊎ ((name : List ℕ) × (k ≡ Release name))) × (db ≡ old.now.trees)
  unfolding CommitsBy
  commits_as db h =
      let which : h.0.command ≡ k = sym (ap command_of h.1.is) ∙ is old.now.schema in
      let none = (subst IsPlain h.1.is (plain old.now.schema)).0 in
      elim h.2 [
        | inl ends ↦ (elim ends.0 [ inl commit ↦ inl (sym which ∙ commit) | inr release ↦ inr (release.0, sym which ∙ release.2) ], ends.1)
        | inr write ↦ absurd (idle old.step_limit (mode_of old) _ old.now (text_of sql h.0) h.0.command (write.1, write.2) (subst WritesNothing (sym which) ours) (rw none at write.3))
      ]

  pub transaction_adds : EndsNothing k → Survives old new (CommitsBy sql params old) → HasCleanDisk new → (db : Trees) → new.may_leave db → old.may_leave db
  transaction_adds quiet s clean db may = elim (s.crash clean db may) [
    | inl before ↦ before
    | inr made ↦ absurd (elim (commits_as db made).0 [ inl commit ↦ subst EndsNothing commit quiet | inr release ↦ subst EndsNothing release.1 quiet ])
  ]

  pub commit_adds : IsLive old → Survives old new (CommitsBy sql params old) → HasCleanDisk new → (db : Trees) → new.may_leave db → old.may_leave db ⊎ IsCommitOf old db
  commit_adds live s clean db may = elim (s.crash clean db may) [
    | inl before ↦ inl before
    | inr made ↦ inr ((commits_as db made).1, live)
  ]

-- ---- within a transaction, over a schema that is known

module _ (sql : List ℕ) (schema : Schema) (k : Command) (is : command_of (understood schema sql) ≡ k) (ours : EndsNothing k) (params : Row) (before : Database) (old new : State)
    (within : IsInTransactionWithSchema old before schema) where
  never_within : (db : Trees) → ¬ CommitsBy sql params old db
  unfolding CommitsBy
  never_within db h =
      let which : h.0.command ≡ k = sym (ap command_of h.1.is) ∙ ap (λ s. command_of (understood s sql)) within.schema_is ∙ is in
      let outside = (writes_only old h.0.returning h.0.command _ _ db (subst EndsNothing (sym which) ours) h.2).0 in
      let e = sym within.is_in_transaction ∙ outside in cc

  pub within_adds_nothing : Survives old new (CommitsBy sql params old) → HasCleanDisk new → (db : Trees) → new.may_leave db → old.may_leave db
  within_adds_nothing s clean db may = elim (s.crash clean db may) [
    | inl earlier ↦ earlier
    | inr made ↦ absurd (never_within db made)
  ]

-- ---- what COMMIT leaves of the tables of an archive

stored_by : (archive : Archive) (s : State) (db : Trees) → IsTrue s.is_open → s.now.schema ≡ archive_schema → AreArchiveTables s.now.trees → archive_in_trees s.now.trees ≡ archive
    → IsCommitOf s db → IsArchiveStored archive db
stored_by archive s db up schema tables same it = record {
  lists = subst (λ (t : Trees). Lists (t catalog_tree) archive_schema) (sym it.0) (subst (λ (x : Schema). Lists (s.now.trees catalog_tree) x) schema (it.1 up).0.lists);
  tables = subst AreArchiveTables (sym it.0) tables;
  archive_is = ap archive_in_trees it.0 ∙ same;
}

-- ---- one call after the other

module _ {S : Type 0} (g : Ghosts S) where
  pub quiet_then : (old mid new : Held S) → CrashAddsNothing g old mid → (HasCleanDisk (state g new) → HasCleanDisk (state g mid)) → CrashAddsNothing g mid new → CrashAddsNothing g old new
  quiet_then old mid new first was last clean db may = first (was clean) db (last clean db may)

  pub adds_as : (old new : Held S) (a b : Archive) → a ≡ b → CrashAddsOnly g old new (IsArchiveStored a) → CrashAddsOnly g old new (IsArchiveStored b)
  adds_as old new a b same adds clean db may = elim (adds clean db may) [ inl before ↦ inl before | inr is ↦ inr (subst (λ x. IsArchiveStored x db) same is) ]

  pub never_adds : (old new : Held S) (before : Database) (Is : Trees → Type 0) → CrashAddsOnly g old new (λ db. (◌≡◌ {A = Option Database} (Some before) None) × Is db) → CrashAddsNothing g old new
  never_adds old new before Is adds clean db may = elim (adds clean db may) [ inl earlier ↦ earlier | inr it ↦ absurd (let e = it.0 in cc) ]

  pub commit_made : (old new : Held S) (before : Database) (archive : Archive) → IsReadyToCommit (state g old) before archive → CrashAddsOnlyCommit g old new
      → CrashAddsOnly g old new (IsArchiveStored archive)
  commit_made old new before archive made crash clean db may = elim (crash clean db may) [
    | inl earlier ↦ inl earlier
    | inr it ↦ inr (stored_by archive (state g old) db made.is_open made.schema_is made.are_tables_of_version made.archive_is it)
  ]

  -- COMMIT of tables that are held
  pub commit_over : (old new : Held S) (before : Database) → IsOpenArchive (Some before) (state g old) → CrashAddsOnlyCommit g old new
      → CrashAddsOnly g old new (IsArchiveStored (archive_of (state g old)))
  commit_over old new before held crash clean db may = elim (crash clean db may) [
    | inl earlier ↦ inl earlier
    | inr it ↦ inr (stored_by (archive_of (state g old)) (state g old) db held.is_open held.schema held.tables refl it)
  ]

-- ---- a transaction that brings tables over

-- what is moved, or made, is within
pub is_within : (s : State) (before : Database) (schema : Schema) (said : ℤ) (number : ℕ) (archive : Archive) → IsMigratingTables s before schema said number archive
    → IsInTransactionWithSchema s before schema
is_within s before schema said number archive k = record { is_open = k.is_open; is_in_transaction = k.is_in_transaction; committed_is_before = k.committed_is_before; schema_is = k.schema_is }

pub making_within : (s : State) (before : Database) (schema : Schema) → IsCreatingTables s schema before → IsInTransactionWithSchema s before schema
making_within s before schema k = record { is_open = k.is_open; is_in_transaction = k.is_in_transaction; committed_is_before = k.committed_is_before; schema_is = k.schema_is }
