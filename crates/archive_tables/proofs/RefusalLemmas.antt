-- Why a statement that changes something fails, and what it makes where it succeeds, as SQL says it.
use Rattle.std.proofs.Common.{◌≡◌, ◌⊎◌, inl, inr, ℕ, List, [], length, Ok, Err, Result, refl, sym, ap, subst, ◌∙◌, false, Some, None, Option, append-nil}
use Rattle.std.specs.Prelude.{⊤, IsTrue, IsSome, IfErr, OnOk, is_some, ◌||◌, ◌&&◌, not}
use Rattle.sqlite.specs.declared.error.Error.{Error}
use Rattle.sqlite.specs.declared.run.Mode.{Mode}
use Rattle.sqlite_trees.specs.declared.error.StoreError.TheVariants.{OutOfMemory, Io, Corrupt, Full, Broken, Unstorable}
use Rattle.sqlite_resolve.specs.declared.compiled.Compiled.{Compiled}
use Rattle.sqlite_resolve.specs.declared.error.CompileError.{CompileError}
use Rattle.sqlite_schema.specs.declared.schema.Schema.{Schema}
use Rattle.sqlite_schema.specs.declared.command.Command.{Command}
use Rattle.sqlite_schema.specs.declared.command.Command.TheVariants.{Insert, InsertOr, Update, Delete, CreateTable, CreateIndex, Begin, Commit, Rollback}
use Rattle.sqlite_schema.specs.declared.command.Returning.{Returning}
use Rattle.sqlite.specs.Order.{Row}
use Rattle.sqlite.specs.Calls.{IsWrite}
use Rattle.sqlite.specs.Clock.{timed}
use Rattle.sqlite.specs.Does.{Tally, Does}
use Rattle.sqlite.specs.Effect.{Database, is_query}
use Rattle.sqlite.specs.Listing.{understood}
use Rattle.sqlite.specs.State.{State, Fails, IsMisplaced, Runs, Writes, IsNotRun, ExecutesIn, Executes, shows_rows, is_pragma, mode_of, text_of}
use Rattle.sqlite.proofs.Callers.{IsPlain, command_of}
use Rattle.archive_tables.specs.Schema.{archive_schema}
use Rattle.archive_tables.specs.Tables.{IsOpenArchive}
use Rattle.archive_tables.specs.Statements.{Statement, StatementMayEndIn, IsStatementRefused, StatementExecutesTo}
use Rattle.archive_tables.specs.Calls.{IsMemoryOrDiskError}
use Rattle.archive_tables.proofs.CauseLemmas.{Fits, no_statement, fails_by}

-- ---- what a command is

-- it writes rows, and ends no transaction
abbrev pub WritesRows : Command → Type 0
WritesRows (Insert at from) = ⊤
WritesRows (InsertOr at how from clauses) = ⊤
WritesRows (Update at q) = ⊤
WritesRows (Delete at q) = ⊤
WritesRows _ = ⊥

-- it begins or ends a transaction, and writes no row
abbrev pub WritesNothing : Command → Type 0
WritesNothing Begin = ⊤
WritesNothing Commit = ⊤
WritesNothing Rollback = ⊤
WritesNothing _ = ⊥

-- the same, or makes a table or an index
abbrev pub WritesIts : Command → Type 0
WritesIts (Insert at from) = ⊤
WritesIts (InsertOr at how from clauses) = ⊤
WritesIts (Update at q) = ⊤
WritesIts (Delete at q) = ⊤
WritesIts CreateTable = ⊤
WritesIts (CreateIndex at) = ⊤
WritesIts _ = ⊥

rows_are_its : (k : Command) → WritesRows k → WritesIts k
rows_are_its (Insert at from) ours = tt
rows_are_its (InsertOr at how from clauses) ours = tt
rows_are_its (Update at q) ours = tt
rows_are_its (Delete at q) ours = tt
rows_are_its _ ours = absurd ours

-- a statement over this schema, of so many parameters, that shows no row and begins or ends no transaction
pub record KnowsIn (s : Schema) (st : Statement) : Type 0 where
  pub fits : Fits st.sql (length st.parameters) (understood s st.sql)
  pub plain : IsPlain (understood s st.sql)
  pub writes : WritesIts (command_of (understood s st.sql))

-- a statement of the archive's schema, of so many parameters, that writes rows and shows none
pub record Knows (st : Statement) : Type 0 where
  pub fits : Fits st.sql (length st.parameters) (understood archive_schema st.sql)
  pub plain : IsPlain (understood archive_schema st.sql)
  pub writes : WritesRows (command_of (understood archive_schema st.sql))

knows_in : (st : Statement) → Knows st → KnowsIn archive_schema st
knows_in st knows = record { fits = knows.fits; plain = knows.plain; writes = rows_are_its (command_of (understood archive_schema st.sql)) knows.writes }

is_placed : (s : State) (k : Command) (e : Error) → WritesIts k → ¬ IsMisplaced s k e
is_placed s k e ours (inl it) = elim it.1 [
  | inl begin ↦ subst WritesIts begin.0 ours
  | inr ends ↦ elim ends.0 [ inl commit ↦ subst WritesIts commit ours | inr back ↦ subst WritesIts back ours ]
]
is_placed s k e ours (inr it) = elim it.2 [ inl release ↦ subst WritesIts release ours | inr to ↦ subst WritesIts to ours ]

runs_its : (old new : State) (how : Option Returning) (k : Command) (text : List ℕ) (full : Row) (count : ℕ) → WritesIts k → Runs old new how k text full count → Writes old new how k text full count
runs_its old new how (Insert at from) text full count ours w = w
runs_its old new how (InsertOr at way from clauses) text full count ours w = w
runs_its old new how (Update at q) text full count ours w = w
runs_its old new how (Delete at q) text full count ours w = w
runs_its old new how CreateTable text full count ours w = w
runs_its old new how (CreateIndex at) text full count ours w = w
runs_its old new how _ text full count ours w = absurd ours

its_shows_nothing : (k : Command) (how : Option Returning) → WritesIts k → how ≡ None → (is_query k || (not false && (is_pragma k || is_some how))) ≡ false
its_shows_nothing (Insert at from) how ours none = rw none
its_shows_nothing (InsertOr at way from clauses) how ours none = rw none
its_shows_nothing (Update at q) how ours none = rw none
its_shows_nothing (Delete at q) how ours none = rw none
its_shows_nothing CreateTable how ours none = rw none
its_shows_nothing (CreateIndex at) how ours none = rw none
its_shows_nothing _ how ours none = absurd ours

pub shows_nothing : (k : Command) (how : Option Returning) → WritesRows k → how ≡ None → (is_query k || (not false && (is_pragma k || is_some how))) ≡ false
shows_nothing k how ours none = its_shows_nothing k how (rows_are_its k ours) none

-- ---- a write on tables that are held

fails_or_big : (old new : State) (big : Type 0) (e : Error) → IsTrue old.is_open → Fails old new big e → IsMemoryOrDiskError old new e ⊎ big
fails_or_big old new big e up (OutOfMemory, is, why, back, tells) = inl (inl is)
fails_or_big old new big e up (Io, is, why, back, tells) = inl (inr why)
fails_or_big old new big e up (Corrupt, is, why, back, tells) = inl (inr why)
fails_or_big old new big e up (Full, is, why, back, tells) = inl (inr why)
fails_or_big old new big e up (Broken, is, why, back, tells) = absurd (let bad = sym up ∙ why in cc)
fails_or_big old new big e up (Unstorable, is, why, back, tells) = inr why

module _ (s : Schema) (st : Statement) (knows : KnowsIn s st) (old new : State) (up : IsTrue old.is_open) (has : old.now.schema ≡ s) (free : old.step_limit ≡ None) where
  in_schema : (P : Result Compiled CompileError → Type 0) → P (understood s st.sql) → P (understood old.now.schema st.sql)
  in_schema P it = subst (λ x. P (understood x st.sql)) (sym has) it

  -- what is said of the compiled text is said of the statement
  said : (c : Compiled) (full : Row) (out : Result (Tally × Database) (Option Error)) → understood old.now.schema st.sql ≡ Ok c → full ≡ st.parameters
      → Does old.step_limit (mode_of old) full old.now (text_of st.sql c) c.returning c.command out → StatementMayEndIn st old.now out
  said c full out is given it = rw is (rw (free, given) at it)

  step_fails_by : (e : Error) → Executes st.sql st.parameters old new (Err e) → IsMemoryOrDiskError old new e ⊎ IsStatementRefused st old.now
  unfolding ExecutesIn IsNotRun
  step_fails_by e (inl (inl refused)) = absurd (no_statement old st.sql st.parameters e (in_schema (Fits st.sql (length st.parameters)) knows.fits) (in_schema IsPlain knows.plain) refused.0)
  step_fails_by e (inl (inr failed)) = inl (fails_by old new e up failed)
  step_fails_by e (inr ran) =
      let c = ran.0 in
      let bare = subst IsPlain ran.1.is (in_schema IsPlain knows.plain) in
      let ours = subst (λ r. WritesIts (command_of r)) ran.1.is (in_schema (λ r. WritesIts (command_of r)) knows.writes) in
      let full : timed st.parameters c.formats ran.1.now ≡ st.parameters = rw (bare.1, append-nil st.parameters) refl in
      let silent : shows_rows false c ≡ false = its_shows_nothing c.command c.returning ours bare.0 in
      elim (rw silent at ran.2) [
        | inl refused ↦ elim refused.0 [
          | inl misplaced ↦ absurd (is_placed old c.command e ours misplaced)
          | inr may ↦ inr (Some e, said c _ (Err (Some e)) ran.1.is full may.1)
        ]
        | inr failed ↦ elim (fails_or_big old new _ e up failed) [ inl why ↦ inl why | inr big ↦ inr (None, said c _ (Err None) ran.1.is full big) ]
      ]

  step_makes : (count : ℕ) → Executes st.sql st.parameters old new (Ok count) → StatementExecutesTo st old.now new.now
  unfolding ExecutesIn
  step_makes count ran =
      let c = ran.0 in
      let bare = subst IsPlain ran.1.is (in_schema IsPlain knows.plain) in
      let ours = subst (λ r. WritesIts (command_of r)) ran.1.is (in_schema (λ r. WritesIts (command_of r)) knows.writes) in
      let full : timed st.parameters c.formats ran.1.now ≡ st.parameters = rw (bare.1, append-nil st.parameters) refl in
      let silent : shows_rows false c ≡ false = its_shows_nothing c.command c.returning ours bare.0 in
      let w = runs_its old new c.returning c.command _ _ count ours (rw silent at ran.2) in
      (w.tally, said c _ (Ok (w.tally, new.now)) ran.1.is full w.changed)

  pub step_fails : (r : Result ℕ Error) → Executes st.sql st.parameters old new r → IfErr r (λ e. IsMemoryOrDiskError old new e ⊎ IsStatementRefused st old.now)
  step_fails (Ok count) h = tt
  step_fails (Err e) h = step_fails_by e h

  pub step_carries_out : (r : Result ℕ Error) → Executes st.sql st.parameters old new r → OnOk r (StatementExecutesTo st old.now new.now)
  step_carries_out (Ok count) h = step_makes count h
  step_carries_out (Err e) h = tt

module _ (st : Statement) (knows : Knows st) (old new : State) {behind : Option Database} (k : IsOpenArchive behind old) (free : old.step_limit ≡ None) where
  pub write_fails : (r : Result ℕ Error) → Executes st.sql st.parameters old new r → IfErr r (λ e. IsMemoryOrDiskError old new e ⊎ IsStatementRefused st old.now)
  write_fails = step_fails archive_schema st (knows_in st knows) old new k.is_open k.schema free

  pub write_carries_out : (r : Result ℕ Error) → Executes st.sql st.parameters old new r → OnOk r (StatementExecutesTo st old.now new.now)
  write_carries_out = step_carries_out archive_schema st (knows_in st knows) old new k.is_open k.schema free

-- ---- BEGIN, COMMIT and ROLLBACK, whatever the schema is

no_write : (k : Command) → WritesNothing k → ¬ IsWrite k
no_write Begin ours it = it
no_write Commit ours it = it
no_write Rollback ours it = it
no_write _ ours it = absurd ours

never_big : (limit : Option ℕ) (mode : Mode) (full : Row) (db : Database) (text : List ℕ) (k : Command) → WritesNothing k → ¬ Does limit mode full db text None k (Err None)
never_big limit mode full db text Begin ours h = absurd cc
never_big limit mode full db text Commit ours h = absurd cc
never_big limit mode full db text Rollback ours h = absurd cc
never_big limit mode full db text _ ours h = absurd ours

silent_too : (k : Command) (how : Option Returning) → WritesNothing k → how ≡ None → (is_query k || (not false && (is_pragma k || is_some how))) ≡ false
silent_too Begin how ours none = rw none
silent_too Commit how ours none = rw none
silent_too Rollback how ours none = rw none
silent_too _ how ours none = absurd ours

module _ (sql : List ℕ) (k : Command) (is : (schema : Schema) → command_of (understood schema sql) ≡ k) (plain : (schema : Schema) → IsPlain (understood schema sql))
    (fits : (schema : Schema) → Fits sql 0 (understood schema sql)) (ours : WritesNothing k) (old new : State) (up : IsTrue old.is_open) (placed : (e : Error) → ¬ IsMisplaced old k e) where
  transaction_fails_by : (e : Error) → Executes sql [] old new (Err e) → IsMemoryOrDiskError old new e
  unfolding ExecutesIn IsNotRun
  transaction_fails_by e (inl (inl refused)) = absurd (no_statement old sql [] e (fits old.now.schema) (plain old.now.schema) refused.0)
  transaction_fails_by e (inl (inr failed)) = fails_by old new e up failed
  transaction_fails_by e (inr ran) =
      let c = ran.0 in
      let which : c.command ≡ k = sym (ap command_of ran.1.is) ∙ is old.now.schema in
      let mine = subst WritesNothing (sym which) ours in
      let none = (subst IsPlain ran.1.is (plain old.now.schema)).0 in
      let silent : shows_rows false c ≡ false = silent_too c.command c.returning mine none in
      elim (rw silent at ran.2) [
        | inl refused ↦ elim refused.0 [
          | inl misplaced ↦ absurd (placed e (subst (λ j. IsMisplaced old j e) which misplaced))
          | inr may ↦ elim may.0 [ inl write ↦ absurd (no_write c.command mine write) | inr shows ↦ absurd (let some = subst IsSome none shows in cc) ]
        ]
        | inr failed ↦ elim (fails_or_big old new _ e up failed) [
          | inl why ↦ why
          | inr big ↦ absurd (never_big old.step_limit (mode_of old) _ old.now (text_of sql c) c.command mine (rw none at big))
        ]
      ]

  pub transaction_fails : (r : Result ℕ Error) → Executes sql [] old new r → IfErr r (IsMemoryOrDiskError old new)
  transaction_fails (Ok count) h = tt
  transaction_fails (Err e) h = transaction_fails_by e h
