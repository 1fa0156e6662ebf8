-- What a statement does to a connection, whatever the tables are and whatever it answers.
use Rattle.std.proofs.Common.{◌≡◌, ◌⊎◌, inl, inr, ℕ, ◌+◌, List, [], length, Ok, Err, Result, refl, ap, subst, ◌∙◌, true, false, Bool, Some, None, Option, arith}
use Rattle.std.specs.Prelude.{⊤, IsTrue, IfOk, IfErr, OnOk, Vec, if◌then◌else◌, ◌==◌, ◌&&◌, not}
use Rattle.std.specs.declared.alloc.Global.{Global}
use Rattle.std.proofs.lemmas.Bool.{cases_Bool}
use Rattle.sqlite.specs.Order.{Row}
use Rattle.sqlite.specs.declared.error.Error.{Error}
use Rattle.sqlite_ast.specs.declared.Statement.{Statement}
use Rattle.sqlite_ast.specs.declared.Statement.TheVariants as written
use Rattle.sqlite_ast.specs.declared.Conflict.TheVariants as conflict
use Rattle.sqlite_ast.specs.declared.Expr.{Expr}
use Rattle.sqlite_ast.specs.declared.Rows.{Rows as NewRows}
use Rattle.sqlite_ast.specs.declared.Upsert.{Upsert}
use Rattle.sqlite_ast.specs.declared.CreateTable.{CreateTable as MadeTable}
use Rattle.sqlite_ast.specs.declared.CreateIndex.{CreateIndex as MadeIndex}
use Rattle.sqlite_schema.specs.declared.command.Conflict.{Conflict}
use Rattle.sqlite_schema.specs.declared.command.Conflict.TheVariants as how
use Rattle.sqlite_syntax.specs.declared.statement.Parsed.{Parsed}
use Rattle.sqlite_trees.specs.Tree.{Trees}
use Rattle.sqlite_schema.specs.declared.schema.Schema.{Schema}
use Rattle.sqlite_schema.specs.declared.schema.Table.{Table}
use Rattle.sqlite_schema.specs.declared.command.Returning.{Returning}
use Rattle.sqlite_schema.specs.declared.command.Command.{Command}
use Rattle.sqlite_schema.specs.declared.command.Command.TheVariants.{Select, CreateTable, Begin, Commit, Rollback, Savepoint as Save, Release, RollbackTo, Nothing, Rows}
use Rattle.sqlite_resolve.specs.declared.compiled.Compiled.{Compiled}
use Rattle.sqlite_resolve.specs.declared.error.CompileError.TheVariants.{NoSuchTable, Unsupported}
use Rattle.sqlite_resolve.specs.Lowering.{Checked, and_then}
use Rattle.sqlite_resolve.specs.Scope.{Name}
use Rattle.sqlite_resolve.specs.Body.{table_at}
use Rattle.sqlite_resolve.specs.Program.{program}
use Rattle.sqlite_resolve.specs.Write.{updated, deleted}
use Rattle.sqlite_resolve.specs.Given.{upserts}
use Rattle.sqlite_resolve.specs.Define as define
use Rattle.sqlite_resolve.specs.Compile.{first, with_command, meaning, planned, compiled, command, insert, insert_or, insert_or_abort, update, delete, create_table}
use Rattle.sqlite_resolve.specs.Compile.{create_index, is_attached, is_reserved, target, on_table, new_rows, returning, timed, small}
use Rattle.sqlite.specs.Listing.{understood, reads_listing, listing_schema, if_select, is_select}
use Rattle.sqlite.specs.State.{State, HasCleanDisk, Survives, Runs, IsUnchanged, IsRolledBack, ExecutesIn, Executes, shows_rows, Shown, ShowsRows, FailsToShow, FailsToQuery, IsNotRun}
use Rattle.archive_tables.specs.Calls.{ClosesOnlyByFault, KeepsConnectionUnlessDiskFails}
use Rattle.archive_tables.proofs.RunLemmas.{execute_fails, value_is}

-- ---- one call after the other

pub shut_then : (a b c : State) → ClosesOnlyByFault a b → ClosesOnlyByFault b c → (HasCleanDisk c → HasCleanDisk b) → ClosesOnlyByFault a c
shut_then a b c p q was = record {
  faults_never_fall = omega (arith, p.faults_never_fall, q.faults_never_fall);
  stays_open = λ clean up. elim (p.stays_open (was clean) up) [
    | inl still ↦ elim (q.stays_open clean still) [ inl open_ ↦ inl open_ | inr more ↦ inr (omega (arith, more, p.faults_never_fall)) ]
    | inr more ↦ inr (omega (arith, more, q.faults_never_fall))
  ];
}

pub lasts_then : (a b c : State) → KeepsConnectionUnlessDiskFails a b → KeepsConnectionUnlessDiskFails b c → KeepsConnectionUnlessDiskFails a c
lasts_then a b c p q = record {
  disk_was_clean = λ clean. p.disk_was_clean (q.disk_was_clean clean);
  closes_only_by_fault = shut_then a b c p.closes_only_by_fault q.closes_only_by_fault q.disk_was_clean;
  closed_stays_closed = λ clean up. p.closed_stays_closed (q.disk_was_clean clean) (q.closed_stays_closed clean up);
  step_limit_is_same = q.step_limit_is_same ∙ p.step_limit_is_same;
}

pub lasts_same : (s : State) → KeepsConnectionUnlessDiskFails s s
lasts_same s = record {
  disk_was_clean = λ clean. clean;
  closes_only_by_fault = record { faults_never_fall = omega arith; stays_open = λ clean up. inl up };
  closed_stays_closed = λ clean up. up;
  step_limit_is_same = refl;
}

-- ---- a statement

same_or_back : (old new : State) → IsUnchanged old new ⊎ IsRolledBack old new → IsTrue new.is_open → IsTrue old.is_open
same_or_back old new (inl same) up = same.0.was_open
same_or_back old new (inr undone) up = undone.was_open up

survives_lasts : (old new : State) (P : Trees → Type 0) → Survives old new P → (HasCleanDisk new → IsTrue new.is_open → IsTrue old.is_open) → KeepsConnectionUnlessDiskFails old new
survives_lasts old new P s shut = record {
  disk_was_clean = λ clean. omega (arith, s.clean, clean);
  closes_only_by_fault = record { faults_never_fall = s.counts; stays_open = s.closes };
  closed_stays_closed = shut;
  step_limit_is_same = s.limit;
}

-- what ran found the connection open, and only ROLLBACK leaves it open or shut
module _ (old new : State) (how : Option Returning) (text : List ℕ) (params : Row) (count : ℕ) where
  ran_open : (k : Command) → Runs old new how k text params count → (k ≡ Rollback) ⊎ IsTrue old.is_open
  ran_open (Select q names) h = absurd h
  ran_open Begin h = inr h.1.was_open
  ran_open Commit h = inr h.1.was_open
  ran_open Rollback h = inl refl
  ran_open (Save name) h = inr h.0.0.was_open
  ran_open (Release name) h = inr (elim h.2 [ inl commits ↦ commits.1.0.was_open | inr drops ↦ drops.1.0.was_open ])
  ran_open (RollbackTo name) h = inr h.2.2.was_open
  ran_open (Rows values width names) h = inr h.0.0.was_open
  ran_open Nothing h = inr h.0.0.was_open
  ran_open _ h = inr h.shown.was_open

  ran_up : (k : Command) → Runs old new how k text params count → IsTrue new.is_open → IsTrue old.is_open
  ran_up k h up = elim (ran_open k h) [
    | inl is ↦ (let back = subst (λ j. Runs old new how j text params count) is h in back.1.was_open up)
    | inr was ↦ was
  ]

-- ---- the command of a text of these kinds is not ROLLBACK, whatever the schema is

abbrev pub IsOurs : Statement → Type 0
IsOurs written.Begin = ⊤
IsOurs written.Commit = ⊤
IsOurs (written.Insert conflict.Abort name columns rows clauses shown) = ⊤
IsOurs (written.Update name sets test shown) = ⊤
IsOurs (written.Delete name test shown) = ⊤
IsOurs (written.CreateTable def) = ⊤
IsOurs (written.CreateIndex def) = ⊤
IsOurs _ = ⊥

abbrev pub IsOurText : Checked Parsed → Type 0
IsOurText (Ok p) = IsOurs p.statement
IsOurText (Err e) = ⊥

abbrev IsOther : Command → Type 0
IsOther Rollback = ⊥
IsOther _ = ⊤

abbrev GivesOther : Checked Command → Type 0
GivesOther (Ok k) = IsOther k
GivesOther (Err e) = ⊤

then_other : {A : Type 0} (r : Checked A) (f : A → Checked Command) → ((a : A) → GivesOther (f a)) → GivesOther (and_then r f)
then_other (Ok a) f each = each a
then_other (Err e) f each = tt

one_other : (t : Bool) (x y : Checked Command) → GivesOther x → GivesOther y → GivesOther (if t then x else y)
one_other true x y one two = one
one_other false x y one two = two

module _ (schema : Schema) where
  table_other : (name : Name) (f : ℕ → Table → Checked Command) → ((at : ℕ) (table : Table) → GivesOther (f at table)) → GivesOther (on_table schema name f)
  table_other name f each = then_other (target schema name) (λ at. and_then (table_at schema at) (f at)) (λ at. then_other (table_at schema at) (f at) (each at))

  insert_other : (base : ℕ) (name : Name) (columns : List Name) (rows : NewRows) → GivesOther (insert schema base name columns rows)
  unfolding insert
  insert_other base name columns rows = table_other name _ (λ at table. then_other (new_rows schema table base columns rows) _ (λ s. tt))

  insert_or_other : (base : ℕ) (way : Conflict) (name : Name) (columns : List Name) (rows : NewRows) (clauses : List Upsert) → GivesOther (insert_or schema base way name columns rows clauses)
  unfolding insert_or
  insert_or_other base way name columns rows clauses =
      table_other name _ (λ at table. then_other (new_rows schema table base columns rows) _ (λ s. then_other (upserts schema at table base clauses) _ (λ found. tt)))

  update_other : (name : Name) (sets : List (Name × Expr)) (test : Option Expr) → GivesOther (update schema name sets test)
  unfolding update
  update_other name sets test = table_other name _ (λ at table. then_other (updated schema at table sets test) _ (λ d. then_other (program schema [] d) _ (λ p. tt)))

  delete_other : (name : Name) (test : Option Expr) → GivesOther (delete schema name test)
  unfolding delete
  delete_other name test = table_other name _ (λ at table. then_other (deleted schema at table test) _ (λ d. then_other (program schema [] d) _ (λ p. tt)))

  -- an object is new, or is there
  abbrev if_new : Checked Command → Bool → Checked Command
  if_new made is_new = if is_new then made else Ok Nothing

  new_other : (there : Checked Bool) (made : Checked Command) → GivesOther made → GivesOther (and_then there (if_new made))
  new_other there made other = then_other there (if_new made) (λ is_new. one_other is_new made (Ok Nothing) other tt)

  create_table_other : (formats : List Name) (def : MadeTable) → GivesOther (create_table schema formats def)
  unfolding create_table
  create_table_other formats def =
      one_other (is_attached schema def.name) _ _ tt
      (new_other _ _ (then_other (define.table formats def) _ (λ t. one_other (length t.computed == length t.stamps.places && not def.resolves) (Ok CreateTable) (Err Unsupported) tt tt)))

  create_index_other : (def : MadeIndex) → GivesOther (create_index schema def)
  unfolding create_index
  create_index_other def = one_other (is_reserved def.table) _ _ tt (table_other def.table _ (λ at table. new_other _ _ (then_other (define.index table def) _ (λ _. tt))))

  command_other : (formats : List Name) (base : ℕ) (s : Statement) → IsOurs s → GivesOther (command schema formats base s)
  unfolding command insert_or_abort
  command_other formats base written.Begin ours = tt
  command_other formats base written.Commit ours = tt
  command_other formats base (written.Insert conflict.Abort name columns rows clauses shown) ours =
      one_other (length clauses == 0) (insert schema base name columns rows) (insert_or schema base how.Abort name columns rows clauses)
      (insert_other base name columns rows) (insert_or_other base how.Abort name columns rows clauses)
  command_other formats base (written.Update name sets test shown) ours = update_other name sets test
  command_other formats base (written.Delete name test shown) ours = delete_other name test
  command_other formats base (written.CreateTable def) ours = create_table_other formats def
  command_other formats base (written.CreateIndex def) ours = create_index_other def
  command_other formats base _ ours = absurd ours

-- ---- how a text is compiled, whatever the schema is

pub record CompiledAs (sql : List ℕ) (c : Compiled) : Type 0 where
  pub parsed : Parsed
  pub reads : first sql ≡ Ok parsed
  pub schema : Schema
  pub base : ℕ
  pub returns : returning schema base parsed.statement ≡ Ok c.returning
  pub commands : command schema parsed.formats base parsed.statement ≡ Ok c.command

then_gives : {A B : Type 0} {X : Type 0} (r : Checked A) (f : A → Checked B) (b : B) → and_then r f ≡ Ok b → ((a : A) → r ≡ Ok a → f a ≡ Ok b → X) → X
then_gives (Ok a) f b is next = next a refl is
then_gives (Err e) f b is next = absurd cc

from_parsed : (sql : List ℕ) (schema : Schema) (c : Compiled) (r : Checked Parsed) → first sql ≡ r → and_then r (λ p. and_then (planned schema p) (λ plan. Ok (with_command p plan))) ≡ Ok c
    → CompiledAs sql c
unfolding planned meaning
from_parsed sql schema c (Err e) reads is = absurd cc
from_parsed sql schema c (Ok p) reads is =
    let formats = timed schema p.formats p.statement in
    let base = small p.names + small formats in
    then_gives (planned schema p) (λ plan. Ok (with_command p plan)) c is (λ plan plans made.
    then_gives (meaning schema p base) (λ (found : Command × Option Returning). Ok (formats, found)) plan plans (λ found means given.
    then_gives (returning schema base p.statement) (λ (shown : Option Returning). and_then (command schema p.formats base p.statement) (λ k. Ok (k, shown))) found means (λ shown shows rest.
    then_gives (command schema p.formats base p.statement) (λ k. Ok (k, shown)) found rest (λ k commands pair.
    let same : found ≡ plan.1 = ap (λ (x : List Name × (Command × Option Returning)). x.1) (value_is given) in
    let shown_is : shown ≡ c.returning =
    ap (λ (x : Command × Option Returning). x.1) (value_is pair ∙ same) ∙ ap (λ (x : Compiled). x.returning) (value_is made) in
    let command_is : k ≡ c.command =
    ap (λ (x : Command × Option Returning). x.0) (value_is pair ∙ same) ∙ ap (λ (x : Compiled). x.command) (value_is made) in
    record { parsed = p; reads = reads; schema = schema; base = base; returns = shows ∙ ap Ok shown_is; commands = commands ∙ ap Ok command_is }))))

select_gives : (r : Checked Compiled) (c : Compiled) → if_select r ≡ Ok c → r ≡ Ok c
select_gives (Ok d) c is = one_of (is_select d.command) is
  where
    one_of : (t : Bool) → (if t then Ok d else Err NoSuchTable) ≡ Ok c → ◌≡◌ {A = Checked Compiled} (Ok d) (Ok c)
    one_of true same = same
    one_of false bad = absurd cc
select_gives (Err e) c is = absurd cc

pub compiled_as : (schema : Schema) (sql : List ℕ) (c : Compiled) → understood schema sql ≡ Ok c → CompiledAs sql c
unfolding understood compiled
compiled_as schema sql c is = one_of (reads_listing schema sql) is
  where
    one_of : (t : Bool) → (if t then if_select (compiled listing_schema sql) else compiled schema sql) ≡ Ok c → CompiledAs sql c
    one_of true listing = from_parsed sql listing_schema c (first sql) refl (select_gives _ c listing)
    one_of false here = from_parsed sql schema c (first sql) refl here

understood_other : (schema : Schema) (sql : List ℕ) (c : Compiled) → IsOurText (first sql) → understood schema sql ≡ Ok c → IsOther c.command
understood_other schema sql c ours is =
    let it = compiled_as schema sql c is in
    subst GivesOther it.commands (command_other it.schema it.parsed.formats it.base it.parsed.statement (subst IsOurText it.reads ours))

-- only ROLLBACK is answered where the connection is shut
module _ (old new : State) (sql : List ℕ) (params : Row) where
  ran : (count : ℕ) → Executes sql params old new (Ok count) → (c : Compiled) × (understood old.now.schema sql ≡ Ok c) × ((c.command ≡ Rollback) ⊎ IsTrue old.is_open)
      × (IsTrue new.is_open → IsTrue old.is_open)
  unfolding ExecutesIn
  ran count h = elim (cases_Bool (shows_rows false h.0)) [
    | inl shows ↦ absurd (let e = (rw shows at h.2).0 in cc)
    | inr silent ↦
        let it = rw silent at h.2 in
        (h.0, h.1.is, ran_open old new h.0.returning _ _ count h.0.command it, ran_up old new h.0.returning _ _ count h.0.command it)
  ]

  executes_up : (r : Result ℕ Error) → Executes sql params old new r → IsTrue new.is_open → IsTrue old.is_open
  executes_up (Ok count) h up = (ran count h).3 up
  executes_up (Err e) h up = same_or_back old new (execute_fails old new sql params e h) up

  pub execute_lasts : (P : Trees → Type 0) (r : Result ℕ Error) → Survives old new P → (HasCleanDisk new → Executes sql params old new r) → KeepsConnectionUnlessDiskFails old new
  execute_lasts P r s runs = survives_lasts old new P s (λ clean up. executes_up r (runs clean) up)

  pub execute_open : (r : Result ℕ Error) → IsOurText (first sql) → Executes sql params old new r → OnOk r (IsTrue old.is_open)
  execute_open (Ok count) ours h = let it = ran count h in elim it.2 [ inl back ↦ absurd (subst IsOther back (understood_other old.now.schema sql it.0 ours it.1)) | inr was ↦ was ]
  execute_open (Err e) ours h = tt

-- ---- a query

module _ (old new : State) (sql : List ℕ) (params : Row) where
  rows_open : (c : Compiled) (full : Row) (rows : List Row) (how : Option Returning) → ShowsRows old new sql c full rows how → IsTrue old.is_open
  rows_open c full rows None h = h.3.0.was_open
  rows_open c full rows (Some what) h = h.1.shown.was_open

  fails_up : (c : Compiled) (full : Row) (e : Error) (how : Option Returning) → FailsToShow old new sql c full e how → IsTrue new.is_open → IsTrue old.is_open
  fails_up c full e None h up = h.3.0.was_open
  fails_up c full e (Some what) (inl refused) up = refused.1.0.was_open
  fails_up c full e (Some what) (inr failed) up = failed.3.was_open up

  pub shown_open : (rows : List Row) → Shown sql params old new rows → IsTrue old.is_open
  unfolding Shown
  shown_open rows h = rows_open h.0 _ rows h.0.returning h.2

  query_fails_up : (e : Error) → FailsToQuery sql params old new e → IsTrue new.is_open → IsTrue old.is_open
  unfolding FailsToQuery IsNotRun
  query_fails_up e (inl (inl refused)) up = refused.1.0.was_open
  query_fails_up e (inl (inr failed)) up = failed.3.was_open up
  query_fails_up e (inr went) up = fails_up went.0 _ e went.0.returning went.2 up

  query_up : (r : Result (Vec Row Global) Error) → IfOk r (λ rows. Shown sql params old new rows.items) → IfErr r (FailsToQuery sql params old new)
      → IsTrue new.is_open → IsTrue old.is_open
  query_up (Ok rows) ok err up = shown_open rows.items ok
  query_up (Err e) ok err up = query_fails_up e err up

  pub query_lasts : (P : Trees → Type 0) (r : Result (Vec Row Global) Error) → Survives old new P → (HasCleanDisk new → IfOk r (λ rows. Shown sql params old new rows.items))
      → (HasCleanDisk new → IfErr r (FailsToQuery sql params old new)) → KeepsConnectionUnlessDiskFails old new
  query_lasts P r s ok err = survives_lasts old new P s (λ clean up. query_up r (ok clean) (err clean) up)

  pub query_open : (r : Result (Vec Row Global) Error) → IfOk r (λ rows. Shown sql params old new rows.items) → OnOk r (IsTrue old.is_open)
  query_open (Ok rows) ok = shown_open rows.items ok
  query_open (Err e) ok = tt
