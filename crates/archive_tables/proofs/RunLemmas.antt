-- What a statement leaves, whatever it is.
use Rattle.std.proofs.Common.{◌≡◌, ◌⊎◌, inl, inr, Ok, Err, Result, refl, sym, ap, subst, ◌∙◌, List, [], ℕ, ℤ, Bool, true, false, cond, Option, Some, None}
use Rattle.std.specs.Prelude.{IsTrue, IsErrAnd, MatchResult, length, ◌==◌, if◌then◌else◌}
use Rattle.std.proofs.lemmas.Bool.{cases_Bool}
use Rattle.sqlite.specs.Order.{Row}
use Rattle.sqlite.specs.declared.error.Error.{Error}
use Rattle.sqlite.specs.declared.types.Value.{Value}
use Rattle.sqlite.specs.declared.types.Value.TheVariants.{Null, Int}
use Rattle.sqlite.specs.Cast.{cast}
use Rattle.sqlite.specs.Ops.{unary}
use Rattle.sqlite.specs.Kind.TheVariants.{Integer}
use Rattle.sqlite.specs.Effect.{Database}
use Rattle.sqlite.specs.State.{State, Shows, IsUnchanged, IsRolledBack, IsNotRun, ExecutesIn, Executes, shows_rows, FailsToQuery, FailsToShow, Shown, ShowsRows}
use Rattle.sqlite.specs.Listing.{understood}
use Rattle.sqlite.proofs.Callers.{IsPlain}
use Rattle.sqlite_rules.specs.Action.{works}
use Rattle.sqlite_schema.specs.declared.schema.Keys.TheVariants.{Enforced}
use Rattle.archive_tables.specs.Schema.{archive_schema}
use Rattle.archive_tables.specs.Tables.{IsOpenArchive, AreArchiveTables, committed_database}
use Rattle.archive_tables.specs.Calls.{FaultKeepsRowsOrRollsBack, LeavesRowsUnchanged, IsRolledBackTo}

-- ---- a statement that fails

not_run : (old new : State) (sql : List ℕ) (params : Row) (e : Error) → IsNotRun old new sql params e → IsUnchanged old new ⊎ IsRolledBack old new
unfolding IsNotRun
not_run old new sql params e (inl refused) = inl refused.1
not_run old new sql params e (inr failed) = inr failed.3

-- it changes nothing, or goes back to the last commit
pub execute_fails : (old new : State) (sql : List ℕ) (params : Row) (e : Error) → Executes sql params old new (Err e) → IsUnchanged old new ⊎ IsRolledBack old new
unfolding ExecutesIn
execute_fails old new sql params e (inl stopped) = not_run old new sql params e stopped
execute_fails old new sql params e (inr ran) = elim (cases_Bool (shows_rows false ran.0)) [
  | inl shows ↦ inl ((rw shows at ran.2).1)
  | inr silent ↦ elim (rw silent at ran.2) [ inl refused ↦ inl refused.1 | inr failed ↦ inr failed.3 ]
]

pub query_fails : (old new : State) (sql : List ℕ) (params : Row) (e : Error) → IsPlain (understood old.now.schema sql) → FailsToQuery sql params old new e
    → IsUnchanged old new ⊎ IsRolledBack old new
unfolding FailsToQuery
query_fails old new sql params e plain (inl stopped) = not_run old new sql params e stopped
query_fails old new sql params e plain (inr ran) =
    let none = (subst IsPlain ran.1.is plain).0 in
    inl ((subst (FailsToShow old new sql ran.0 _ e) none ran.2).3)

pub query_leaves : (old new : State) (sql : List ℕ) (params : Row) (rows : List Row) → IsPlain (understood old.now.schema sql) → Shown sql params old new rows → IsUnchanged old new
unfolding Shown
query_leaves old new sql params rows plain ran =
    let none = (subst IsPlain ran.1.is plain).0 in
    (subst (ShowsRows old new sql ran.0 _ rows) none ran.2).3

-- ---- the premise after a call

-- outside a transaction, where this is both seen and committed
pub kept_at : (new : State) (d : Database) → IsTrue new.is_open → new.now ≡ d → new.committed ≡ d → new.in_transaction ≡ false
    → d.schema ≡ archive_schema → AreArchiveTables d.trees → IsRolledBackTo d new
kept_at new d up now committed mode schema tables = (
  record {
    is_open = up;
    autocommit = mode;
    committed_is = committed ∙ sym now;
    schema = rw now schema;
    tables = rw now tables;
    rollback_leaves_archive = tt;
  },
  now,
)

-- a call that changes nothing
pub stays : {behind : Option Database} (old new : State) → IsOpenArchive behind old → IsUnchanged old new → LeavesRowsUnchanged behind old new
stays {behind} old new k same = (
  record {
    is_open = same.0.is_open;
    autocommit = same.0.mode ∙ k.autocommit;
    committed_is = same.0.committed_is ∙ k.committed_is ∙ ap (committed_database behind) (sym same.0.now_is);
    schema = rw same.0.now_is k.schema;
    tables = rw same.0.now_is k.tables;
    rollback_leaves_archive = k.rollback_leaves_archive;
  },
  same.0.now_is,
)

-- a call that goes back to the last commit
pub goes_back : (db : Database) (old new : State) → IsOpenArchive (Some db) old → IsRolledBack old new → IsTrue new.is_open → IsRolledBackTo db new
goes_back db old new k undone up =
    kept_at new db up ((undone.undone up).0 ∙ k.committed_is) ((undone.undone up).1 ∙ k.committed_is) undone.autocommit k.rollback_leaves_archive.0 k.rollback_leaves_archive.1

pub rests : {behind : Option Database} (old new : State) → IsOpenArchive behind old → IsUnchanged old new ⊎ IsRolledBack old new → FaultKeepsRowsOrRollsBack behind old new
rests {behind = None} old new k (inl same) = λ up. stays old new k same
rests {behind = None} old new k (inr undone) = λ up.
    kept_at new old.now up ((undone.undone up).0 ∙ k.committed_is) ((undone.undone up).1 ∙ k.committed_is) undone.autocommit k.schema k.tables
rests {behind = Some db} old new k (inl same) = λ up. inl (stays old new k same)
rests {behind = Some db} old new k (inr undone) = λ up. inr (goes_back db old new k undone up)

-- a write outside a transaction is committed, and one within leaves what is behind
settles : (behind : Option Database) (old new : State) → IsOpenArchive behind old → new.committed ≡ (if old.in_transaction then old.committed else new.now)
    → new.committed ≡ committed_database behind new.now
settles None old new k is = is ∙ rw k.autocommit
settles (Some db) old new k is = is ∙ rw k.autocommit k.committed_is

pub kept_by : {behind : Option Database} (old new : State) → IsOpenArchive behind old → Shows old new new.now (if old.in_transaction then old.committed else new.now) old.in_transaction
    → new.now.schema ≡ archive_schema → AreArchiveTables new.now.trees → IsOpenArchive behind new
kept_by {behind} old new k shown schema tables = record {
  is_open = shown.is_open;
  autocommit = shown.mode ∙ k.autocommit;
  committed_is = settles behind old new k shown.committed_is;
  schema = schema;
  tables = tables;
  rollback_leaves_archive = k.rollback_leaves_archive;
}

-- ---- the parts of a write

-- a part that gave a value did not stop before
pub passed : {B E R : Type 0} {b : B} {Stops : E → Type 0} → ((stop : E) × Stops stop × (Ok b ≡ Err stop)) ⊎ R → R
passed (inl stopped) = absurd (let e = stopped.2 in cc)
passed (inr on) = on

pub value_is : {B E : Type 0} {a b : B} → ◌≡◌ {A = Result B E} (Ok a) (Ok b) → a ≡ b
value_is e = cc

-- no foreign key of the schema acts on another row
pub no_action : (tree : ℕ) (olds news : List Row) → works archive_schema Enforced 0 tree olds news ≡ []
no_action tree olds news = elim (cases_Bool (length news == 0)) [ inl none ↦ rw none | inr some ↦ rw some ]

-- the exit of a `?`
pub on_fault : {A E : Type 0} (Q : E → Type 0) (P : A → Type 0) {R : Type 0} (r : Result A E) → IsErrAnd r Q → R → MatchResult r P (λ _. R)
on_fault Q P (Ok a) h x = absurd h
on_fault Q P (Err e) h x = x

-- ---- a value in an INTEGER column

same_arms : (b : Bool) (x : Value) → cond b x x ≡ x
same_arms true x = refl
same_arms false x = refl

pub cast_null : cast Integer Null ≡ Null
unfolding unary
cast_null = same_arms _ Null

pub cast_int : (n : ℤ) → cast Integer (Int n) ≡ Int n
unfolding unary
cast_int n = same_arms _ (Int n)
