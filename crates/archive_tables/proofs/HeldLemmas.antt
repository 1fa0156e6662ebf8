-- A transaction over the tables: BEGIN, COMMIT and ROLLBACK.
use Rattle.std.proofs.Common.{◌≡◌, inl, inr, ℕ, [], length, Ok, Err, Result, arith, refl, sym, ap, subst, ◌∙◌, false, true, Some, None}
use Rattle.std.specs.Prelude.{IsTrue, MatchResult}
use Rattle.std.proofs.lemmas.Bool.{cases_Bool}
use Rattle.sqlite.specs.declared.error.Error.{Error}
use Rattle.sqlite_resolve.specs.declared.compiled.Compiled.{Compiled}
use Rattle.sqlite_resolve.specs.declared.error.CompileError.{CompileError}
use Rattle.sqlite.specs.Command.TheVariants.{Begin, Commit, Rollback}
use Rattle.sqlite.specs.Schema.{Schema}
use Rattle.sqlite.specs.Listing.{understood}
use Rattle.sqlite.specs.Effect.{Database}
use Rattle.sqlite.specs.State.{State, Executes, ExecutesIn, shows_rows, IsNotRun, IsNoStatement, IsRolledBack}
use Rattle.sqlite.proofs.Callers.{IsPlain, command_of, runs_as}
use Rattle.sqlite_tied.specs.Compute.{everything}
use Rattle.archive_tables.specs.Schema.{archive_schema}
use Rattle.archive_tables.specs.Tables.{IsOpenArchive, IsArchiveAtRest, AreArchiveTables}
use Rattle.archive_tables.specs.Making.{IsRolledBackIfOpen, IsRollbackPendingOrDone}
use Rattle.archive_tables.specs.Calls.{LeavesRowsUnchanged, FaultKeepsRowsOrRollsBack, FaultKeepsRows, IsRolledBackTo, IsOpenArchiveOrRolledBack}
use Rattle.archive_tables.proofs.RunLemmas.{execute_fails, rests, kept_at}
use Rattle.archive_tables.proofs.MakeLemmas.{begin_text, commit_text, commit_is, commit_plain, rollback_text, undoes}

-- ---- BEGIN

begin_is : command_of (understood archive_schema begin_text) ≡ Begin
unfolding understood everything
begin_is = refl

begin_plain : IsPlain (understood archive_schema begin_text)
unfolding understood everything
begin_plain = (refl, refl)

pub begins_over : (old new : State) (r : Result ℕ Error) → IsArchiveAtRest old → Executes begin_text [] old new r
    → MatchResult r (λ _. LeavesRowsUnchanged (Some old.now) old new) (λ _. FaultKeepsRows old new)
begins_over old new (Ok count) k h =
    let ran = runs_as begin_text [] old new archive_schema k.schema Begin begin_is begin_plain count h in (
      record {
        is_open = ran.1.is_open;
        autocommit = ran.1.mode;
        committed_is = ran.1.committed_is ∙ k.committed_is;
        schema = rw ran.1.now_is k.schema;
        tables = rw ran.1.now_is k.tables;
        rollback_leaves_archive = (k.schema, k.tables);
      },
      ran.1.now_is,
    )
begins_over old new (Err e) k h = rests old new k (execute_fails old new begin_text [] e h)

-- ---- COMMIT

pub commits_over : (db : Database) (old new : State) (r : Result ℕ Error) → IsOpenArchive (Some db) old → Executes commit_text [] old new r
    → MatchResult r (λ _. LeavesRowsUnchanged None old new) (λ _. FaultKeepsRowsOrRollsBack (Some db) old new)
commits_over db old new (Ok count) k h =
    let ran = runs_as commit_text [] old new archive_schema k.schema Commit commit_is commit_plain count h in
    kept_at new old.now ran.1.is_open ran.1.now_is ran.1.committed_is ran.1.mode k.schema k.tables
commits_over db old new (Err e) k h = rests old new k (execute_fails old new commit_text [] e h)

-- ---- ROLLBACK: whatever it answers, the transaction is over, if the connection is open

abbrev IsRollback : Result Compiled CompileError → Type 0
IsRollback (Ok c) = (c.command ≡ Rollback) × (c.tail ≡ 8) × (c.names ≡ []) × (c.formats ≡ []) × (c.returning ≡ None)
IsRollback (Err e) = ⊥

rollback_whole : (s : Schema) → IsRollback (understood s rollback_text)
unfolding understood everything
rollback_whole s = (refl, refl, refl, refl, refl)

is_statement : (s : State) (e : Error) → IsNoStatement s rollback_text [] e → ⊥
is_statement s e (inl bad) = subst IsRollback bad.1 (rollback_whole s.now.schema)
is_statement s e (inr it) =
    let c = subst IsRollback it.1 (rollback_whole s.now.schema) in
    elim it.2 [
      | inl many ↦ many.0 (omega (arith, c.1))
      | inr other ↦ elim other [ inl few ↦ few.0 (sym (ap length c.2)) | inr timed ↦ timed.0 c.3 ]
    ]

ends : (old new : State) (e : Error) → old.in_transaction ≡ true → Executes rollback_text [] old new (Err e) → IsRolledBack old new
unfolding ExecutesIn IsNotRun
ends old new e within (inl (inl refused)) = absurd (is_statement old e refused.0)
ends old new e within (inl (inr failed)) = failed.3
ends old new e within (inr ran) =
    let c = subst IsRollback ran.1.is (rollback_whole old.now.schema) in
    elim (cases_Bool (shows_rows false ran.0)) [
      | inl shows ↦ absurd (let bad = (rw (c.0, c.4) at shows) in cc)
      | inr silent ↦ elim (rw silent at ran.2) [
        | inl refused ↦ absurd (elim refused.0 [
          | inl misplaced ↦ elim (rw c.0 at misplaced) [
            | inl mode ↦ elim mode.1 [ inl begin ↦ (let bad = begin.0 in cc) | inr other ↦ (let bad = sym within ∙ other.1 in cc) ]
            | inr mark ↦ elim mark.2 [ inl release ↦ cc | inr to ↦ cc ]
          ]
          | inr changed ↦ elim (rw (c.0, c.4) at changed.0) [ inl write ↦ write | inr some ↦ (let bad = some in cc) ]
        ])
        | inr failed ↦ failed.3
      ]
    ]

-- the connection was open, where it is
pub was_open : (old new : State) (r : Result ℕ Error) → Executes rollback_text [] old new r → IsTrue new.is_open → IsTrue old.is_open
was_open old new (Ok count) h up = (undoes old new count h up).0
was_open old new (Err e) h up = elim (execute_fails old new rollback_text [] e h) [ inl same ↦ same.0.was_open | inr undone ↦ undone.was_open up ]

-- ---- to any database

from_within : (before : Database) (old new : State) (r : Result ℕ Error) → old.committed ≡ before → old.in_transaction ≡ true → Executes rollback_text [] old new r → IsRolledBackIfOpen new before
from_within before old new (Ok count) behind within h up =
    let it = undoes old new count h up in
    (it.1 ∙ behind, it.2 ∙ behind, it.3)
from_within before old new (Err e) behind within h up =
    let back = ends old new e within h in
    ((back.undone up).0 ∙ behind, (back.undone up).1 ∙ behind, back.autocommit)

from_outside : (before : Database) (old new : State) (r : Result ℕ Error) → old.committed ≡ before → old.now ≡ before → old.in_transaction ≡ false
    → Executes rollback_text [] old new r → IsRolledBackIfOpen new before
from_outside before old new (Ok count) behind now mode h up =
    let it = undoes old new count h up in
    (it.1 ∙ behind, it.2 ∙ behind, it.3)
from_outside before old new (Err e) behind now mode h up = elim (execute_fails old new rollback_text [] e h) [
  | inl same ↦ (same.0.now_is ∙ now, same.0.committed_is ∙ behind, same.0.mode ∙ mode)
  | inr undone ↦ ((undone.undone up).0 ∙ behind, (undone.undone up).1 ∙ behind, undone.autocommit)
]

pub goes_back_to : (before : Database) (old new : State) (r : Result ℕ Error) → IsRollbackPendingOrDone old before → Executes rollback_text [] old new r → IsRolledBackIfOpen new before
goes_back_to before old new r stopped h up =
    let k = stopped (was_open old new r h up) in
    elim k.1 [
      | inl within ↦ from_within before old new r k.0 within h up
      | inr back ↦ from_outside before old new r k.0 back.0 back.1 h up
    ]

-- ---- to an archive

pub leaves_over : (db : Database) (old new : State) (r : Result ℕ Error) → IsOpenArchiveOrRolledBack db old → Executes rollback_text [] old new r → IsTrue new.is_open → IsRolledBackTo db new
leaves_over db old new r k h up =
    let it = goes_back_to db old new r (λ was. elim (k was) [
      | inl held ↦ (held.committed_is, inl held.autocommit)
      | inr back ↦ (back.0.committed_is ∙ back.1, inr (back.1, back.0.autocommit))
    ]) h up in
    let kept : (db.schema ≡ archive_schema) × AreArchiveTables db.trees = elim (k (was_open old new r h up)) [
      | inl held ↦ held.rollback_leaves_archive
      | inr back ↦ subst (λ (d : Database). (d.schema ≡ archive_schema) × AreArchiveTables d.trees) back.1 (back.0.schema, back.0.tables)
    ] in
    kept_at new db up it.0 it.1 it.2 kept.0 kept.1
