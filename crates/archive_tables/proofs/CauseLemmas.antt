-- Why a question is not answered.
use Rattle.std.proofs.Common.{◌≡◌, ◌⊎◌, inl, inr, ℕ, List, [], length, Ok, Err, Result, sym, ap, subst, subst₂, ◌∙◌, true, false, Some, None, Option, append-nil, arith}
use Rattle.std.specs.Prelude.{IsTrue, IsSome, IsUtf8, IfErr, IsErrAnd, OnOk}
use Rattle.std.specs.Option.{IsSomeAnd}
use Rattle.sqlite.specs.declared.error.Error.{Error}
use Rattle.sqlite_trees.specs.declared.error.StoreError.TheVariants.{OutOfMemory, Io, Corrupt, Full, Broken, Unstorable}
use Rattle.sqlite_resolve.specs.declared.compiled.Compiled.{Compiled}
use Rattle.sqlite_resolve.specs.declared.error.CompileError.{CompileError}
use Rattle.sqlite_typing.specs.Types.{accepts_program}
use Rattle.sqlite.specs.Order.{Row}
use Rattle.sqlite.specs.Term.{Term}
use Rattle.sqlite.specs.Tree.{Trees}
use Rattle.sqlite.specs.Query.{Query}
use Rattle.sqlite_schema.specs.declared.schema.Schema.{Schema}
use Rattle.sqlite_sql.specs.Program.{ProgramOverflows}
use Rattle.sqlite_value.specs.declared.keys.Key.{Key}
use Rattle.sqlite.specs.Command.TheVariants.{Select}
use Rattle.sqlite.specs.Effect.{Database, RefusesQuery, RefusesToRead}
use Rattle.sqlite.specs.Listing.{understood, reads_listing, IsSourceOf}
use Rattle.sqlite.specs.State.{State, Fails, IsNotRun, IsNoStatement, FailsToQuery}
use Rattle.sqlite.proofs.Callers.{IsPlain, command_of}
use Rattle.archive_tables.specs.Schema.{archive_schema}
use Rattle.archive_tables.specs.Tables.{IsOpenArchive}
use Rattle.archive_tables.specs.Rows.{out_of_memory_error, IsTextReadError}
use Rattle.archive_tables.specs.Calls.{IsMemoryOrDiskError, LeavesRowsUnchanged, FaultKeepsRowsOrRollsBack}
use Rattle.archive_tables.proofs.SelectLemmas.{plain_query}

-- one statement, with so many parameters
abbrev pub Fits : List ℕ → ℕ → Result Compiled CompileError → Type 0
Fits sql n (Ok c) = (c.tail ≡ length sql) × (length c.names ≡ n)
Fits sql n (Err e) = ⊥

pub no_statement : (s : State) (sql : List ℕ) (params : Row) (e : Error) → Fits sql (length params) (understood s.now.schema sql) → IsPlain (understood s.now.schema sql)
    → IsNoStatement s sql params e → ⊥
no_statement s sql params e fits plain (inl bad) = subst (Fits sql (length params)) bad.1 fits
no_statement s sql params e fits plain (inr it) =
    let c = subst (Fits sql (length params)) it.1 fits in
    let p = subst IsPlain it.1 plain in
    elim it.2 [
      | inl many ↦ many.0 (omega (arith, c.0))
      | inr other ↦ elim other [ inl few ↦ few.0 (sym c.1) | inr timed ↦ timed.0 p.1 ]
    ]

pub fails_by : (old new : State) (e : Error) → IsTrue old.is_open → Fails old new ⊥ e → IsMemoryOrDiskError old new e
fails_by old new e up (OutOfMemory, is, why, back, tells) = inl is
fails_by old new e up (Io, is, why, back, tells) = inr why
fails_by old new e up (Corrupt, is, why, back, tells) = inr why
fails_by old new e up (Full, is, why, back, tells) = inr why
fails_by old new e up (Broken, is, why, back, tells) = absurd (let bad = sym up ∙ why in cc)
fails_by old new e up (Unstorable, is, why, back, tells) = absurd why

module _ (s : Schema) (sql : List ℕ) (body : Query) (names : List (List ℕ)) (is : command_of (understood s sql) ≡ Select (record { lets = []; body = body }) names)
    (plain : IsPlain (understood s sql)) (unlisted : reads_listing s sql ≡ false) (params : Row) (fits : Fits sql (length params) (understood s sql))
    (typed : accepts_program s [] body params ≡ true) (calm : (db : Trees) → ¬ ProgramOverflows db params [] [] body)
    (old new : State) (up : IsTrue old.is_open) (has : old.now.schema ≡ s) (free : old.step_limit ≡ None) where
  never_refused : (e : Error) → RefusesQuery old.step_limit old.now (record { lets = []; body = body }) params e → ⊥
  never_refused e (inl mistyped) =
      absurd (let bad = sym typed ∙ subst (λ x. accepts_program x [] body params ≡ false) has mistyped.1 in cc)
  never_refused e (inr (inl over)) = calm old.now.trees over.1
  never_refused e (inr (inr (code, some))) = absurd (let bad = subst IsSome free some in cc)

  -- whatever the tables are that it reads
  pub schema_question_fails_by : (e : Error) → FailsToQuery sql params old new e → IsMemoryOrDiskError old new e
  unfolding FailsToQuery IsNotRun
  schema_question_fails_by e (inl (inl refused)) = absurd (no_statement old sql params e
      (subst (λ x. Fits sql (length params) (understood x sql)) (sym has) fits) (subst (λ x. IsPlain (understood x sql)) (sym has) plain) refused.0)
  schema_question_fails_by e (inl (inr failed)) = fails_by old new e up failed
  schema_question_fails_by e (inr ran) =
      let known = sym ran.1.is ∙ ap (λ x. understood x sql) has in
      let bare = subst IsPlain (sym known) plain in
      let it = rw (bare.0, bare.1, append-nil params) at ran.2 in
      let db : it.0 ≡ old.now = subst (λ b. IsSourceOf b old.now it.0) (ap (λ x. reads_listing x sql) has ∙ unlisted) it.1 in
      absurd (never_refused e (subst₂ (λ c d. RefusesToRead old.step_limit c d params e) (ap command_of known ∙ is) db it.2))

-- a plain query computes no sum
pub calm : (t : ℕ) (terms shown : List Term) (order : List (Term × Key)) (params : Row) (db : Trees) → ¬ ProgramOverflows db params [] [] (plain_query t terms shown order)
calm t terms shown order params db (inl grouped) = grouped
calm t terms shown order params db (inr (i, row, low, at, none)) = none

module _ (sql : List ℕ) (t : ℕ) (terms shown : List Term) (order : List (Term × Key)) (names : List (List ℕ))
    (is : command_of (understood archive_schema sql) ≡ Select (record { lets = []; body = plain_query t terms shown order }) names) (plain : IsPlain (understood archive_schema sql))
    (unlisted : reads_listing archive_schema sql ≡ false) (params : Row) (fits : Fits sql (length params) (understood archive_schema sql))
    (typed : accepts_program archive_schema [] (plain_query t terms shown order) params ≡ true)
    (old new : State) {behind : Option Database} (k : IsOpenArchive behind old) (free : old.step_limit ≡ None) where
  pub question_fails_by : (e : Error) → FailsToQuery sql params old new e → IsMemoryOrDiskError old new e
  question_fails_by =
      schema_question_fails_by archive_schema sql (plain_query t terms shown order) names is plain unlisted params fits typed (calm t terms shown order params) old new k.is_open k.schema free

-- ---- a result whose error has a cause

-- the exit of a `?`
pub carried : {A E : Type 0} (r : Result A E) (e : E) (Q : E → Type 0) → IsErrAnd r (λ f. f ≡ e) → Q e → IfErr r Q
carried (Ok a) e Q is it = tt
carried (Err f) e Q is it = subst Q (sym is) it

-- nor does it answer
pub answers_none : {A E : Type 0} (r : Result A E) (Q : E → Type 0) (P : Type 0) → IsErrAnd r Q → OnOk r P
answers_none (Ok a) Q P is = absurd is
answers_none (Err f) Q P is = tt

-- what stays rests
pub stays_rests : (behind : Option Database) (old new : State) → LeavesRowsUnchanged behind old new → FaultKeepsRowsOrRollsBack behind old new
stays_rests None old new it = λ up. it
stays_rests (Some db) old new it = λ up. inl it

-- what a row that shows a text says of its fault
pub text_unread : {X : Type 0} (text : X → List ℕ) (found : Option X) (x : X) (e : Error) → found ≡ Some x → IsTextReadError (text x) e
    → (e ≡ out_of_memory_error) ⊎ IsSomeAnd found (λ x. ¬ IsUtf8 (text x))
text_unread text found x e is (inl none) = inl none
text_unread text found x e is (inr bad) = inr (subst (λ o. IsSomeAnd o (λ x. ¬ IsUtf8 (text x))) (sym is) bad.0)

pub good_text_unread : (text : List ℕ) (e : Error) → IsUtf8 text → IsTextReadError text e → e ≡ out_of_memory_error
good_text_unread text e good (inl none) = none
good_text_unread text e good (inr bad) = absurd (bad.0 good)
