-- The question on `version`.
use Rattle.std.proofs.Common.{◌≡◌, ℕ, zero, suc, arith, List, [], ◌∷◌, codes, refl, sym, subst, ◌∙◌, ◌⊎◌, inl, inr, None, Ok, Err, Result}
use Rattle.std.specs.Prelude.{IsTrue, Option, Vec, IfOk, IfErr, OnOk, MatchResult}
use Rattle.std.specs.declared.alloc.Global.{Global}
use Rattle.std.specs.List.Sorted.{IsPermutation}
use Rattle.sqlite.specs.declared.error.Error.{Error}
use Rattle.sqlite.specs.declared.types.Value.TheVariants.{Null, Int}
use Rattle.sqlite.specs.Order.{Row}
use Rattle.sqlite.specs.Term.{Term, col}
use Rattle.sqlite.specs.Schema.{Schema}
use Rattle.sqlite.specs.Program.{overlay}
use Rattle.sqlite.specs.Listing.{understood}
use Rattle.sqlite.specs.Effect.{Database}
use Rattle.sqlite.specs.State.{State, Shown, FailsToQuery, IsUnchanged, IsRolledBack}
use Rattle.sqlite.proofs.Callers.{IsPlain, reads_as}
use Rattle.sqlite_tied.specs.Compute.{everything}
use Rattle.archive_tables.specs.Schema.{schema_1, schema_2, archive_schema, schema_of_version}
use Rattle.archive_tables.specs.Tables.{IsOpenArchive, IsKnownVersion, HasSchemaOfFormat, format_of_version, version_rows}
use Rattle.archive_tables.specs.Rows.{version_result_rows}
use Rattle.archive_tables.specs.Making.{IsRolledBackIfOpen}
use Rattle.archive_tables.specs.declared.texts.schema.TheConstants.{VERSION}
use Rattle.archive_tables.specs.Calls.{LeavesRowsUnchanged, FaultKeepsRowsOrRollsBack, IsMemoryOrDiskError}
use Rattle.archive_tables.proofs.RunLemmas.{query_fails, query_leaves}
use Rattle.archive_tables.proofs.SelectLemmas.{plain_query, by_number, Picks, in_order, picks_of, picks_all}
use Rattle.archive_tables.proofs.CauseLemmas.{calm, schema_question_fails_by}
use Rattle.archive_tables.proofs.QuestionLemmas.{IsQuestion, answers, fault_rests, fault_caused}

abbrev pub number_text : List ℕ
number_text = codes "SELECT number FROM version ORDER BY rowid"

abbrev number_cell : List Term
number_cell = col 1 1 ∷ []

only_version : (rows picked : List Row) → rows ≡ version_rows VERSION → Picks (plain_query 0 [] number_cell by_number) [] rows picked → picked ≡ (Int VERSION ∷ []) ∷ []
only_version rows picked are it = in_order 0 [] number_cell [] (version_rows VERSION) picked (tt, tt) (subst (λ l. Picks (plain_query 0 [] number_cell by_number) [] l picked) are it)

-- ---- the tables of each version

abbrev Reads : Schema → Type 0
Reads s = IsQuestion s number_text 0 [] number_cell by_number (codes "number" ∷ []) []

read_1 : Reads schema_1
unfolding understood everything
read_1 = record { is = refl; unlisted = refl; plain = (refl, refl); fits = (refl, refl); typed = refl; low = λ trees. refl }

read_2 : Reads schema_2
unfolding understood everything
read_2 = record { is = refl; unlisted = refl; plain = (refl, refl); fits = (refl, refl); typed = refl; low = λ trees. refl }

read_3 : Reads archive_schema
unfolding understood everything
read_3 = record { is = refl; unlisted = refl; plain = (refl, refl); fits = (refl, refl); typed = refl; low = λ trees. refl }

reads_each : (number : ℕ) → IsKnownVersion number → Reads (schema_of_version number)
reads_each zero known = absurd (omega (arith, known.at_least_one))
reads_each (suc zero) known = read_1
reads_each (suc (suc zero)) known = read_2
reads_each (suc (suc (suc zero))) known = read_3
reads_each (suc (suc (suc (suc n)))) known = absurd (omega (arith, known.at_most_newest))

module _ (old new : State) (number : ℕ) (known : IsKnownVersion number) (o : HasSchemaOfFormat (format_of_version number) old) where
  reads : Reads (schema_of_version number)
  reads = reads_each number known

  -- whatever the rows are, their numbers are shown
  pub numbers_found : (r : Result (Vec Row Global) Error) → IfOk r (λ rows. Shown number_text [] old new rows.items) → IfOk r (λ rows. IsPermutation (version_result_rows old.now.trees) rows.items)
  numbers_found (Ok rows) ok =
      let read = reads_as number_text [] old new (schema_of_version number) o.schema _ reads.is reads.plain reads.unlisted rows.items ok in
      picks_all (plain_query 0 [] number_cell by_number) [] (old.now.trees 0) rows.items refl
      (picks_of 0 [] number_cell by_number (overlay old.now.trees []) [] rows.items (read.answer Null))
  numbers_found (Err e) ok = tt

  -- and whatever it answers, it changes nothing
  as_it_was : IsUnchanged old new ⊎ IsRolledBack old new → IsRolledBackIfOpen new old.now
  as_it_was (inl same) up = (same.0.now_is, same.0.committed_is ∙ o.committed_is_now, same.0.mode ∙ o.autocommit)
  as_it_was (inr undone) up = ((undone.undone up).0 ∙ o.committed_is_now, (undone.undone up).1 ∙ o.committed_is_now, undone.autocommit)

  is_plain : IsPlain (understood old.now.schema number_text)
  is_plain = subst (λ s. IsPlain (understood s number_text)) (sym o.schema) reads.plain

  pub numbers_leave : (r : Result (Vec Row Global) Error) → IfOk r (λ rows. Shown number_text [] old new rows.items) → IfErr r (FailsToQuery number_text [] old new) → IsRolledBackIfOpen new old.now
  numbers_leave (Ok rows) ok err = as_it_was (inl (query_leaves old new number_text [] rows.items is_plain ok))
  numbers_leave (Err e) ok err = as_it_was (query_fails old new number_text [] e is_plain err)

  pub numbers_open : (r : Result (Vec Row Global) Error) → IfOk r (λ rows. Shown number_text [] old new rows.items) → OnOk r (IsTrue new.is_open)
  numbers_open (Ok rows) ok = (query_leaves old new number_text [] rows.items is_plain ok).0.is_open
  numbers_open (Err e) ok = tt

  pub numbers_caused : old.step_limit ≡ None → (r : Result (Vec Row Global) Error) → IfErr r (FailsToQuery number_text [] old new) → IfErr r (IsMemoryOrDiskError old new)
  numbers_caused free (Ok rows) err = tt
  numbers_caused free (Err e) err =
      schema_question_fails_by (schema_of_version number) number_text (plain_query 0 [] number_cell by_number) _ reads.is reads.plain reads.unlisted [] reads.fits reads.typed
      (calm 0 [] number_cell by_number []) old new o.is_open o.schema free e err

-- ---- tables of the newest

module _ (old new : State) {behind : Option Database} (k : IsOpenArchive behind old) where
  pub version_found : (r : Result (Vec Row Global) Error) → IfOk r (λ rows. Shown number_text [] old new rows.items) → IfErr r (FailsToQuery number_text [] old new)
      → MatchResult r (λ rows. (rows.items ≡ (Int VERSION ∷ []) ∷ []) × LeavesRowsUnchanged behind old new) (λ _. FaultKeepsRowsOrRollsBack behind old new)
  version_found (Ok rows) ok err = let it = answers read_3 old new k rows.items ok in (only_version (old.now.trees 0) rows.items k.tables.version it.0, it.1)
  version_found (Err e) ok err = fault_rests read_3 old new k e err

  pub version_caused : old.step_limit ≡ None → (r : Result (Vec Row Global) Error) → IfErr r (FailsToQuery number_text [] old new) → IfErr r (λ e. IsMemoryOrDiskError old new e ⊎ ⊥)
  version_caused free (Ok rows) err = tt
  version_caused free (Err e) err = inl (fault_caused read_3 old new k e err free)
