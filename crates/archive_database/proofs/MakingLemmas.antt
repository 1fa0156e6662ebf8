-- What a database holds that is taken over, or is left.
use Rattle.std.proofs.Common.{◌≡◌, ℕ, ℤ, pos, Option, Some, None, Result, Ok, Err, ◌<◌, ◌≤◌, List, [], ◌∷◌, length, get_or, map, refl, ap, sym, ◌∙◌, subst, arith}
use Rattle.std.specs.Prelude.{OnOk}
use Rattle.std.specs.List.Sorted.{IsPermutation}
use Rattle.sqlite.specs.declared.types.Value.TheVariants.{Int}
use Rattle.sqlite.specs.Order.{Row, column}
use Rattle.sqlite.specs.Tree.{Trees}
use Rattle.sqlite.specs.Store.{Ghosts}
use Rattle.sqlite.specs.Held.{Held, state}
use Rattle.sqlite.specs.State.{State, HasCleanDisk}
use Rattle.sqlite.proofs.Callers.{one_permutation}
use Rattle.std.proofs.lemmas.List.Sorted.{IsPermutation-sym}
use Rattle.archive_tables.specs.Tables.{HasVersionRow, IsKnownVersion, HasSchemaOfFormat, HasArchiveSchema, IsOpenArchiveInFormat, IsArchiveAtRest, AreArchiveTables}
use Rattle.archive_tables.specs.Tables.{format_of_version, archive_of_version, archive_of, newest_version}
use Rattle.archive_tables.specs.Calls.{FaultKeepsRows}
use Rattle.archive_tables.specs.Making.{IsIdle, IsRolledBackIfOpen}
use Rattle.archive_database.specs.Adopting.{HasObjectCountsOfVersion, IsSchemaOfSomeVersion, MayBeAdopted, IsMigrated, IsNotMigrated}
use Rattle.archive_database.specs.declared.faults.DatabaseError.{DatabaseError}
use Rattle.archive_tables.specs.Rows.{version_result_rows}
use Rattle.archive_tables.specs.Schema.{schema_of_version}
use Rattle.sqlite.specs.Schema.{Schema}

-- one row alone that shows this number
one_cell : (number : ℤ) (trees : Trees) (row : Row) → IsPermutation (version_result_rows trees) (row ∷ []) → column row 0 ≡ Int number → HasVersionRow number trees
one_cell number trees row same first = only (trees 0) (one_permutation row (version_result_rows trees) (IsPermutation-sym (version_result_rows trees) (row ∷ []) same))
  where
    only : (rows : List Row) → map (λ r. column r 1 ∷ []) rows ≡ row ∷ [] → (r : Row) × (rows ≡ r ∷ []) × (column r 1 ≡ Int number)
    only [] is = absurd cc
    only (r ∷ []) is = (r, refl, cc)
    only (r ∷ other ∷ rows) is = absurd cc

sole : (rows : List Row) (row : Row) → 1 ≤ length rows → length rows < 2 → row ≡ get_or rows 0 row → rows ≡ row ∷ []
sole [] row some few is = absurd (omega (arith, some))
sole (x ∷ []) row some few is = ap (λ y. y ∷ []) (sym is)
sole (x ∷ y ∷ rows) row some few is = absurd (omega (arith, few))

-- where some rows are one that shows this number
pub shows_version : (number : ℤ) (trees : Trees) (rows : List Row) (row : Row) → IsPermutation (version_result_rows trees) rows → 1 ≤ length rows → length rows < 2
    → row ≡ get_or rows 0 row → column row 0 ≡ Int number → HasVersionRow number trees
shows_version number trees rows row same some few is first =
    one_cell number trees row (subst (λ l. IsPermutation (version_result_rows trees) l) (sole rows row some few is) same) first

-- and where there is such a row, it is the one that is shown
pub version_shown : (number : ℤ) (trees : Trees) (rows : List Row) → HasVersionRow number trees → IsPermutation (version_result_rows trees) rows → rows ≡ (Int number ∷ []) ∷ []
version_shown number trees rows of same =
    let shown : version_result_rows trees ≡ (Int number ∷ []) ∷ [] = ap (map (λ r. column r 1 ∷ [])) of.1 ∙ ap (λ v. (v ∷ []) ∷ []) of.2 in
    one_permutation (Int number ∷ []) rows (subst (λ l. IsPermutation l rows) shown same)

-- ---- tables of a version that are found

pub objects_of : (number : ℕ) (schema : Schema) → schema ≡ schema_of_version number → HasObjectCountsOfVersion number schema
objects_of number schema is = rw is (record { table_count_is = refl; index_count_is = refl; view_count_is = refl })

pub idle_form : (number : ℕ) (s : State) → IsIdle s → s.now.schema ≡ schema_of_version number → HasSchemaOfFormat (format_of_version number) s
idle_form number s idle is = record { is_open = idle.is_open; autocommit = idle.autocommit; committed_is_now = idle.committed_is_now; schema = is }

-- ---- the version that the objects tell

module _ (schema : Schema) (has : IsSchemaOfSomeVersion schema) (told : Option ℕ) (own : (number : ℕ) → IsKnownVersion number → HasObjectCountsOfVersion number schema → told ≡ Some number) where
  is_told : told ≡ Some has.0
  is_told = own has.0 has.1 (objects_of has.0 schema has.2)

  pub told_version : (number : ℕ) → told ≡ Some number → IsKnownVersion number × (schema ≡ schema_of_version number)
  told_version number is =
      let same : has.0 ≡ number = (let both = sym is_told ∙ is in cc) in subst (λ n. IsKnownVersion n × (schema ≡ schema_of_version n)) same (has.1, has.2)

  pub told_none : told ≡ None → ⊥
  told_none is = let bad = sym is_told ∙ is in cc

-- ---- a migration

module _ {S : Type 0} (g : Ghosts S) (old new : Held S) where
  -- from each of its facts alone, where the call succeeded
  pub migrates : {A E : Type 0} (result : Result A E)
      → (HasCleanDisk (state g new) → (number : ℕ) → IsKnownVersion number → IsOpenArchiveInFormat (format_of_version number) None (state g old)
      → OnOk result (IsArchiveAtRest (state g new) × (archive_of (state g new) ≡ archive_of_version number (state g old).now.trees)))
      → (HasCleanDisk (state g new) → HasArchiveSchema (state g old) → OnOk result (IsRolledBackIfOpen (state g new) (state g old).now))
      → OnOk result (MayBeAdopted (state g old).now.schema)
      → (HasCleanDisk (state g new) → (number : ℕ) → IsKnownVersion number → HasSchemaOfFormat (format_of_version number) (state g old)
      → OnOk result (HasVersionRow (pos number) (state g old).now.trees))
      → OnOk result (IsMigrated g old new)
  migrates (Ok done) archive rows objects version = record { keeps_archive = archive; keeps_rows = rows; may_be_adopted = objects; version = version }
  migrates (Err fault) archive rows objects version = tt

  newest_is_known : IsKnownVersion newest_version
  newest_is_known = record { at_least_one = omega (arith); at_most_newest = omega (arith) }

  -- an archive of the newest version that was taken over is the same
  pub newest_archive_kept : IsMigrated g old new → HasCleanDisk (state g new) → IsArchiveAtRest (state g old)
      → IsArchiveAtRest (state g new) × (archive_of (state g new) ≡ archive_of (state g old))
  newest_archive_kept migrated clean rest = migrated.keeps_archive clean newest_version newest_is_known rest

  -- and one that was not has the same rows, if the connection is still open
  pub newest_rows_kept : {fault : DatabaseError} → IsNotMigrated g old new fault → HasCleanDisk (state g new) → IsArchiveAtRest (state g old) → FaultKeepsRows (state g old) (state g new)
  newest_rows_kept stopped clean rest = λ up.
      let idle : IsIdle (state g old) = record { is_open = rest.is_open; autocommit = rest.autocommit; committed_is_now = rest.committed_is } in
      let back = stopped.rows_restored clean idle (newest_version, newest_is_known, rest.schema) up in (
        record {
          is_open = up;
          autocommit = back.2;
          committed_is = back.1 ∙ sym back.0;
          schema = ap (λ db. db.schema) back.0 ∙ rest.schema;
          tables = subst (λ db. AreArchiveTables db.trees) (sym back.0) rest.tables;
          rollback_leaves_archive = tt;
        },
        back.0,
      )
