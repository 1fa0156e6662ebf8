-- The table `list`, as a table of records.
use Rattle.std.proofs.Common.{◌≡◌, ◌≤◌, inl, inr, ℕ, ℤ, List, [], ◌∷◌, map, length, refl, ap, ◌∙◌, false, true, Bool, arith}
use Rattle.std.specs.Prelude.{◌&&◌, not, nat_lt, bytes_eq}
use Rattle.std.specs.List.{AllByRecursion}
use Rattle.sqlite.specs.declared.types.Value.TheVariants.{Int}
use Rattle.sqlite.specs.Order.{Row}
use Rattle.sqlite.specs.Edit.{IsOversized, is_referred}
use Rattle.sqlite.specs.Tree.{Trees, with_tree}
use Rattle.sqlite_rules.proofs.ListLemmas.{all_has}
use Rattle.sqlite_schema.specs.declared.schema.Constraint.TheVariants.{Unique}
use Rattle.sqlite_schema.specs.declared.schema.Index.{Index}
use Rattle.sqlite_schema.specs.declared.schema.Keys.TheVariants.{Enforced}
use Rattle.sqlite_schema.specs.Rules.{references_fit, agree, clashes, passes, Keeps, table_reals, index_reals}
use Rattle.sqlite_sql.specs.Catalog.{entry_of}
use Rattle.sqlite_tied.specs.Compute.{everything}
use Rattle.sqlite_trees.proofs.ListLemmas.{all_weaker}
use Rattle.sqlite_trees.specs.View.{IsStorable, IsStorableRow}
use Rattle.sqlite_value.specs.Keys.{plain}
use Rattle.archive_tables.specs.Schema.{archive_schema, list_table}
use Rattle.archive_tables.specs.Tables.{list_cells, list_from_row, HoldsRecords, HaveDistinctKeys}
use Rattle.archive_tables.proofs.SelectLemmas.{alone, text_is, text_flips}
use Rattle.archive_sound.specs.Room.{longest_row}
use Rattle.archive_sound.proofs.RecordLemmas.{no_clash, apart_by}
use Rattle.archive_sound.proofs.TableLemmas.{IsTableOf}
use Rattle.archive_sound.proofs.ValueLemmas.{integer, storable}

abbrev pub same_name : List ℕ → List ℕ → Bool
same_name a b = bytes_eq b a

abbrev pub IsShortName : List ℕ → Type 0
IsShortName name = length name ≤ longest_row

abbrev pub names_none : Trees → List ℕ → Bool
names_none db name = true

module _ (n : ℤ) (name : List ℕ) (short : IsShortName name) where
  row_stored : IsStorableRow (table_reals list_table) (Int n ∷ list_cells name)
  unfolding lib.Ieee.is_nan
  row_stored = (storable _ _ refl (omega arith) (omega arith) (integer n, (tt, tt)) (omega (arith, short)), omega arith)

  abbrev IsKeyed : Index → Type 0
  IsKeyed i = i.table ≡ 1 → IsStorable (index_reals (table_reals list_table) i.columns) (entry_of i.columns (Int n ∷ list_cells name))

  key_stored : IsStorable (index_reals (table_reals list_table) (1 ∷ [])) (entry_of (1 ∷ []) (Int n ∷ list_cells name))
  unfolding lib.Ieee.is_nan
  key_stored = storable _ _ refl (omega arith) (omega arith) (tt, (integer n, tt)) (omega (arith, short))

  keys_stored : AllByRecursion IsKeyed archive_schema.indexes
  keys_stored = (
    λ e. key_stored,
    (
      λ e. absurd (omega (arith, e)),
      (
        λ e. absurd (omega (arith, e)),
        (
          λ e. absurd (omega (arith, e)),
          (λ e. absurd (omega (arith, e)), (λ e. absurd (omega (arith, e)), (λ e. absurd (omega (arith, e)), (λ e. absurd (omega (arith, e)), (λ e. absurd (omega (arith, e)), tt))))),
        ),
      ),
    ),
  )

  list_small : ¬ IsOversized archive_schema list_table (Int n ∷ list_cells name)
  list_small (inl big) = big row_stored
  list_small (inr it) = it.3 (all_has IsKeyed archive_schema.indexes it.0 keys_stored it.1 it.2)

list_agrees : (n m : ℤ) (a b : List ℕ) → agree plain (1 ∷ []) (Int n ∷ list_cells a) (1 ∷ []) (Int m ∷ list_cells b) ≡ same_name b a
unfolding everything
list_agrees n m a b = alone _ ∙ text_is a b

lists_unique : (db : Trees) (rows : List Row) → Keeps Unique archive_schema db → HoldsRecords list_cells list_from_row rows
    → HaveDistinctKeys same_name (map list_from_row rows) → Keeps Unique archive_schema (with_tree db 1 rows)
lists_unique db rows u holds distinct =
    let none = no_clash list_cells same_name (1 ∷ []) (λ n m a b apart. list_agrees n m a b ∙ apart) (λ a b. text_flips b a) list_from_row (λ n a. refl) rows holds distinct in
    let mine = all_weaker (λ row. clashes plain (1 ∷ []) rows row ≡ false) (λ row. passes Unique archive_schema (with_tree db 1 rows) list_table row ≡ true)
    (λ row free. ap (λ b. not b && true) free) rows none in
    (u.0, (mine, u.1.1))

not_so : (b : Bool) → (not b && true) ≡ true → b ≡ false
not_so true h = absurd cc
not_so false h = refl

-- no list twice
pub lists_distinct : (db : Trees) → Keeps Unique archive_schema db → HoldsRecords list_cells list_from_row (db 1) → HaveDistinctKeys same_name (map list_from_row (db 1))
lists_distinct db u holds =
    apart_by list_cells same_name (1 ∷ []) list_agrees list_from_row (λ n a. refl) (db 1) holds
    (all_weaker (λ row. passes Unique archive_schema db list_table row ≡ true) (λ row. clashes plain (1 ∷ []) (db 1) row ≡ false) (λ row h. not_so _ h) (db 1) u.1.0)

fit : (gone : List ℤ) (news : List Row) → is_referred archive_schema Enforced (record { table = list_table; gone = gone; news = news }) ≡ true
unfolding everything
fit gone news = each (nat_lt 0 (length news)) (nat_lt 0 (length gone))
  where
    each : (adds removes : Bool) → references_fit archive_schema list_table adds removes ≡ true
    each true true = refl
    each true false = refl
    each false true = refl
    each false false = refl

pub list_facts : IsTableOf list_table list_cells list_from_row same_name IsShortName names_none
list_facts = record {
  back = λ n a. refl;
  flips = λ a b. text_flips b a;
  typed = λ db n a. refl;
  present = λ db n a. refl;
  small = list_small;
  fit = fit;
  unique = lists_unique;
  checks = λ db c. c.1.0;
  names_are = λ db n a. refl;
  low = λ trees. refl;
}
