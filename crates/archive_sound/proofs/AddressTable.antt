-- The table `address`, as a table of records.
use Rattle.std.proofs.Common.{◌≡◌, ◌≤◌, ◌+◌, inl, inr, ℤ, List, [], ◌∷◌, map, length, refl, ap, ◌∙◌, false, true, Bool, arith}
use Rattle.std.specs.Prelude.{◌&&◌, not, nat_lt}
use Rattle.std.specs.List.{AllByRecursion}
use Rattle.sqlite.specs.declared.types.Value.TheVariants.{Int}
use Rattle.sqlite.specs.Order.{Row}
use Rattle.sqlite.specs.Edit.{IsOversized, is_referred}
use Rattle.sqlite.specs.Tree.{Trees, with_tree}
use Rattle.sqlite_rules.proofs.ListLemmas.{all_has}
use Rattle.sqlite_schema.specs.declared.schema.Constraint.TheVariants.{Unique}
use Rattle.sqlite_schema.specs.declared.schema.Index.{Index}
use Rattle.sqlite_schema.specs.declared.schema.Keys.TheVariants.{Enforced}
use Rattle.sqlite_schema.specs.Rules.{references_fit, agree, clashes, passes, Keeps, table_reals, index_reals}
use Rattle.sqlite_sql.specs.Catalog.{entry_of}
use Rattle.sqlite_tied.specs.Compute.{everything}
use Rattle.sqlite_trees.proofs.ListLemmas.{all_weaker}
use Rattle.sqlite_trees.specs.View.{IsStorable, IsStorableRow}
use Rattle.sqlite_value.specs.Keys.{plain}
use Rattle.archive_model.specs.Records.{Address}
use Rattle.archive_tables.specs.Schema.{archive_schema, address_table}
use Rattle.archive_tables.specs.Tables.{address_cells, address_from_row, same_address_key, HoldsRecords, HaveDistinctKeys}
use Rattle.archive_tables.proofs.SelectLemmas.{alone, text_is, text_flips}
use Rattle.archive_sound.specs.Room.{longest_row}
use Rattle.archive_sound.proofs.RecordLemmas.{no_clash}
use Rattle.archive_sound.proofs.ReferLemmas.{names_person, address_names}
use Rattle.archive_sound.proofs.TableLemmas.{IsTableOf}
use Rattle.archive_sound.proofs.ValueLemmas.{integer, storable}

abbrev pub IsShortAddress : Address → Type 0
IsShortAddress a = length a.person + length a.address ≤ longest_row

abbrev pub address_person_is_there : Trees → Address → Bool
address_person_is_there db a = names_person db a.person

module _ (n : ℤ) (a : Address) (short : IsShortAddress a) where
  row_stored : IsStorableRow (table_reals address_table) (Int n ∷ address_cells a)
  unfolding lib.Ieee.is_nan
  row_stored = (storable _ _ refl (omega arith) (omega arith) (integer n, (tt, (tt, tt))) (omega (arith, short)), omega arith)

  abbrev IsKeyed : Index → Type 0
  IsKeyed i = i.table ≡ 15 → IsStorable (index_reals (table_reals address_table) i.columns) (entry_of i.columns (Int n ∷ address_cells a))

  key_stored : IsStorable (index_reals (table_reals address_table) (1 ∷ [])) (entry_of (1 ∷ []) (Int n ∷ address_cells a))
  unfolding lib.Ieee.is_nan
  key_stored = storable _ _ refl (omega arith) (omega arith) (tt, (integer n, tt)) (omega (arith, short))

  keys_stored : AllByRecursion IsKeyed archive_schema.indexes
  keys_stored = (
    λ e. absurd (omega (arith, e)),
    (
      λ e. absurd (omega (arith, e)),
      (
        λ e. absurd (omega (arith, e)),
        (
          λ e. absurd (omega (arith, e)),
          (
            λ e. absurd (omega (arith, e)),
            (λ e. absurd (omega (arith, e)), (λ e. absurd (omega (arith, e)), (λ e. absurd (omega (arith, e)), (λ e. key_stored, tt)))),
          ),
        ),
      ),
    ),
  )

  address_small : ¬ IsOversized archive_schema address_table (Int n ∷ address_cells a)
  address_small (inl big) = big row_stored
  address_small (inr it) = it.3 (all_has IsKeyed archive_schema.indexes it.0 keys_stored it.1 it.2)

address_agrees : (n m : ℤ) (a b : Address) → agree plain (1 ∷ []) (Int n ∷ address_cells a) (1 ∷ []) (Int m ∷ address_cells b) ≡ same_address_key b a
unfolding everything
address_agrees n m a b = alone _ ∙ text_is a.person b.person

addresses_unique : (db : Trees) (rows : List Row) → Keeps Unique archive_schema db → HoldsRecords address_cells address_from_row rows
    → HaveDistinctKeys same_address_key (map address_from_row rows) → Keeps Unique archive_schema (with_tree db 15 rows)
addresses_unique db rows u holds distinct =
    let none = no_clash address_cells same_address_key (1 ∷ []) (λ n m a b apart. address_agrees n m a b ∙ apart) (λ a b. text_flips b.person a.person) address_from_row
    (λ n a. refl) rows holds distinct in
    let mine = all_weaker (λ row. clashes plain (1 ∷ []) rows row ≡ false) (λ row. passes Unique archive_schema (with_tree db 15 rows) address_table row ≡ true)
    (λ row free. ap (λ b. not b && true) free) rows none in
    (u.0, (u.1.0, (u.1.1.0, (u.1.1.1.0, (u.1.1.1.1.0, (u.1.1.1.1.1.0, (u.1.1.1.1.1.1.0, (mine, tt))))))))

fit : (gone : List ℤ) (news : List Row) → is_referred archive_schema Enforced (record { table = address_table; gone = gone; news = news }) ≡ true
unfolding everything
fit gone news = each (nat_lt 0 (length news)) (nat_lt 0 (length gone))
  where
    each : (adds removes : Bool) → references_fit archive_schema address_table adds removes ≡ true
    each true true = refl
    each true false = refl
    each false true = refl
    each false false = refl

pub address_facts : IsTableOf address_table address_cells address_from_row same_address_key IsShortAddress address_person_is_there
address_facts = record {
  back = λ n a. refl;
  flips = λ a b. text_flips b.person a.person;
  typed = λ db n a. refl;
  present = λ db n a. refl;
  small = address_small;
  fit = fit;
  unique = addresses_unique;
  checks = λ db c. c.1.1.1.1.1.1.1.0;
  names_are = address_names;
  low = λ trees. refl;
}
