-- The table `list_option`, as a table of records.
use Rattle.std.proofs.Common.{◌≡◌, ◌≤◌, inl, inr, ℤ, pos, List, [], ◌∷◌, map, length, refl, ap, ◌∙◌, false, true, Bool, arith}
use Rattle.std.specs.Prelude.{◌&&◌, not, nat_lt}
use Rattle.std.specs.List.{AllByRecursion}
use Rattle.sqlite.specs.declared.types.Value.TheVariants.{Int}
use Rattle.sqlite.specs.Order.{Row}
use Rattle.sqlite.specs.Edit.{IsOversized, is_referred}
use Rattle.sqlite.specs.Tree.{Trees, with_tree}
use Rattle.sqlite_rules.proofs.ListLemmas.{all_has}
use Rattle.sqlite_schema.specs.declared.schema.Constraint.TheVariants.{Check, Unique}
use Rattle.sqlite_schema.specs.declared.schema.Index.{Index}
use Rattle.sqlite_schema.specs.declared.schema.Keys.TheVariants.{Enforced}
use Rattle.sqlite_schema.specs.Rules.{references_fit, agree, clashes, passes, Keeps, table_reals, index_reals}
use Rattle.sqlite_sql.specs.Catalog.{entry_of}
use Rattle.sqlite_tied.specs.Compute.{everything}
use Rattle.sqlite_trees.proofs.ListLemmas.{all_weaker}
use Rattle.sqlite_trees.specs.View.{IsStorable, IsStorableRow}
use Rattle.sqlite_value.specs.Keys.{plain}
use Rattle.std.proofs.lemmas.Int.{ints}
use Rattle.archive_model.specs.Records.{ListOption}
use Rattle.archive_tables.specs.Schema.{archive_schema, option_table}
use Rattle.archive_tables.specs.Tables.{option_cells, option_from_row, merge_flag, same_option_key, HoldsRecords, HaveDistinctKeys}
use Rattle.archive_tables.proofs.OptionLemmas.{option_back}
use Rattle.archive_tables.proofs.SelectLemmas.{alone, text_is, text_flips}
use Rattle.archive_sound.specs.Room.{longest_row}
use Rattle.archive_sound.proofs.RecordLemmas.{no_clash}
use Rattle.archive_sound.proofs.ReferLemmas.{names_list, option_names}
use Rattle.archive_sound.proofs.TableLemmas.{IsTableOf}
use Rattle.archive_sound.proofs.ValueLemmas.{is_within, integer, storable, both, within_range}

abbrev pub IsShortOption : ListOption → Type 0
IsShortOption o = length o.list ≤ longest_row

abbrev pub option_list_is_there : Trees → ListOption → Bool
option_list_is_there db o = names_list db o.list

pub option_checked : (trees : Trees) (n : ℤ) (o : ListOption) → passes Check archive_schema trees option_table (Int n ∷ option_cells o) ≡ true
option_checked trees n o = both _ _ (flag o.merge) refl
  where
    flag : (b : Bool) → is_within (pos 0) (pos 1) (Int (merge_flag b)) ≡ true
    flag true = within_range (pos 0) (pos 1) (pos 1) (omega (arith, ints)) (omega (arith, ints))
    flag false = within_range (pos 0) (pos 1) (pos 0) (omega (arith, ints)) (omega (arith, ints))

module _ (n : ℤ) (o : ListOption) (short : IsShortOption o) where
  row_stored : IsStorableRow (table_reals option_table) (Int n ∷ option_cells o)
  unfolding lib.Ieee.is_nan
  row_stored = (storable _ _ refl (omega arith) (omega arith) (integer n, (tt, (integer (merge_flag o.merge), tt))) (omega (arith, short)), omega arith)

  abbrev IsKeyed : Index → Type 0
  IsKeyed i = i.table ≡ 13 → IsStorable (index_reals (table_reals option_table) i.columns) (entry_of i.columns (Int n ∷ option_cells o))

  key_stored : IsStorable (index_reals (table_reals option_table) (1 ∷ [])) (entry_of (1 ∷ []) (Int n ∷ option_cells o))
  unfolding lib.Ieee.is_nan
  key_stored = storable _ _ refl (omega arith) (omega arith) (tt, (integer n, tt)) (omega (arith, short))

  keys_stored : AllByRecursion IsKeyed archive_schema.indexes
  keys_stored = (
    λ e. absurd (omega (arith, e)),
    (
      λ e. absurd (omega (arith, e)),
      (
        λ e. absurd (omega (arith, e)),
        (
          λ e. absurd (omega (arith, e)),
          (
            λ e. absurd (omega (arith, e)),
            (λ e. absurd (omega (arith, e)), (λ e. absurd (omega (arith, e)), (λ e. key_stored, (λ e. absurd (omega (arith, e)), tt)))),
          ),
        ),
      ),
    ),
  )

  option_small : ¬ IsOversized archive_schema option_table (Int n ∷ option_cells o)
  option_small (inl big) = big row_stored
  option_small (inr it) = it.3 (all_has IsKeyed archive_schema.indexes it.0 keys_stored it.1 it.2)

option_agrees : (n m : ℤ) (a b : ListOption) → agree plain (1 ∷ []) (Int n ∷ option_cells a) (1 ∷ []) (Int m ∷ option_cells b) ≡ same_option_key b a
unfolding everything
option_agrees n m a b = alone _ ∙ text_is a.list b.list

options_unique : (db : Trees) (rows : List Row) → Keeps Unique archive_schema db → HoldsRecords option_cells option_from_row rows
    → HaveDistinctKeys same_option_key (map option_from_row rows) → Keeps Unique archive_schema (with_tree db 13 rows)
options_unique db rows u holds distinct =
    let none = no_clash option_cells same_option_key (1 ∷ []) (λ n m a b apart. option_agrees n m a b ∙ apart) (λ a b. text_flips b.list a.list) option_from_row option_back rows holds distinct in
    let mine = all_weaker (λ row. clashes plain (1 ∷ []) rows row ≡ false) (λ row. passes Unique archive_schema (with_tree db 13 rows) option_table row ≡ true)
    (λ row free. ap (λ b. not b && true) free) rows none in
    (u.0, (u.1.0, (u.1.1.0, (u.1.1.1.0, (u.1.1.1.1.0, (u.1.1.1.1.1.0, (mine, u.1.1.1.1.1.1.1)))))))

fit : (gone : List ℤ) (news : List Row) → is_referred archive_schema Enforced (record { table = option_table; gone = gone; news = news }) ≡ true
unfolding everything
fit gone news = each (nat_lt 0 (length news)) (nat_lt 0 (length gone))
  where
    each : (adds removes : Bool) → references_fit archive_schema option_table adds removes ≡ true
    each true true = refl
    each true false = refl
    each false true = refl
    each false false = refl

pub option_facts : IsTableOf option_table option_cells option_from_row same_option_key IsShortOption option_list_is_there
option_facts = record {
  back = option_back;
  flips = λ a b. text_flips b.list a.list;
  typed = λ db n o. refl;
  present = λ db n o. refl;
  small = option_small;
  fit = fit;
  unique = options_unique;
  checks = λ db c. c.1.1.1.1.1.1.0;
  names_are = option_names;
  low = λ trees. refl;
}
