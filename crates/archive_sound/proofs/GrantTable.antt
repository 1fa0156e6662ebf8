-- The table `grant_row`, as a table of records.
use Rattle.std.proofs.Common.{◌≡◌, ◌≤◌, ◌+◌, inl, inr, ℤ, pos, negsuc, List, [], ◌∷◌, map, length, refl, sym, ap, ap₂, ◌∙◌, false, true, Bool, arith}
use Rattle.std.specs.Prelude.{◌&&◌, not, nat_lt}
use Rattle.std.specs.List.{AllByRecursion}
use Rattle.sqlite.specs.declared.types.Value.TheVariants.{Int}
use Rattle.sqlite.specs.Order.{Row}
use Rattle.sqlite.specs.Edit.{IsOversized, is_referred}
use Rattle.sqlite.specs.Tree.{Trees, with_tree}
use Rattle.sqlite_rules.proofs.ListLemmas.{all_has}
use Rattle.sqlite_schema.specs.declared.schema.Constraint.TheVariants.{Check, Unique}
use Rattle.sqlite_schema.specs.declared.schema.Index.{Index}
use Rattle.sqlite_schema.specs.declared.schema.Keys.TheVariants.{Enforced}
use Rattle.sqlite_schema.specs.Rules.{references_fit, agree, clashes, passes, Keeps, table_reals, index_reals}
use Rattle.sqlite_sql.specs.Catalog.{entry_of}
use Rattle.sqlite_tied.specs.Compute.{everything}
use Rattle.sqlite_trees.proofs.ListLemmas.{all_weaker}
use Rattle.sqlite_trees.specs.View.{IsStorable, IsStorableRow}
use Rattle.sqlite_value.specs.Keys.{plain}
use Rattle.archive_model.specs.Records.{Grant}
use Rattle.std.specs.Ordering.{int_eq}
use Rattle.std.proofs.lemmas.Bool.Decides.{Decides-int_eq}
use Rattle.archive_tables.specs.Schema.{archive_schema, grant_table}
use Rattle.archive_tables.specs.Tables.{grant_cells, grant_from_row, same_grant_key, HoldsRecords, HaveDistinctKeys}
use Rattle.archive_tables.proofs.SelectLemmas.{alone, text_is, int_is, text_flips}
use Rattle.archive_sound.specs.Room.{longest_row}
use Rattle.archive_sound.proofs.RecordLemmas.{no_clash}
use Rattle.archive_sound.proofs.ReferLemmas.{names_list, names_person, grant_names}
use Rattle.archive_sound.proofs.TableLemmas.{IsTableOf}
use Rattle.archive_sound.proofs.ValueLemmas.{is_within, is_ordered, integer, storable}

abbrev pub IsShortGrant : Grant → Type 0
IsShortGrant g = length g.person + length g.list ≤ longest_row

abbrev pub grant_names_are_there : Trees → Grant → Bool
grant_names_are_there db g = names_person db g.person && names_list db g.list

pub grant_checks : (trees : Trees) (n : ℤ) (g : Grant) → passes Check archive_schema trees grant_table (Int n ∷ grant_cells g)
    ≡ (is_within (pos 1) (pos 3) (Int g.rank) &&
    (is_within (negsuc 25566) (pos 2932531) (Int g.from_day) && (is_within (negsuc 25566) (pos 2932531) (Int g.until_day) && (is_ordered g.from_day g.until_day && true))))
grant_checks trees n g = refl

module _ (n : ℤ) (g : Grant) (short : IsShortGrant g) where
  row_stored : IsStorableRow (table_reals grant_table) (Int n ∷ grant_cells g)
  unfolding lib.Ieee.is_nan
  row_stored = (storable _ _ refl (omega arith) (omega arith) (integer n, (tt, (tt, (integer g.rank, (integer g.from_day, (integer g.until_day, tt)))))) (omega (arith, short)), omega arith)

  abbrev IsKeyed : Index → Type 0
  IsKeyed i = i.table ≡ 6 → IsStorable (index_reals (table_reals grant_table) i.columns) (entry_of i.columns (Int n ∷ grant_cells g))

  key_stored : IsStorable (index_reals (table_reals grant_table) (1 ∷ 2 ∷ 3 ∷ [])) (entry_of (1 ∷ 2 ∷ 3 ∷ []) (Int n ∷ grant_cells g))
  unfolding lib.Ieee.is_nan
  key_stored = storable _ _ refl (omega arith) (omega arith) (tt, (tt, (integer g.rank, (integer n, tt)))) (omega (arith, short))

  keys_stored : AllByRecursion IsKeyed archive_schema.indexes
  keys_stored = (
    λ e. absurd (omega (arith, e)),
    (
      λ e. absurd (omega (arith, e)),
      (
        λ e. absurd (omega (arith, e)),
        (
          λ e. key_stored,
          (
            λ e. absurd (omega (arith, e)),
            (λ e. absurd (omega (arith, e)), (λ e. absurd (omega (arith, e)), (λ e. absurd (omega (arith, e)), (λ e. absurd (omega (arith, e)), tt)))),
          ),
        ),
      ),
    ),
  )

  grant_small : ¬ IsOversized archive_schema grant_table (Int n ∷ grant_cells g)
  grant_small (inl big) = big row_stored
  grant_small (inr it) = it.3 (all_has IsKeyed archive_schema.indexes it.0 keys_stored it.1 it.2)

-- ---- grants of the same key

number_flips : (a b : ℤ) → int_eq a b ≡ int_eq b a
number_flips a b = either (int_eq a b) (int_eq b a) (λ h. (Decides-int_eq b a).1 (sym ((Decides-int_eq a b).0 h))) (λ h. (Decides-int_eq a b).1 (sym ((Decides-int_eq b a).0 h)))
  where
    either : (p q : Bool) → (p ≡ true → q ≡ true) → (q ≡ true → p ≡ true) → p ≡ q
    either true q there back = sym (there refl)
    either false true there back = back refl
    either false false there back = refl

flips : (a b : Grant) → same_grant_key a b ≡ same_grant_key b a
flips a b = ap₂ ◌&&◌ (text_flips b.person a.person) (ap₂ ◌&&◌ (text_flips b.list a.list) (number_flips b.rank a.rank))

grant_agrees : (n m : ℤ) (a b : Grant) → agree plain (1 ∷ 2 ∷ 3 ∷ []) (Int n ∷ grant_cells a) (1 ∷ 2 ∷ 3 ∷ []) (Int m ∷ grant_cells b) ≡ same_grant_key b a
unfolding everything
grant_agrees n m a b = ap₂ ◌&&◌ (text_is a.person b.person) (ap₂ ◌&&◌ (text_is a.list b.list) (alone _ ∙ int_is a.rank b.rank))

grants_unique : (db : Trees) (rows : List Row) → Keeps Unique archive_schema db → HoldsRecords grant_cells grant_from_row rows
    → HaveDistinctKeys same_grant_key (map grant_from_row rows) → Keeps Unique archive_schema (with_tree db 6 rows)
grants_unique db rows u holds distinct =
    let none = no_clash grant_cells same_grant_key (1 ∷ 2 ∷ 3 ∷ []) (λ n m a b apart. grant_agrees n m a b ∙ apart) flips grant_from_row (λ n g. refl) rows holds distinct in
    let mine = all_weaker (λ row. clashes plain (1 ∷ 2 ∷ 3 ∷ []) rows row ≡ false) (λ row. passes Unique archive_schema (with_tree db 6 rows) grant_table row ≡ true)
    (λ row free. ap (λ b. not b && true) free) rows none in
    (u.0, (u.1.0, (u.1.1.0, (mine, u.1.1.1.1))))

fit : (gone : List ℤ) (news : List Row) → is_referred archive_schema Enforced (record { table = grant_table; gone = gone; news = news }) ≡ true
unfolding everything
fit gone news = each (nat_lt 0 (length news)) (nat_lt 0 (length gone))
  where
    each : (adds removes : Bool) → references_fit archive_schema grant_table adds removes ≡ true
    each true true = refl
    each true false = refl
    each false true = refl
    each false false = refl

pub grant_facts : IsTableOf grant_table grant_cells grant_from_row same_grant_key IsShortGrant grant_names_are_there
grant_facts = record {
  back = λ n g. refl;
  flips = flips;
  typed = λ db n g. refl;
  present = λ db n g. refl;
  small = grant_small;
  fit = fit;
  unique = grants_unique;
  checks = λ db c. c.1.1.1.0;
  names_are = grant_names;
  low = λ trees. refl;
}
