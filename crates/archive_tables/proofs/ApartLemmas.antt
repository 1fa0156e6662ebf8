-- Rows that a unique key keeps apart: what a table holds after a write that the database took.
use Rattle.std.proofs.Common.{◌≡◌, ◌≢◌, ℕ, ℤ, Bool, true, false, List, [], ◌∷◌, map, refl, sym, ap, ap₂, subst, ◌∙◌}
use Rattle.std.specs.Prelude.{◌&&◌, not, bytes_eq}
use Rattle.std.specs.List.{AllByRecursion, list_any}
use Rattle.std.proofs.lemmas.Bool.{or_parts}
use Rattle.std.specs.Ordering.{is_ne, ordering_reverse}
use Rattle.std.specs.declared.cmp.Ordering.TheVariants.{Less}
use Rattle.sqlite.specs.declared.types.Value.{Value}
use Rattle.sqlite.specs.declared.types.Value.TheVariants.{Int, Text}
use Rattle.sqlite.specs.Collation.TheVariants.{Binary}
use Rattle.sqlite.specs.Order.{Row, column, value_cmp}
use Rattle.sqlite.specs.Ops.{is_true, binary}
use Rattle.sqlite.specs.Tree.{Trees, IsTable, rowid}
use Rattle.sqlite_sql.specs.declared.ops.BinaryOp.TheVariants.{Compare}
use Rattle.sqlite_sql.specs.declared.ops.CompareOp.TheVariants.{Eq}
use Rattle.sqlite_schema.specs.Rules.{agree, clashes, differ, passes, Keeps}
use Rattle.sqlite_schema.specs.declared.schema.Constraint.TheVariants.{Unique, ForeignKey}
use Rattle.sqlite_value.specs.Keys.{plain, first_key}
use Rattle.sqlite_value.proofs.OrderLemmas.{value_cmp_total}
use Rattle.sqlite_trees.proofs.ListLemmas.{all_weaker}
use Rattle.archive_tables.specs.Schema.{schema_2, archive_schema, option_table, address_table}
use Rattle.archive_tables.specs.Tables.{NumberedRecord, numbered_row, numbered_from_row, HoldsRecords, HaveDistinctKeys}
use Rattle.archive_tables.proofs.RowLemmas.{records_are}
use Rattle.archive_tables.proofs.SelectLemmas.{alone, truth_back, text_is}

-- numbers of which one is above the other
differs : (a b : ℤ) → value_cmp (Int b) (Int a) ≡ Less → differ (Int a) (Int b) ≡ true
unfolding binary
differs a b less = truth_back _ ∙ ap is_ne (value_cmp_total.antisymm (Int a) (Int b) ∙ ap ordering_reverse less)

-- rows that agree in their first column, as bytes
agrees : (row other : Row) → agree plain (1 ∷ []) other (1 ∷ []) row ≡ (is_true (binary (Compare Eq Binary) (column other 1) (column row 1)) && true)
unfolding first_key
agrees row other = refl

module _ {R : Type 0} (cells : R → Row) (word : R → List ℕ) (first : (n : ℤ) (r : R) → column (Int n ∷ cells r) 1 ≡ Text (word r)) where
  abbrev rows_of : List (NumberedRecord R) → List Row
  rows_of = map (numbered_row cells)

  abbrev its : List (NumberedRecord R) → List R
  its = map (λ (r : NumberedRecord R). r.content)

  abbrev pub same_word : R → R → Bool
  same_word a b = bytes_eq (word b) (word a)

  -- another row has the key of this one
  abbrev has_key_of : Row → Row → Bool
  has_key_of row other = agree plain (1 ∷ []) other (1 ∷ []) row && differ (rowid other) (rowid row)

  test_is : (r s : NumberedRecord R) → value_cmp (Int r.number) (Int s.number) ≡ Less → has_key_of (numbered_row cells r) (numbered_row cells s) ≡ same_word r.content s.content
  test_is r s less =
      let words = ap₂ (λ (v w : Value). is_true (binary (Compare Eq Binary) v w)) (first s.number s.content) (first r.number r.content) ∙ text_is (word s.content) (word r.content) in
      ap₂ ◌&&◌ (agrees (numbered_row cells r) (numbered_row cells s) ∙ alone _ ∙ words) (differs s.number r.number less) ∙ alone _

  not_again : (r : NumberedRecord R) (all : List (NumberedRecord R)) → AllByRecursion (λ row. value_cmp (Int r.number) (rowid row) ≡ Less) (rows_of all)
      → list_any (has_key_of (numbered_row cells r)) (rows_of all) ≡ false → list_any (same_word r.content) (its all) ≡ false
  not_again r [] above none = refl
  not_again r (s ∷ all) above none =
      let both = or_parts _ _ none in
      rw (sym (test_is r s above.0) ∙ both.0) (not_again r all above.1 both.1)

  apart : (all : List (NumberedRecord R)) → IsTable (rows_of all) → AllByRecursion (λ row. clashes plain (1 ∷ []) (rows_of all) row ≡ false) (rows_of all) → HaveDistinctKeys same_word (its all)
  apart [] up none = tt
  apart (r ∷ all) up none =
      let rest = all_weaker (λ row. clashes plain (1 ∷ []) (rows_of (r ∷ all)) row ≡ false) (λ row. clashes plain (1 ∷ []) (rows_of all) row ≡ false)
      (λ row no. (or_parts _ _ no).1) (rows_of all) none.1 in
      (not_again r all up.0 (or_parts _ _ none.0).1, apart all up.1 rest)

  -- records whose rows have no key twice
  pub apart_by_key : (read : Row → R) (back : (n : ℤ) (r : R) → read (Int n ∷ cells r) ≡ r) (rows : List Row) → HoldsRecords cells read rows
      → AllByRecursion (λ row. clashes plain (1 ∷ []) rows row ≡ false) rows → HaveDistinctKeys same_word (map read rows)
  apart_by_key read back rows k none =
      let all = map (numbered_from_row read) rows in
      subst (HaveDistinctKeys same_word) (sym (records_are cells read back rows k))
      (apart all (subst IsTable k.rows_read_back k.is_table) (subst (λ l. AllByRecursion (λ row. clashes plain (1 ∷ []) l row ≡ false) l) k.rows_read_back none))

-- ---- `list_option` and `address` have one key each

pub is_no_foreign_key : Unique ≢ ForeignKey
is_no_foreign_key e = cc

not_so : (b : Bool) → (not b && true) ≡ true → b ≡ false
not_so true h = absurd cc
not_so false h = refl

pub one_option_a_list : (next : Trees) → Keeps Unique archive_schema next → AllByRecursion (λ row. clashes plain (1 ∷ []) (next 13) row ≡ false) (next 13)
one_option_a_list next keeps =
    all_weaker (λ row. passes Unique archive_schema next option_table row ≡ true) (λ row. clashes plain (1 ∷ []) (next 13) row ≡ false) (λ row h. not_so _ h) (next 13) keeps.1.1.1.1.1.1.0

pub one_option_a_list_2 : (next : Trees) → Keeps Unique schema_2 next → AllByRecursion (λ row. clashes plain (1 ∷ []) (next 13) row ≡ false) (next 13)
one_option_a_list_2 next keeps =
    all_weaker (λ row. passes Unique schema_2 next option_table row ≡ true) (λ row. clashes plain (1 ∷ []) (next 13) row ≡ false)
    (λ row h. not_so _ h) (next 13) keeps.1.1.1.1.1.1.0

pub one_address_a_person : (next : Trees) → Keeps Unique archive_schema next → AllByRecursion (λ row. clashes plain (1 ∷ []) (next 15) row ≡ false) (next 15)
one_address_a_person next keeps =
    all_weaker (λ row. passes Unique archive_schema next address_table row ≡ true) (λ row. clashes plain (1 ∷ []) (next 15) row ≡ false)
    (λ row h. not_so _ h) (next 15) keeps.1.1.1.1.1.1.1.0
