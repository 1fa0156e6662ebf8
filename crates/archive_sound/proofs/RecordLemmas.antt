-- Rows of records: what is so of each row, and keys that no two of them have.
use Rattle.std.proofs.Common.{◌≡◌, inl, inr, ℕ, ℤ, Bool, true, false, List, [], ◌∷◌, ◌++◌, map, refl, sym, ap, ap₂, subst, ◌∙◌}
use Rattle.std.specs.Prelude.{◌&&◌, ◌||◌}
use Rattle.std.specs.List.{AllByRecursion, list_any}
use Rattle.std.specs.Ordering.{is_eq, is_ne, ordering_reverse}
use Rattle.std.specs.declared.cmp.Ordering.TheVariants.{Less}
use Rattle.std.proofs.lemmas.Bool.{cases_Bool}
use Rattle.std.proofs.lemmas.Cmp.{tied_itself}
use Rattle.sqlite.specs.declared.types.Value.TheVariants.{Int}
use Rattle.sqlite.specs.Order.{Row, value_cmp}
use Rattle.sqlite.specs.Ops.{binary}
use Rattle.sqlite.specs.Tree.{IsTable, without_rowid, rowid}
use Rattle.sqlite_schema.specs.Rules.{agree, clashes, differ}
use Rattle.sqlite_value.specs.Keys.{plain}
use Rattle.sqlite_value.proofs.OrderLemmas.{value_cmp_total}
use Rattle.archive_tables.specs.Tables.{NumberedRecord, numbered_row, numbered_from_row, HoldsRecords, HaveDistinctKeys}
use Rattle.archive_tables.proofs.RowLemmas.{records_are}
use Rattle.archive_sound.proofs.ValueLemmas.{none_of}
use Rattle.archive_tables.proofs.SelectLemmas.{truth_back, alone}
use Rattle.sqlite_trees.proofs.ListLemmas.{all_weaker}

-- ---- each row, and each record

module _ {R : Type 0} (cells : R → Row) (read : Row → R) (P : Row → Type 0) (Q : R → Type 0) where
  pub of_records : ((n : ℤ) (r : R) → P (Int n ∷ cells r) → Q r) → (rows : List Row) → HoldsRecords cells read rows → AllByRecursion P rows → AllByRecursion Q (map read rows)
  of_records from rows k all = each rows (subst (AllByRecursion P) k.rows_read_back all)
    where
      each : (rows : List Row) → AllByRecursion P (map (numbered_row cells) (map (numbered_from_row read) rows)) → AllByRecursion Q (map read rows)
      each [] all = tt
      each (row ∷ rows) all = (from _ _ all.0, each rows all.1)

  pub of_rows : ((n : ℤ) (r : R) → Q r → P (Int n ∷ cells r)) → (rows : List Row) → HoldsRecords cells read rows → AllByRecursion Q (map read rows) → AllByRecursion P rows
  of_rows from rows k all = subst (AllByRecursion P) (sym k.rows_read_back) (each rows all)
    where
      each : (rows : List Row) → AllByRecursion Q (map read rows) → AllByRecursion P (map (numbered_row cells) (map (numbered_from_row read) rows))
      each [] all = tt
      each (row ∷ rows) all = (from _ _ all.0, each rows all.1)

-- ---- no row has the number that was taken out

pub none_taken : (n : ℤ) (rows : List Row) → list_any (λ row. is_eq (value_cmp (rowid row) (Int n))) (without_rowid n rows) ≡ false
none_taken n [] = refl
none_taken n (row ∷ rows) = elim (cases_Bool (is_eq (value_cmp (rowid row) (Int n)))) [
  | inl there ↦ rw there (none_taken n rows)
  | inr other ↦ rw other (rw other (none_taken n rows))
]

-- and none has a number that is above all
pub not_taken : (rows : List Row) (new : Row) → IsTable (rows ++ new ∷ []) → list_any (λ row. is_eq (value_cmp (rowid row) (rowid new))) rows ≡ false
not_taken [] new up = refl
not_taken (row ∷ rows) new up = rw (last rows up.0) (not_taken rows new up.1)
  where
    last : (more : List Row) → AllByRecursion (λ s. value_cmp (rowid row) (rowid s) ≡ Less) (more ++ new ∷ []) → value_cmp (rowid row) (rowid new) ≡ Less
    last [] above = above.0
    last (s ∷ more) above = last more above.1

-- ---- keys

itself : (n : ℤ) → differ (Int n) (Int n) ≡ false
unfolding binary
itself n = truth_back _ ∙ ap is_ne (tied_itself value_cmp_total (Int n))

never : (b : Bool) → (b && false) ≡ false
never true = refl
never false = refl

module _ {R : Type 0} (cells : R → Row) (same : R → R → Bool) (places : List ℕ)
    (agrees : (n m : ℤ) (a b : R) → same b a ≡ false → agree plain places (Int n ∷ cells a) places (Int m ∷ cells b) ≡ false) (flips : (a b : R) → same a b ≡ same b a) where
  abbrev rows_of : List (NumberedRecord R) → List Row
  rows_of = map (numbered_row cells)

  abbrev its : List (NumberedRecord R) → List R
  its = map (λ (r : NumberedRecord R). r.content)

  abbrev meets : Row → Row → Bool
  meets row other = agree plain places other places row && differ (rowid other) (rowid row)

  apart : (x y : NumberedRecord R) → same x.content y.content ≡ false → meets (numbered_row cells x) (numbered_row cells y) ≡ false
  apart x y differ_so = ap (λ b. b && differ (Int y.number) (Int x.number)) (agrees y.number x.number y.content x.content differ_so)

  first_alone : (x : NumberedRecord R) (ys : List (NumberedRecord R)) → list_any (same x.content) (its ys) ≡ false → list_any (meets (numbered_row cells x)) (rows_of ys) ≡ false
  first_alone x [] none = refl
  first_alone x (y ∷ ys) none = let both = none_of _ _ none in ap₂ ◌||◌ (apart x y both.0) (first_alone x ys both.1)

  later_alone : (x : NumberedRecord R) (all ys : List (NumberedRecord R)) → list_any (same x.content) (its ys) ≡ false
      → AllByRecursion (λ row. list_any (meets row) (rows_of all) ≡ false) (rows_of ys) → AllByRecursion (λ row. list_any (meets row) (numbered_row cells x ∷ rows_of all) ≡ false) (rows_of ys)
  later_alone x all [] none rest = tt
  later_alone x all (y ∷ ys) none rest =
      let both = none_of _ _ none in
      (ap₂ ◌||◌ (apart y x (flips y.content x.content ∙ both.0)) rest.0, later_alone x all ys both.1 rest.1)

  all_alone : (all : List (NumberedRecord R)) → HaveDistinctKeys same (its all) → AllByRecursion (λ row. list_any (meets row) (rows_of all) ≡ false) (rows_of all)
  all_alone [] distinct = tt
  all_alone (x ∷ all) distinct = (
    ap₂ ◌||◌ (ap (λ b. agree plain places (numbered_row cells x) places (numbered_row cells x) && b) (itself x.number) ∙ never _) (first_alone x all distinct.0),
    later_alone x all all distinct.0 (all_alone all distinct.1),
  )

  -- no two rows have the same key
  pub no_clash : (read : Row → R) (back : (n : ℤ) (r : R) → read (Int n ∷ cells r) ≡ r) (rows : List Row) → HoldsRecords cells read rows → HaveDistinctKeys same (map read rows)
      → AllByRecursion (λ row. clashes plain places rows row ≡ false) rows
  no_clash read back rows k distinct =
      let all = map (numbered_from_row read) rows in
      subst (λ l. AllByRecursion (λ row. clashes plain places l row ≡ false) l) (sym k.rows_read_back)
      (all_alone all (subst (HaveDistinctKeys same) (records_are cells read back rows k) distinct))

-- ---- and back: a unique key keeps records apart

differs : (a b : ℤ) → value_cmp (Int b) (Int a) ≡ Less → differ (Int a) (Int b) ≡ true
unfolding binary
differs a b less = truth_back _ ∙ ap is_ne (value_cmp_total.antisymm (Int a) (Int b) ∙ ap ordering_reverse less)

module _ {R : Type 0} (cells : R → Row) (same : R → R → Bool) (places : List ℕ)
    (agrees : (n m : ℤ) (a b : R) → agree plain places (Int n ∷ cells a) places (Int m ∷ cells b) ≡ same b a) where
  abbrev records_of : List (NumberedRecord R) → List Row
  records_of = map (numbered_row cells)

  abbrev contents : List (NumberedRecord R) → List R
  contents = map (λ (r : NumberedRecord R). r.content)

  abbrev clashing : Row → Row → Bool
  clashing row other = agree plain places other places row && differ (rowid other) (rowid row)

  test_is : (r s : NumberedRecord R) → value_cmp (Int r.number) (Int s.number) ≡ Less → clashing (numbered_row cells r) (numbered_row cells s) ≡ same r.content s.content
  test_is r s less = ap₂ ◌&&◌ (agrees s.number r.number s.content r.content) (differs s.number r.number less) ∙ alone _

  not_again : (r : NumberedRecord R) (all : List (NumberedRecord R)) → AllByRecursion (λ row. value_cmp (Int r.number) (rowid row) ≡ Less) (records_of all)
      → list_any (clashing (numbered_row cells r)) (records_of all) ≡ false → list_any (same r.content) (contents all) ≡ false
  not_again r [] above none = refl
  not_again r (s ∷ all) above none =
      let both = none_of _ _ none in
      ap₂ ◌||◌ (sym (test_is r s above.0) ∙ both.0) (not_again r all above.1 both.1)

  all_apart : (all : List (NumberedRecord R)) → IsTable (records_of all) → AllByRecursion (λ row. clashes plain places (records_of all) row ≡ false) (records_of all)
      → HaveDistinctKeys same (contents all)
  all_apart [] up none = tt
  all_apart (r ∷ all) up none =
      let rest = all_weaker (λ row. clashes plain places (records_of (r ∷ all)) row ≡ false) (λ row. clashes plain places (records_of all) row ≡ false)
      (λ row clash. (none_of _ _ clash).1) (records_of all) none.1 in
      (not_again r all up.0 (none_of _ _ none.0).1, all_apart all up.1 rest)

  pub apart_by : (read : Row → R) (back : (n : ℤ) (r : R) → read (Int n ∷ cells r) ≡ r) (rows : List Row) → HoldsRecords cells read rows
      → AllByRecursion (λ row. clashes plain places rows row ≡ false) rows → HaveDistinctKeys same (map read rows)
  apart_by read back rows k none =
      let all = map (numbered_from_row read) rows in
      subst (HaveDistinctKeys same) (sym (records_are cells read back rows k))
      (all_apart all (subst IsTable k.rows_read_back k.is_table) (subst (λ l. AllByRecursion (λ row. clashes plain places l row ≡ false) l) k.rows_read_back none))
