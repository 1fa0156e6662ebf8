-- Rows of records under rising numbers: where a new row goes.
use Rattle.std.proofs.Common.{◌≡◌, ◌⊎◌, inl, inr, ℤ, pos, ◌+ℤ◌, List, [], ◌∷◌, ◌++◌, map, fold, refl, sym, ap, ap₂, subst, ◌∙◌, arith}
use Rattle.std.specs.Prelude.{false}
use Rattle.std.specs.List.{AllByRecursion}
use Rattle.std.specs.Cmp.{int_cmp_is}
use Rattle.std.specs.Int.Signed.{◌<ℤ◌}
use Rattle.std.specs.Ordering.{int_cmp, is_lt}
use Rattle.std.specs.declared.cmp.Ordering.TheVariants.{Less}
use Rattle.std.proofs.lemmas.Int.{ints}
use Rattle.std.proofs.lemmas.Bool.Decides.{nat_tests}
use Rattle.std.proofs.lemmas.Bool.{cases_Bool}
use Rattle.std.proofs.lemmas.List.{map-append}
use Rattle.sqlite.specs.declared.types.Value.TheVariants.{Int}
use Rattle.sqlite.specs.Order.{Row, value_cmp}
use Rattle.sqlite.specs.Tree.{IsTable, put_row, rowid}
use Rattle.sqlite.specs.Edit.{id_in, next_rowid, at_least}
use Rattle.sqlite.specs.Rowids.TheVariants.{Above}
use Rattle.sqlite_value.proofs.OrderLemmas.{value_cmp_total, value_cmp-Int}
use Rattle.sqlite_trees.proofs.ListLemmas.{all_weaker}
use Rattle.sqlite_trees.proofs.TreeLemmas.{IsTable-put_row}
use Rattle.archive_tables.specs.Tables.{NumberedRecord, numbered_row, numbered_from_row, HoldsRecords}

abbrev HasNumber : Row → Type 0
HasNumber row = rowid row ≡ Int (id_in (rowid row))

abbrev pub AreBelow : ℤ → List Row → Type 0
AreBelow n = AllByRecursion (λ row. value_cmp (rowid row) (Int n) ≡ Less)

-- ---- numbers

after_it : (n : ℤ) → int_cmp n (n +ℤ pos 1) ≡ Less
after_it n = sym (int_cmp_is n (n +ℤ pos 1) Less (omega (arith, ints)))

-- the next number is above all
all_below : (first : ℤ) (rows : List Row) → IsTable rows → AllByRecursion HasNumber rows → AreBelow (fold (λ _ row. id_in (rowid row) +ℤ pos 1) first rows) rows
all_below first [] up num = tt
all_below first (x ∷ []) up num = (subst (λ v. value_cmp v (Int (id_in (rowid x) +ℤ pos 1)) ≡ Less) (sym num.0) (value_cmp-Int _ _ ∙ after_it (id_in (rowid x))), tt)
all_below first (x ∷ y ∷ more) up num =
    let rest = all_below (id_in (rowid x) +ℤ pos 1) (y ∷ more) up.1 num.1 in
    (value_cmp_total.trans _ _ _ up.0.0 rest.0, rest)

pub int_less : {a b : ℤ} → int_cmp a b ≡ Less → a <ℤ b
int_less {a} {b} less = grind (arith, ints, nat_tests)

below_more : (a b : ℤ) (rows : List Row) → (a ≡ b) ⊎ (a <ℤ b) → AreBelow a rows → AreBelow b rows
below_more a b rows (inl same) all = subst (λ n. AreBelow n rows) same all
below_more a b rows (inr less) all = all_weaker _ (λ row. value_cmp (rowid row) (Int b) ≡ Less)
    (λ row first. value_cmp_total.trans _ _ _ first (value_cmp-Int _ _ ∙ sym (int_cmp_is a b Less less))) rows all

-- a count of AUTOINCREMENT only raises it
pub raised : (top id : ℤ) → (id ≡ at_least (Above top) id) ⊎ (id <ℤ at_least (Above top) id)
raised top id = elim (cases_Bool (is_lt (int_cmp top id))) [
  | inl below ↦ inl (rw below)
  | inr past ↦ inr (rw past (above_last top id past))
]
  where
    above_last : (a b : ℤ) → is_lt (int_cmp a b) ≡ false → b <ℤ (a +ℤ pos 1)
    above_last a b h = grind (arith, ints, nat_tests)

put_last : (new : Row) (n : ℤ) (rows : List Row) → rowid new ≡ Int n → AreBelow n rows → put_row new rows ≡ rows ++ new ∷ []
put_last new n [] is all = refl
put_last new n (row ∷ rows) is all = rw (is, all.0) (ap (λ l. row ∷ l) (put_last new n rows is all.1))

-- ---- rows of records

module _ {R : Type 0} (cells : R → Row) (read : Row → R) (back : (n : ℤ) (r : R) → read (Int n ∷ cells r) ≡ r) where
  abbrev rows_of : List (NumberedRecord R) → List Row
  rows_of = map (numbered_row cells)

  have_numbers : (all : List (NumberedRecord R)) → AllByRecursion HasNumber (rows_of all)
  have_numbers [] = tt
  have_numbers (r ∷ more) = (refl, have_numbers more)

  read_back : (all : List (NumberedRecord R)) → map (numbered_from_row read) (rows_of all) ≡ all
  read_back [] = refl
  read_back (r ∷ more) = ap₂ (λ x l. record { number = r.number; content = x } ∷ l) (back r.number r.content) (read_back more)

  pub records_back : (all : List (NumberedRecord R)) → map read (rows_of all) ≡ map (λ (r : NumberedRecord R). r.content) all
  records_back [] = refl
  records_back (r ∷ more) = ap₂ ◌∷◌ (back r.number r.content) (records_back more)

  pub holds_from : (rows : List Row) (all : List (NumberedRecord R)) → rows ≡ rows_of all → IsTable rows → HoldsRecords cells read rows ×
      (map read rows ≡ map (λ (r : NumberedRecord R). r.content) all)
  holds_from rows all is up =
      (record { rows_read_back = is ∙ ap rows_of (sym (ap (map (numbered_from_row read)) is ∙ read_back all)); is_table = up }, ap (map read) is ∙ records_back all)

  pub records_are : (rows : List Row) → HoldsRecords cells read rows → map read rows ≡ map (λ (r : NumberedRecord R). r.content) (map (numbered_from_row read) rows)
  records_are rows k = (holds_from rows (map (numbered_from_row read) rows) k.rows_read_back k.is_table).1

  -- a row whose number is not below the next one goes to the end
  pub put_past : (rows : List Row) (new : NumberedRecord R) → (next_rowid rows ≡ new.number) ⊎ (next_rowid rows <ℤ new.number) → HoldsRecords cells read rows
      → HoldsRecords cells read (put_row (numbered_row cells new) rows) × (map read (put_row (numbered_row cells new) rows) ≡ map read rows ++ new.content ∷ [])
      × (put_row (numbered_row cells new) rows ≡ rows ++ numbered_row cells new ∷ [])
  put_past rows new far k =
      let all = map (numbered_from_row read) rows in
      let num = subst (AllByRecursion HasNumber) (sym k.rows_read_back) (have_numbers all) in
      let last = put_last (numbered_row cells new) new.number rows refl (below_more _ _ rows far (all_below (pos 1) rows k.is_table num)) in
      let it = holds_from _ _ (last ∙ ap (λ l. l ++ numbered_row cells new ∷ []) k.rows_read_back ∙ sym (map-append (numbered_row cells) all (new ∷ [])))
      (IsTable-put_row (numbered_row cells new) rows k.is_table) in
      (it.0, it.1 ∙ map-append (λ (r : NumberedRecord R). r.content) all (new ∷ []) ∙ ap (λ l. l ++ new.content ∷ []) (sym (records_are rows k)), last)

  -- above zero stays the rows' numbers: the new one is above the last, or the first
  positive_next : (rows : List Row) → AllByRecursion HasNumber rows → AllByRecursion (λ row. value_cmp (Int (pos 0)) (rowid row) ≡ Less) rows → (first : ℤ) → pos 0 <ℤ first
      → pos 0 <ℤ fold (λ _ row. id_in (rowid row) +ℤ pos 1) first rows
  positive_next [] num all first above = above
  positive_next (row ∷ rows) num all first above = positive_next rows num.1 all.1 (id_in (rowid row) +ℤ pos 1)
      (successor (id_in (rowid row)) (zero_below (id_in (rowid row)) (subst (λ v. value_cmp (Int (pos 0)) v ≡ Less) num.0 all.0)))
    where
      zero_below : (n : ℤ) → value_cmp (Int (pos 0)) (Int n) ≡ Less → pos 0 <ℤ n
      zero_below n less = int_less (sym (value_cmp-Int (pos 0) n) ∙ less)

      successor : (n : ℤ) → pos 0 <ℤ n → pos 0 <ℤ (n +ℤ pos 1)
      successor n above = omega (arith, ints, above)

  all_and_last : (P : Row → Type 0) (rows : List Row) (new : Row) → AllByRecursion P rows → P new → AllByRecursion P (rows ++ new ∷ [])
  all_and_last P [] new all last = (last, tt)
  all_and_last P (row ∷ rows) new all last = (all.0, all_and_last P rows new all.1 last)

  pub positive_more : (rows : List Row) (new : NumberedRecord R) → (next_rowid rows ≡ new.number) ⊎ (next_rowid rows <ℤ new.number) → HoldsRecords cells read rows
      → AllByRecursion (λ row. value_cmp (Int (pos 0)) (rowid row) ≡ Less) rows → AllByRecursion (λ row. value_cmp (Int (pos 0)) (rowid row) ≡ Less) (put_row (numbered_row cells new) rows)
  positive_more rows new far k all =
      let num = subst (AllByRecursion HasNumber) (sym k.rows_read_back) (have_numbers (map (numbered_from_row read) rows)) in
      let next = positive_next rows num all (pos 1) (omega (arith, ints)) in
      let above = above_too (next_rowid rows) new.number next far in
      subst (AllByRecursion (λ row. value_cmp (Int (pos 0)) (rowid row) ≡ Less)) (sym ((put_past rows new far k).2))
      (all_and_last (λ row. value_cmp (Int (pos 0)) (rowid row) ≡ Less) rows (numbered_row cells new) all (value_cmp-Int _ _ ∙ sym (int_cmp_is (pos 0) new.number Less above)))
    where
      above_too : (a b : ℤ) → pos 0 <ℤ a → (a ≡ b) ⊎ (a <ℤ b) → pos 0 <ℤ b
      above_too a b above (inl same) = subst (λ n. pos 0 <ℤ n) same above
      above_too a b above (inr less) = omega (arith, ints, above, less)
