-- Records that are put in order one after the other, and what a query on `message` by such an order shows.
use Rattle.std.proofs.Common.{◌≡◌, inl, inr, Bool, true, false, List, [], ◌∷◌, map, filter, refl, ap, subst, ◌∙◌, sym}
use Rattle.std.specs.Prelude.{if◌then◌else◌}
use Rattle.std.specs.List.{AllByRecursion}
use Rattle.std.specs.List.Sorted.{IsPermutation, IsStrictlySortedBy}
use Rattle.std.specs.declared.cmp.Ordering.TheVariants.{Less}
use Rattle.std.proofs.lemmas.Bool.{cases_Bool}
use Rattle.std.proofs.lemmas.List.Sorted.{IsPermutation-map, IsPermutation-refl, IsPermutation-sym, IsPermutation-trans, IsPermutation-cons, IsPermutation-middle}
use Rattle.sqlite.specs.declared.types.Value.TheVariants.{Int}
use Rattle.sqlite.specs.Order.{Row, value_cmp}
use Rattle.sqlite.specs.Tree.{IsTable, rowid}
use Rattle.sqlite.specs.Term.{Term, col}
use Rattle.sqlite.specs.Query.{Query, Output, output, output_cmp}
use Rattle.sqlite_sql.proofs.QueryLemmas.{output_cmp_total}
use Rattle.sqlite_trees.specs.Tree.{IsAscending}
use Rattle.sqlite_trees.proofs.ListLemmas.{map-map, all_weaker, all-map, all-permutation, ascending-filter, ascending_from_map}
use Rattle.sqlite_value.specs.declared.keys.Key.{Key}
use Rattle.archive_model.specs.Filing.{IndexedMessage}
use Rattle.archive_tables.specs.Tables.{NumberedRecord, numbered_row, indexed_message_cells}
use Rattle.archive_tables.specs.Rows.{rowid_result_row}
use Rattle.archive_tables.proofs.OrderLemmas.{one_order}
use Rattle.archive_tables.proofs.SelectLemmas.{plain_query, env_of, passes, Picks}

-- each is put before the first that is not to come before it
pub record Sorts {R : Type 0} (is_before : R → R → Bool) (put : R → List R → List R) (sort : List R → List R) : Type 0 where
  pub alone : (r : R) → put r [] ≡ r ∷ []
  pub puts : (r s : R) (rows : List R) → put r (s ∷ rows) ≡ (if is_before s r then s ∷ put r rows else r ∷ s ∷ rows)
  pub none : sort [] ≡ []
  pub next : (r : R) (rows : List R) → sort (r ∷ rows) ≡ put r (sort rows)

module _ {R : Type 0} {is_before : R → R → Bool} {put : R → List R → List R} {sort : List R → List R} (sorts : Sorts is_before put sort) where
  put_same : (r : R) (rows : List R) → IsPermutation (r ∷ rows) (put r rows)
  put_same r [] = rw (sorts.alone r) (IsPermutation-refl (r ∷ []))
  put_same r (s ∷ rows) = elim (cases_Bool (is_before s r)) [
    | inl before ↦ rw (sorts.puts r s rows, before) (IsPermutation-trans (r ∷ s ∷ rows) (s ∷ r ∷ rows) (s ∷ put r rows) (IsPermutation-middle (r ∷ []) s rows)
        (IsPermutation-cons s (r ∷ rows) (put r rows) (put_same r rows)))
    | inr after ↦ rw (sorts.puts r s rows, after) (IsPermutation-refl (r ∷ s ∷ rows))
  ]

  pub sort_same : (rows : List R) → IsPermutation rows (sort rows)
  sort_same [] = rw sorts.none (IsPermutation-refl [])
  sort_same (r ∷ rows) =
      rw (sorts.next r rows) (IsPermutation-trans (r ∷ rows) (r ∷ sort rows) (put r (sort rows)) (IsPermutation-cons r rows (sort rows) (sort_same rows)) (put_same r (sort rows)))

  module _ (Before Lower : R → R → Type 0) (first : (r s : R) → is_before r s ≡ true → Before r s) (later : (r s : R) → is_before s r ≡ false → Lower r s → Before r s)
      (trans : (r s x : R) → Before r s → Before s x → Before r x) where
    put_rises : (r : R) (rows : List R) → AllByRecursion (Lower r) rows → IsAscending Before rows → IsAscending Before (put r rows)
    put_rises r [] lower up = rw (sorts.alone r) (tt, tt)
    put_rises r (s ∷ rows) lower up = elim (cases_Bool (is_before s r)) [
      | inl before ↦ rw (sorts.puts r s rows, before)
          (all-permutation (Before s) (r ∷ rows) (put r rows) (put_same r rows) (first s r before, up.0), put_rises r rows lower.1 up.1)
      | inr after ↦
          let here = later r s after lower.0 in
          rw (sorts.puts r s rows, after) ((here, all_weaker (Before s) (Before r) (λ x. trans r s x here) rows up.0), up)
    ]

    -- records of rising numbers, in an order that goes by these at last
    sort_rises : (rows : List R) → IsAscending Lower rows → IsAscending Before (sort rows)
    sort_rises [] up = rw sorts.none tt
    sort_rises (r ∷ rows) up =
        rw (sorts.next r rows) (put_rises r (sort rows) (all-permutation (Lower r) rows (sort rows) (sort_same rows) up.0) (sort_rises rows up.1))

-- what is made of each is in the same order
module _ {R S : Type 0} (f : R → S) {is_before : R → R → Bool} {put : R → List R → List R} {sort : List R → List R} (sorts : Sorts is_before put sort)
    {is_before_2 : S → S → Bool} {put_2 : S → List S → List S} {sort_2 : List S → List S} (sorts_2 : Sorts is_before_2 put_2 sort_2)
    (same : (r s : R) → is_before r s ≡ is_before_2 (f r) (f s)) where
  put_maps : (r : R) (rows : List R) → map f (put r rows) ≡ put_2 (f r) (map f rows)
  put_maps r [] = rw (sorts.alone r, sorts_2.alone (f r)) refl
  put_maps r (s ∷ rows) = elim (cases_Bool (is_before s r)) [
    | inl before ↦ let also = sym (same s r) ∙ before in rw (sorts.puts r s rows, sorts_2.puts (f r) (f s) (map f rows), before, also) (ap (λ l. f s ∷ l) (put_maps r rows))
    | inr after ↦ let also = sym (same s r) ∙ after in rw (sorts.puts r s rows, sorts_2.puts (f r) (f s) (map f rows), after, also) refl
  ]

  pub sort_maps : (rows : List R) → map f (sort rows) ≡ sort_2 (map f rows)
  sort_maps [] = rw (sorts.none, sorts_2.none) refl
  sort_maps (r ∷ rows) = rw (sorts.next r rows, sorts_2.next (f r) (map f rows)) (put_maps r (sort rows) ∙ ap (put_2 (f r)) (sort_maps rows))

-- ---- a query by such an order

abbrev pub number_cell : List Term
number_cell = col 1 0 ∷ []

-- by their numbers
abbrev pub IsLower : NumberedRecord IndexedMessage → NumberedRecord IndexedMessage → Type 0
IsLower r s = value_cmp (Int r.number) (Int s.number) ≡ Less

module _ (terms : List Term) (order : List (Term × Key)) (params : Row) where
  abbrev query : Query
  query = plain_query 8 terms number_cell order

  abbrev pub out : NumberedRecord IndexedMessage → Output
  out r = output query (env_of params (numbered_row indexed_message_cells r))

  abbrev pub IsBefore : NumberedRecord IndexedMessage → NumberedRecord IndexedMessage → Type 0
  IsBefore r s = output_cmp query (out r) (out s) ≡ Less

  strictly : (rows : List (NumberedRecord IndexedMessage)) → IsAscending IsBefore rows → IsStrictlySortedBy (output_cmp query) (map out rows)
  unfolding IsStrictlySortedBy
  strictly [] up = tt
  strictly (r ∷ rows) up = (all-map (λ o. output_cmp query (out r) o ≡ Less) out rows up.0, strictly rows up.1)

  module _ {is_before : NumberedRecord IndexedMessage → NumberedRecord IndexedMessage → Bool}
      {put : NumberedRecord IndexedMessage → List (NumberedRecord IndexedMessage) → List (NumberedRecord IndexedMessage)}
      {sort : List (NumberedRecord IndexedMessage) → List (NumberedRecord IndexedMessage)} (sorts : Sorts is_before put sort)
      (first : (r s : NumberedRecord IndexedMessage) → is_before r s ≡ true → IsBefore r s)
      (later : (r s : NumberedRecord IndexedMessage) → is_before s r ≡ false → IsLower r s → IsBefore r s) where
    -- it shows the numbers of the rows that pass, in this order
    pub picked_places : (rows : List Row) → IsTable rows → (them : List (NumberedRecord IndexedMessage)) → filter (passes terms params) rows ≡ map (numbered_row indexed_message_cells) them
        → (shown : List Row) → Picks query params rows shown → shown ≡ map rowid_result_row (map (λ (r : NumberedRecord IndexedMessage). r.number) (sort them))
    picked_places rows up them hit shown it =
        let start : map (λ row. output query (env_of params row)) (filter (passes terms params) rows) ≡ map out them =
        ap (map (λ row. output query (env_of params row))) hit ∙ map-map (λ row. output query (env_of params row)) (numbered_row indexed_message_cells) them in
        let there = IsPermutation-trans (map out (sort them)) (map out them) it.ordered
        (IsPermutation-sym (map out them) (map out (sort them)) (IsPermutation-map out them (sort them) (sort_same sorts them))) (subst (λ l. IsPermutation l it.ordered) start it.same) in
        let numbers = subst IsTable hit (ascending-filter (λ a b. value_cmp (rowid a) (rowid b) ≡ Less) (passes terms params) rows up) in
        let rises = sort_rises sorts IsBefore IsLower first later (λ r s x. (output_cmp_total query).trans (out r) (out s) (out x)) them
        (ascending_from_map (λ a b. value_cmp (rowid a) (rowid b) ≡ Less) (numbered_row indexed_message_cells) them numbers) in
        let ordered = one_order (output_cmp_total query) (map out (sort them)) it.ordered (strictly (sort them) rises) there it.sorted in
        it.is ∙ ap (map (λ (o : Output). o.1)) ordered ∙ map-map (λ (o : Output). o.1) out (sort them)
        ∙ sym (map-map rowid_result_row (λ (r : NumberedRecord IndexedMessage). r.number) (sort them))
