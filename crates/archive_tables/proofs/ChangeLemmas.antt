-- What UPDATE and DELETE make of a table in which at most one row is hit.
use Rattle.std.proofs.Common.{◌≡◌, ◌⊎◌, inl, inr, ℤ, List, [], ◌∷◌, ◌++◌, map, filter, Bool, true, false, not, refl, sym, ap, ap₂, subst, ◌∙◌}
use Rattle.std.specs.Prelude.{if◌then◌else◌, ◌||◌}
use Rattle.std.specs.List.{AllByRecursion, list_any}
use Rattle.std.specs.Ordering.{ordering_reverse}
use Rattle.std.specs.declared.cmp.Ordering.TheVariants.{Less, Equal, Greater}
use Rattle.std.proofs.lemmas.Bool.{cases_Bool, or_parts}
use Rattle.std.proofs.lemmas.Cmp.{tied_itself}
use Rattle.sqlite.specs.declared.types.Value.{Value}
use Rattle.sqlite.specs.declared.types.Value.TheVariants.{Int}
use Rattle.sqlite.specs.Order.{Row, value_cmp}
use Rattle.sqlite.specs.Tree.{IsTable, put_row, without_rowid, rowid}
use Rattle.sqlite_trees.proofs.ListLemmas.{map-map, filter-map}
use Rattle.sqlite_value.proofs.OrderLemmas.{value_cmp_total}
use Rattle.archive_tables.specs.Tables.{NumberedRecord, numbered_row, numbered_from_row, HoldsRecords, HaveDistinctKeys}
use Rattle.archive_tables.proofs.RowLemmas.{holds_from, records_are}

-- ---- records that are apart

module _ {R : Type 0} (same : R → R → Bool) where
  any_mapped : (g : R → R) (a b : R) (xs : List R) → ((x y : R) → same (g x) (g y) ≡ same x y) → list_any (same (g a)) (map g xs) ≡ list_any (same a) xs
  any_mapped g a b [] keeps = refl
  any_mapped g a b (x ∷ xs) keeps = ap₂ ◌||◌ (keeps a x) (any_mapped g a b xs keeps)

  pub apart_mapped : (g : R → R) → ((x y : R) → same (g x) (g y) ≡ same x y) → (xs : List R) → HaveDistinctKeys same xs → HaveDistinctKeys same (map g xs)
  apart_mapped g keeps [] apart = tt
  apart_mapped g keeps (x ∷ xs) apart = (any_mapped g x x xs keeps ∙ apart.0, apart_mapped g keeps xs apart.1)

  none_filtered : (q p : R → Bool) (xs : List R) → list_any q xs ≡ false → list_any q (filter p xs) ≡ false
  none_filtered q p [] none = refl
  none_filtered q p (x ∷ xs) none =
      let both = or_parts (q x) (list_any q xs) none in
      let rest = none_filtered q p xs both.1 in
      elim (cases_Bool (p x)) [ inl kept ↦ rw kept (rw both.0 rest) | inr dropped ↦ rw dropped rest ]

  pub apart_filtered : (p : R → Bool) (xs : List R) → HaveDistinctKeys same xs → HaveDistinctKeys same (filter p xs)
  apart_filtered p [] apart = tt
  apart_filtered p (x ∷ xs) apart = elim (cases_Bool (p x)) [
    | inl kept ↦ rw kept (none_filtered (same x) p xs apart.0, apart_filtered p xs apart.1)
    | inr dropped ↦ rw dropped (apart_filtered p xs apart.1)
  ]

  any_more : (q : R → Bool) (xs : List R) (new : R) → list_any q xs ≡ false → q new ≡ false → list_any q (xs ++ new ∷ []) ≡ false
  any_more q [] new none last = rw last refl
  any_more q (x ∷ xs) new none last = let both = or_parts (q x) (list_any q xs) none in rw both.0 (any_more q xs new both.1 last)

  -- one more that is the same as none of them
  pub apart_more : (xs : List R) (new : R) → ((a b : R) → same a b ≡ same b a) → list_any (same new) xs ≡ false → HaveDistinctKeys same xs → HaveDistinctKeys same (xs ++ new ∷ [])
  apart_more [] new flips none apart = (refl, tt)
  apart_more (x ∷ xs) new flips none apart =
      let both = or_parts (same new x) (list_any (same new) xs) none in
      (any_more (same x) xs new apart.0 (flips x new ∙ both.0), apart_more xs new flips both.1 apart.1)

-- ---- rows

module _ {R : Type 0} (cells : R → Row) (read : Row → R) (back : (n : ℤ) (r : R) → read (Int n ∷ cells r) ≡ r) (wanted : R → Bool) where
  abbrev rows_of : List (NumberedRecord R) → List Row
  rows_of = map (numbered_row cells)

  abbrev its : List (NumberedRecord R) → List R
  its = map (λ (r : NumberedRecord R). r.content)

  abbrev hit : NumberedRecord R → Bool
  hit r = wanted r.content

  abbrev AreAbove : ℤ → List (NumberedRecord R) → Type 0
  AreAbove n all = AllByRecursion (λ row. value_cmp (Int n) (rowid row) ≡ Less) (rows_of all)

  above_reversed : (a b : Value) → value_cmp a b ≡ Less → value_cmp b a ≡ Greater
  above_reversed a b less = value_cmp_total.antisymm b a ∙ ap ordering_reverse less

  no_number : (n : ℤ) (all : List (NumberedRecord R)) → AreAbove n all → without_rowid n (rows_of all) ≡ rows_of all
  no_number n [] above = refl
  no_number n (r ∷ all) above = rw (above_reversed _ _ above.0) (ap (λ l. numbered_row cells r ∷ l) (no_number n all above.1))

  first_put : (new : NumberedRecord R) (all : List (NumberedRecord R)) → AreAbove new.number all → put_row (numbered_row cells new) (rows_of all) ≡ numbered_row cells new ∷ rows_of all
  first_put new [] above = refl
  first_put new (r ∷ all) above = rw (above_reversed _ _ above.0) refl

  hit_above : (n : ℤ) (r : NumberedRecord R) (all : List (NumberedRecord R)) → AreAbove n all → filter hit all ≡ r ∷ [] → value_cmp (Int n) (Int r.number) ≡ Less
  hit_above n r [] above is = absurd cc
  hit_above n r (x ∷ all) above is = elim (cases_Bool (wanted x.content)) [
    | inl found ↦ let parts = rw found at is in let first : x ≡ r = cc in subst (λ (y : NumberedRecord R). value_cmp (Int n) (Int y.number) ≡ Less) first above.0
    | inr other ↦ hit_above n r all above.1 (rw other at is)
  ]

  itself : (n : ℤ) → value_cmp (Int n) (Int n) ≡ Equal
  itself n = tied_itself value_cmp_total (Int n)

  -- ---- at most one row is hit

  no_hit : (all : List (NumberedRecord R)) → list_any wanted (its all) ≡ false → filter hit all ≡ []
  no_hit [] none = refl
  no_hit (r ∷ all) none = elim (cases_Bool (wanted r.content)) [
    | inl found ↦ absurd (let wrong = rw found at none in cc)
    | inr other ↦ rw other (no_hit all (rw other at none))
  ]

  any_alike : (same : R → R → Bool) (a : R) → ((b : R) → same a b ≡ wanted b) → (xs : List R) → list_any (same a) xs ≡ list_any wanted xs
  any_alike same a alike [] = refl
  any_alike same a alike (x ∷ xs) = ap₂ ◌||◌ (alike x) (any_alike same a alike xs)

  pub one_hit : (same : R → R → Bool) → ((a b : R) → wanted a ≡ true → same a b ≡ wanted b) → (all : List (NumberedRecord R)) → HaveDistinctKeys same (its all)
      → (filter hit all ≡ []) ⊎ ((r : NumberedRecord R) × (filter hit all ≡ r ∷ []))
  one_hit same alike [] apart = inl refl
  one_hit same alike (r ∷ all) apart = elim (cases_Bool (wanted r.content)) [
    | inl found ↦ inr (r, rw found (ap (λ l. r ∷ l) (no_hit all (sym (any_alike same r.content (λ b. alike r.content b found) (its all)) ∙ apart.0))))
    | inr other ↦ rw other (one_hit same alike all apart.1)
  ]

  -- ---- UPDATE

  module _ (change : R → R) where
    abbrev changed : R → R
    changed r = if wanted r then change r else r

    abbrev moved : NumberedRecord R → NumberedRecord R
    moved r = record r { content = changed r.content }

    unmoved : (all : List (NumberedRecord R)) → filter hit all ≡ [] → map moved all ≡ all
    unmoved [] none = refl
    unmoved (r ∷ all) none = elim (cases_Bool (wanted r.content)) [
      | inl found ↦ absurd (let wrong = rw found at none in cc)
      | inr other ↦ rw other (ap (λ l. r ∷ l) (unmoved all (rw other at none)))
    ]

    its_moved : (all : List (NumberedRecord R)) → its (map moved all) ≡ map changed (its all)
    its_moved all = map-map (λ (r : NumberedRecord R). r.content) moved all ∙ sym (map-map changed (λ (r : NumberedRecord R). r.content) all)

    above_moved : (n : ℤ) (all : List (NumberedRecord R)) → AreAbove n all → AreAbove n (map moved all)
    above_moved n [] above = tt
    above_moved n (r ∷ all) above = (above.0, above_moved n all above.1)

    rising_moved : (all : List (NumberedRecord R)) → IsTable (rows_of all) → IsTable (rows_of (map moved all))
    rising_moved [] up = tt
    rising_moved (r ∷ all) up = (above_moved r.number all up.0, rising_moved all up.1)

    abbrev swapped : NumberedRecord R → List Row → List Row
    swapped r rows = put_row (numbered_row cells (record r { content = change r.content })) (without_rowid r.number rows)

    put_first : (x : NumberedRecord R) (all : List (NumberedRecord R)) → wanted x.content ≡ true → AreAbove x.number all → filter hit all ≡ []
        → swapped x (rows_of (x ∷ all)) ≡ rows_of (map moved (x ∷ all))
    put_first x all found above none =
        let new : NumberedRecord R = record x { content = change x.content } in
        rw (itself x.number, found) (ap (put_row (numbered_row cells new)) (no_number x.number all above) ∙ first_put new all above ∙ ap (λ l. numbered_row cells new ∷ rows_of l)
        (sym (unmoved all none)))

    put_back : (r : NumberedRecord R) (all : List (NumberedRecord R)) → IsTable (rows_of all) → filter hit all ≡ r ∷ [] → swapped r (rows_of all) ≡ rows_of (map moved all)
    put_back r [] up is = absurd cc
    put_back r (x ∷ all) up is = elim (cases_Bool (wanted x.content)) [
      | inl found ↦
          let parts = rw found at is in
          let first : x ≡ r = cc in
          let rest : filter hit all ≡ [] = cc in
          subst (λ y. swapped y (rows_of (x ∷ all)) ≡ rows_of (map moved (x ∷ all))) first (put_first x all found up.0 rest)
      | inr other ↦
          let less = hit_above x.number r all up.0 (rw other at is) in
          rw (less, other) (rw less (ap (λ l. numbered_row cells x ∷ l) (put_back r all up.1 (rw other at is))))
    ]

    -- the records that are wanted are changed, each in its place
    pub updated : (same : R → R → Bool) → ((a b : R) → wanted a ≡ true → same a b ≡ wanted b) → (rows new : List Row) → HoldsRecords cells read rows → HaveDistinctKeys same (map read rows)
        → ((r : NumberedRecord R) → filter hit (map (numbered_from_row read) rows) ≡ r ∷ [] → new ≡ swapped r rows) → (filter hit (map (numbered_from_row read) rows) ≡ [] → new ≡ rows)
        → HoldsRecords cells read new × (map read new ≡ map changed (map read rows))
        × ((n : ℤ) → AllByRecursion (λ row. value_cmp (Int n) (rowid row) ≡ Less) rows → AllByRecursion (λ row. value_cmp (Int n) (rowid row) ≡ Less) new)
    updated same alike rows new k apart one none =
        let all = map (numbered_from_row read) rows in
        let its_are = records_are cells read back rows k in
        let up = subst IsTable k.rows_read_back k.is_table in
        let new_is : new ≡ rows_of (map moved all) = elim (one_hit same alike all (subst (HaveDistinctKeys same) its_are apart)) [
          | inl nothing ↦ none nothing ∙ k.rows_read_back ∙ ap rows_of (sym (unmoved all nothing))
          | inr found ↦ one found.0 found.1 ∙ ap (swapped found.0) k.rows_read_back ∙ put_back found.0 all up found.1
        ] in
        let it = holds_from cells read back new (map moved all) new_is (subst IsTable (sym new_is) (rising_moved all up)) in (
          it.0,
          it.1 ∙ its_moved all ∙ ap (map changed) (sym its_are),
          λ n above.
              subst (AllByRecursion (λ row. value_cmp (Int n) (rowid row) ≡ Less)) (sym new_is)
              (above_moved n all (subst (AllByRecursion (λ row. value_cmp (Int n) (rowid row) ≡ Less)) k.rows_read_back above)),
        )

  -- ---- DELETE

  abbrev left : NumberedRecord R → Bool
  left r = not (wanted r.content)

  all_left : (all : List (NumberedRecord R)) → filter hit all ≡ [] → filter left all ≡ all
  all_left [] none = refl
  all_left (r ∷ all) none = elim (cases_Bool (wanted r.content)) [
    | inl found ↦ absurd (let wrong = rw found at none in cc)
    | inr other ↦ rw other (ap (λ l. r ∷ l) (all_left all (rw other at none)))
  ]

  its_left : (all : List (NumberedRecord R)) → its (filter left all) ≡ filter (λ r. not (wanted r)) (its all)
  its_left all = sym (filter-map (λ r. not (wanted r)) (λ (r : NumberedRecord R). r.content) all)

  above_left : (n : ℤ) (all : List (NumberedRecord R)) → AreAbove n all → AreAbove n (filter left all)
  above_left n [] above = tt
  above_left n (r ∷ all) above = elim (cases_Bool (wanted r.content)) [ inl found ↦ rw found (above_left n all above.1) | inr other ↦ rw other (above.0, above_left n all above.1) ]

  rising_left : (all : List (NumberedRecord R)) → IsTable (rows_of all) → IsTable (rows_of (filter left all))
  rising_left [] up = tt
  rising_left (r ∷ all) up =
      elim (cases_Bool (wanted r.content)) [ inl found ↦ rw found (rising_left all up.1) | inr other ↦ rw other (above_left r.number all up.0, rising_left all up.1) ]

  drop_first : (x : NumberedRecord R) (all : List (NumberedRecord R)) → wanted x.content ≡ true → AreAbove x.number all → filter hit all ≡ [] → without_rowid x.number
      (rows_of (x ∷ all)) ≡ rows_of (filter left (x ∷ all))
  drop_first x all found above none = rw (itself x.number, found) (no_number x.number all above ∙ ap rows_of (sym (all_left all none)))

  drop_one : (r : NumberedRecord R) (all : List (NumberedRecord R)) → IsTable (rows_of all) → filter hit all ≡ r ∷ [] → without_rowid r.number (rows_of all) ≡ rows_of (filter left all)
  drop_one r [] up is = absurd cc
  drop_one r (x ∷ all) up is = elim (cases_Bool (wanted x.content)) [
    | inl found ↦
        let parts = rw found at is in
        let first : x ≡ r = cc in
        let rest : filter hit all ≡ [] = cc in
        subst (λ (y : NumberedRecord R). without_rowid y.number (rows_of (x ∷ all)) ≡ rows_of (filter left (x ∷ all))) first (drop_first x all found up.0 rest)
    | inr other ↦
        let less = hit_above x.number r all up.0 (rw other at is) in
        rw (less, other) (ap (λ l. numbered_row cells x ∷ l) (drop_one r all up.1 (rw other at is)))
  ]

  -- the records that are wanted go
  pub deleted : (same : R → R → Bool) → ((a b : R) → wanted a ≡ true → same a b ≡ wanted b) → (rows new : List Row) → HoldsRecords cells read rows → HaveDistinctKeys same (map read rows)
      → ((r : NumberedRecord R) → filter hit (map (numbered_from_row read) rows) ≡ r ∷ [] → new ≡ without_rowid r.number rows) → (filter hit (map (numbered_from_row read) rows) ≡ [] → new ≡ rows)
      → HoldsRecords cells read new × (map read new ≡ filter (λ r. not (wanted r)) (map read rows))
  deleted same alike rows new k apart one none =
      let all = map (numbered_from_row read) rows in
      let its_are = records_are cells read back rows k in
      let up = subst IsTable k.rows_read_back k.is_table in
      let new_is : new ≡ rows_of (filter left all) = elim (one_hit same alike all (subst (HaveDistinctKeys same) its_are apart)) [
        | inl nothing ↦ none nothing ∙ k.rows_read_back ∙ ap rows_of (sym (all_left all nothing))
        | inr found ↦ one found.0 found.1 ∙ ap (without_rowid found.0.number) k.rows_read_back ∙ drop_one found.0 all up found.1
      ] in
      let it = holds_from cells read back new (filter left all) new_is (subst IsTable (sym new_is) (rising_left all up)) in
      (it.0, it.1 ∙ its_left all ∙ ap (filter (λ r. not (wanted r))) (sym its_are))
