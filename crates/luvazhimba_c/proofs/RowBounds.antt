-- How many rows there are at most: each message stands in one, and a row without a message has two of them below it.
use Rattle.std.proofs.Common.{◌≡◌, ℕ, zero, suc, ◌+◌, ◌*◌, ◌<◌, ◌≤◌, Bool, true, false, cond, ◌==◌, List, [], ◌∷◌, length, refl, arith, ap, sym, ◌∙◌, Option, Some, None, ◌⊎◌, inl, inr}
use Rattle.std.specs.Option.{option_map_or}
use Rattle.thread_core.specs.PlaceLaws.{row_count_of_place, HasEachPlaceOnce}
use Rattle.thread_core.specs.RowLaws.{top_child_count, DummiesHaveTwoChildren}
use Rattle.thread_core.specs.TopThread.{is_row_of}
use Rattle.thread_core.specs.declared.row.Row.{Row}
use Rattle.thread_core.proofs.Counting.{one_itself, below_or_not}

-- 1 of a message, and 1 of none
abbrev some_one : Option ℕ → ℕ
some_one None = 0
some_one (Some p) = 1

abbrev none_one : Option ℕ → ℕ
none_one None = 1
none_one (Some p) = 0

abbrev messages_in : List Row → ℕ
messages_in [] = 0
messages_in (row ∷ rows) = some_one row.place + messages_in rows

abbrev dummies_in : List Row → ℕ
dummies_in [] = 0
dummies_in (row ∷ rows) = none_one row.place + dummies_in rows

-- ---- rows without a message

in_all : (rows : List Row) → length rows ≡ messages_in rows + dummies_in rows
in_all [] = refl
in_all (row ∷ rows) = go row.place (in_all rows)
  where
    go : (o : Option ℕ) → length rows ≡ messages_in rows + dummies_in rows
        → suc (length rows) ≡ some_one o + messages_in rows + (none_one o + dummies_in rows)
    go None h = omega (arith, h)
    go (Some p) h = omega (arith, h)

two_below_each : (rows : List Row) → DummiesHaveTwoChildren rows → 2 * dummies_in rows + top_child_count rows ≤ messages_in rows
two_below_each [] h = omega arith
two_below_each (row ∷ rows) h = go row.place refl (row.depth == 0) refl (row.depth == 1) (two_below_each rows h.1)
  where
    go : (o : Option ℕ) → row.place ≡ o → (s : Bool) → (row.depth == 0) ≡ s → (t : Bool) → 2 * dummies_in rows + top_child_count rows ≤ messages_in rows
        → 2 * (none_one o + dummies_in rows) + cond s 0 (cond t 1 0 + top_child_count rows) ≤ some_one o + messages_in rows
    go None e true f t k = let two = (h.0 e).1 in omega (arith, two, k)
    go None e false f t k = absurd (let bad : false ≡ true = sym f ∙ ap (λ (d : ℕ). d == 0) (h.0 e).0 in cc)
    go (Some p) e true f t k = omega (arith, k)
    go (Some p) e false f true k = omega (arith, k)
    go (Some p) e false f false k = omega (arith, k)

-- ---- rows of a message

abbrev sum_below : (ℕ → ℕ) → ℕ → ℕ
sum_below f zero = 0
sum_below f (suc n) = f n + sum_below f n

sum-add : (f g : ℕ → ℕ) (n : ℕ) → sum_below (λ p. f p + g p) n ≡ sum_below f n + sum_below g n
sum-add f g zero = refl
sum-add f g (suc n) = let later = sum-add f g n in omega (arith, later)

-- a place below n is counted
counted : (q n : ℕ) → q < n → 1 ≤ sum_below (λ p. cond (q == p) 1 0) n
counted q zero h = absurd (omega (arith, h))
counted q (suc n) h = go (below_or_not q n) (counted q n)
  where
    go : (q < n) ⊎ (n ≤ q) → (q < n → 1 ≤ sum_below (λ p. cond (q == p) 1 0) n) → 1 ≤ cond (q == n) 1 0 + sum_below (λ p. cond (q == p) 1 0) n
    go (inl low) ih = let later = ih low in omega (arith, later)
    go (inr high) ih =
        let same : q ≡ n = omega (arith, h, high) in
        let here : (q == n) ≡ true = ap (λ (p : ℕ). q == p) (sym same) ∙ one_itself q in
        rw here (omega arith)

sum_of_ones : (f : ℕ → ℕ) (n : ℕ) → ((p : ℕ) → p < n → f p ≡ 1) → sum_below f n ≡ n
sum_of_ones f zero h = refl
sum_of_ones f (suc n) h =
    let here = h n (omega arith) in
    let later = sum_of_ones f n (λ p low. h p (omega (arith, low))) in
    omega (arith, here, later)

each_counted : (n : ℕ) (rows : List Row) → ((p : ℕ) → n ≤ p → row_count_of_place p rows ≡ 0) → messages_in rows ≤ sum_below (λ p. row_count_of_place p rows) n
each_counted n [] h = omega arith
each_counted n (row ∷ rows) h = go row.place refl (each_counted n rows later) (sum-add (λ p. cond (is_row_of p row) 1 0) (λ p. row_count_of_place p rows) n)
  where
    later : (p : ℕ) → n ≤ p → row_count_of_place p rows ≡ 0
    later p high = let both = h p high in omega (arith, both)

    go : (o : Option ℕ) → row.place ≡ o → messages_in rows ≤ sum_below (λ p. row_count_of_place p rows) n
        → sum_below (λ p. cond (is_row_of p row) 1 0 + row_count_of_place p rows) n ≡ sum_below (λ p. cond (is_row_of p row) 1 0) n + sum_below (λ p. row_count_of_place p rows) n
        → some_one o + messages_in rows ≤ sum_below (λ p. cond (is_row_of p row) 1 0 + row_count_of_place p rows) n
    go None e k sum = omega (arith, k, sum)
    go (Some q) e k sum = by_place (below_or_not q n)
      where
        here : (p : ℕ) → is_row_of p row ≡ (q == p)
        here p = ap (λ (o : Option ℕ). option_map_or (λ (at : ℕ). at == p) o false) e

        by_place : (q < n) ⊎ (n ≤ q) → 1 + messages_in rows ≤ sum_below (λ p. cond (is_row_of p row) 1 0 + row_count_of_place p rows) n
        by_place (inl low) =
            let one : 1 ≤ sum_below (λ p. cond (is_row_of p row) 1 0) n = rw e (counted q n low) in
            omega (arith, k, sum, one)
        by_place (inr high) = absurd (
            let one : ◌≡◌ {A = ℕ} (cond (is_row_of q row) 1 0) 1 = ap (λ (t : Bool). cond t 1 0) (here q ∙ one_itself q) in
            let none = h q high in
            omega (arith, one, none)
            )

pub rows_few : (n : ℕ) (rows : List Row) → DummiesHaveTwoChildren rows → HasEachPlaceOnce n rows → length rows ≤ 2 * n
rows_few n rows full once =
    let all = in_all rows in
    let two = two_below_each rows full in
    let each = each_counted n rows once.no_other in
    let sum = sum_of_ones (λ p. row_count_of_place p rows) n once.each_place_once in
    omega (arith, all, two, each, sum)
