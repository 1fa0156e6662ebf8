-- Keys stand as their first bytes do, where these differ.
use Rattle.std.proofs.Common.{◌≡◌, refl, sym, ap, ◌∙◌, subst, ℕ, zero, suc, ◌+◌, ◌*◌, ◌^◌, ◌<◌, arith, Bool, true, false, List, [], ◌∷◌, length, map}
use Rattle.std.proofs.Common.{get_or, slice_index, Less, Equal, Greater, ltb, ltb-true, ltb-false}
use Rattle.std.specs.Cmp.{IsStrictWeakOrder, nat_cmp_is}
use Rattle.std.specs.Cmp.Lexicographic.{slice_cmp}
use Rattle.std.specs.List.{All, Contains}
use Rattle.std.specs.List.Sorted.{IsSortedBy}
use Rattle.std.specs.Ordering.{is_lt, nat_cmp, ordering_reverse, ordering_then}
use Rattle.std.specs.declared.cmp.Ordering.{Ordering}
use Rattle.std.proofs.Math.Nat.{mul_comm, pow-suc}
use Rattle.std.proofs.lemmas.Cmp.{nat_cmp_total, nat_list_cmp_total, on_total, then_total}
use Rattle.std.proofs.lemmas.List.{get_or-map, length-map}
use Rattle.std.proofs.lemmas.List.Elements.{All-get_or}
use Rattle.std.proofs.lemmas.List.Sorted.{ranks_by}
use Rattle.std.proofs.lemmas.Nat.{mul-add-lt}
use Rattle.archive_results.specs.Shown.{Line}
use Rattle.archive_cache.specs.declared.keyed.KeyStart.{KeyStart}
use Rattle.archive_cache.specs.Keyed.{AreBytes, IsKeyStart, key_at, key_start, place_cmp, start_at, start_cmp}
use Rattle.archive_cache.proofs.KeyLemmas.{total}

-- ---- n bytes as one number

-- those from a place on
abbrev value : (n : ℕ) (bytes : List ℕ) (at : ℕ) → ℕ
value zero bytes at = 0
value (suc n) bytes at = slice_index bytes at * 256 ^ n + value n bytes (suc at)

joined : (a b c d e f g h : ℕ)
    → a * 256 ^ 7 + b * 256 ^ 6 + c * 256 ^ 5 + d * 256 ^ 4 + e * 256 ^ 3 + f * 256 ^ 2 + g * 256 + h
    ≡ a * 256 ^ 7 + (b * 256 ^ 6 + (c * 256 ^ 5 + (d * 256 ^ 4 + (e * 256 ^ 3 + (f * 256 ^ 2 + (g * 256 ^ 1 + (h * 256 ^ 0 + 0)))))))
joined a b c d e f g h = omega arith

start_is : (key : List ℕ) → key_start key ≡ value 8 key 0
start_is key = joined (slice_index key 0) (slice_index key 1) (slice_index key 2) (slice_index key 3) (slice_index key 4) (slice_index key 5) (slice_index key 6) (slice_index key 7)

later : (n b : ℕ) (bytes : List ℕ) (at : ℕ) → value n (b ∷ bytes) (suc at) ≡ value n bytes at
later zero b bytes at = refl
later (suc n) b bytes at = ap (λ v. slice_index bytes at * 256 ^ n + v) (later n b bytes (suc at))

nothing : (n at : ℕ) → value n [] at ≡ 0
nothing zero at = refl
nothing (suc n) at = omega (arith, nothing n (suc at))

within : (n : ℕ) (bytes : List ℕ) (at : ℕ) → AreBytes bytes → value n bytes at < 256 ^ n
within zero bytes at fits = omega arith
within (suc n) bytes at fits =
    let it = mul-add-lt (slice_index bytes at) (256 ^ n) (value n bytes (suc at)) 256 (fits at) (within n bytes (suc at) fits) in
    subst (λ w. value (suc n) bytes at < w) (sym (pow-suc 256 n)) it

-- a lesser byte outweighs all that follow
outweighs : (x y w p q : ℕ) → x < y → p < w → x * w + p < y * w + q
outweighs x y w p q less fits =
    let it : x * w + p < w * y = mul-add-lt x w p y less fits in
    let turned : w * y ≡ y * w = mul_comm w y in
    omega (arith, it, turned)

-- ---- the keys

bytes_after : (x : ℕ) (xs : List ℕ) → AreBytes (x ∷ xs) → AreBytes xs
bytes_after x xs fits = λ at. fits (suc at)

below : (n : ℕ) (xs ys : List ℕ) → AreBytes xs → AreBytes ys → value n xs 0 < value n ys 0 → slice_cmp nat_cmp xs ys ≡ Less
below zero xs ys one other h = absurd (omega (arith, h))
below (suc n) xs [] one other h = absurd (omega (arith, h, nothing (suc n) 0))
below (suc n) [] (y ∷ ys) one other h = refl
below (suc n) (x ∷ xs) (y ∷ ys) one other h = by_test (below n xs ys (bytes_after x xs one) (bytes_after y ys other)) (ltb x y) (ltb y x) refl refl
  where
    by_test : (value n xs 0 < value n ys 0 → slice_cmp nat_cmp xs ys ≡ Less) → (s t : Bool) → ltb x y ≡ s → ltb y x ≡ t → slice_cmp nat_cmp (x ∷ xs) (y ∷ ys) ≡ Less
    by_test less true t p q = ap (λ o. ordering_then o (slice_cmp nat_cmp xs ys)) (sym (nat_cmp_is x y Less (ltb-true x y p)))
    by_test less false true p q =
        let over = outweighs y x (256 ^ n) (value n (y ∷ ys) 1) (value n (x ∷ xs) 1) (ltb-true y x q) (within n (y ∷ ys) 1 other) in
        absurd (omega (arith, h, over))
    by_test less false false p q =
        let same : x ≡ y = omega (arith, ltb-false x y p, ltb-false y x q) in
        let first : x * 256 ^ n ≡ y * 256 ^ n = ap (λ b. b * 256 ^ n) same in
        let rest : value n xs 0 < value n ys 0 = omega (arith, h, first, later n x xs 0, later n y ys 0) in
        ap (λ o. ordering_then o (slice_cmp nat_cmp xs ys)) (sym (nat_cmp_is x y Equal same))
        ∙ less rest

starts_below : (xs ys : List ℕ) → AreBytes xs → AreBytes ys → key_start xs < key_start ys → slice_cmp nat_cmp xs ys ≡ Less
starts_below xs ys one other h = below 8 xs ys one other (omega (arith, h, start_is xs, start_is ys))

-- what a look at the starts first answers, a look at the keys alone answers too
starts_tell : (xs ys : List ℕ) (o : Ordering) → AreBytes xs → AreBytes ys
    → ordering_then (nat_cmp (key_start xs) (key_start ys)) (ordering_then (slice_cmp nat_cmp xs ys) o) ≡ ordering_then (slice_cmp nat_cmp xs ys) o
starts_tell xs ys o one other = by_test (ltb s t) (ltb t s) refl refl
  where
    s : ℕ
    s = key_start xs

    t : ℕ
    t = key_start ys

    by_test : (a b : Bool) → ltb s t ≡ a → ltb t s ≡ b → ordering_then (nat_cmp s t) (ordering_then (slice_cmp nat_cmp xs ys) o) ≡ ordering_then (slice_cmp nat_cmp xs ys) o
    by_test true b p q =
        let less : s < t = ltb-true s t p in
        let first : nat_cmp s t ≡ Less = sym (nat_cmp_is s t Less less) in
        let keys : slice_cmp nat_cmp xs ys ≡ Less = starts_below xs ys one other less in
        ap (λ r. ordering_then r (ordering_then (slice_cmp nat_cmp xs ys) o)) first ∙ sym (ap (λ r. ordering_then r o) keys)
    by_test false true p q =
        let more : t < s = ltb-true t s q in
        let first : nat_cmp s t ≡ Greater = sym (nat_cmp_is s t Greater more) in
        let keys : slice_cmp nat_cmp xs ys ≡ Greater = nat_list_cmp_total.antisymm xs ys ∙ ap ordering_reverse (starts_below ys xs other one more) in
        ap (λ r. ordering_then r (ordering_then (slice_cmp nat_cmp xs ys) o)) first ∙ sym (ap (λ r. ordering_then r o) keys)
    by_test false false p q =
        let same : s ≡ t = omega (arith, ltb-false s t p, ltb-false t s q) in
        ap (λ r. ordering_then r (ordering_then (slice_cmp nat_cmp xs ys) o)) (sym (nat_cmp_is s t Equal same))

-- ---- the order

pub starts_rank : (lines : List Line) → IsStrictWeakOrder (λ one other. is_lt (start_cmp lines one other))
starts_rank lines = ranks_by (then_total (on_total (λ (s : KeyStart). s.start) nat_cmp_total) (on_total (λ (s : KeyStart). s.place) (total lines))) (λ (s : KeyStart). s)

same_cmp : (lines : List Line) (one other : KeyStart) → IsKeyStart lines one → IsKeyStart lines other → start_cmp lines one other ≡ place_cmp lines one.place other.place
same_cmp lines one other p q =
    ap (λ s. ordering_then (nat_cmp s other.start) (place_cmp lines one.place other.place)) p.is_start
    ∙ ap (λ s. ordering_then (nat_cmp (key_start (key_at lines one.place)) s) (place_cmp lines one.place other.place)) q.is_start
    ∙ starts_tell (key_at lines one.place) (key_at lines other.place) (nat_cmp one.place other.place) p.is_of_bytes q.is_of_bytes

module _ (lines : List Line) (starts : List KeyStart) where
  abbrev places : List ℕ
  places = map (λ s. s.place) starts

  -- the places alone stand in the order of the keys
  pub places_sorted : All (IsKeyStart lines) starts → IsSortedBy (λ one other. is_lt (start_cmp lines one other)) starts → IsSortedBy (λ one other. is_lt (place_cmp lines one other)) places
  places_sorted right up k d low high =
      let len : length places ≡ length starts = length-map starts (λ s. s.place) in
      let later_in : k + 1 < length starts = omega (arith, high, len) in
      let in_order : k < length starts = omega (arith, later_in) in
      let e : KeyStart = record { start = 0; place = d } in
      ap (λ p. is_lt (place_cmp lines p (get_or places k d))) (get_or-map (λ s. s.place) starts (k + 1) e d later_in)
      ∙ ap (λ p. is_lt (place_cmp lines (get_or starts (k + 1) e).place p)) (get_or-map (λ s. s.place) starts k e d in_order)
      ∙ sym (ap is_lt (same_cmp lines (get_or starts (k + 1) e) (get_or starts k e)
      (All-get_or (IsKeyStart lines) starts (k + 1) e later_in right) (All-get_or (IsKeyStart lines) starts k e in_order right)))
      ∙ up k e low later_in

  pub has_place : (place : ℕ) → Contains starts (start_at lines place) → Contains places place
  has_place place it = (
    it.0,
    subst (λ n. it.0 < n) (sym (length-map starts (λ s. s.place))) it.1,
    get_or-map (λ s. s.place) starts it.0 (start_at lines place) place it.1 ∙ ap (λ (s : KeyStart). s.place) it.2,
  )
