-- A line is found by its key.
use Rattle.std.proofs.Common.{◌≡◌, pos, refl, sym, ap, ◌∙◌, subst, ℕ, ◌+◌, ◌<◌, ◌≤◌, arith, Bool, true, false, List, [], ◌∷◌, ◌++◌, length}
use Rattle.std.proofs.Common.{get_or, slice_get, bytes_eq, Option, Some, None, Less, Equal, Greater, ltb, ltb-true, ltb-false}
use Rattle.std.specs.Prelude.{position, nat_lt, cond}
use Rattle.std.specs.Cmp.{IsTotalOrder, IsStrictWeakOrder}
use Rattle.std.specs.Cmp.Lexicographic.{slice_cmp}
use Rattle.std.specs.List.{Contains, position_or_len}
use Rattle.std.specs.List.Sorted.{IsPartitionedBy, IsPartitionPoint, IsSortedBy}
use Rattle.std.specs.Option.{option_map_or}
use Rattle.std.specs.Ordering.{is_lt, nat_cmp, ordering_index, ordering_reverse, ordering_then}
use Rattle.std.specs.declared.cmp.Ordering.{Ordering}
use Rattle.std.proofs.lemmas.Cmp.{nat_cmp_total, nat_list_cmp_total, on_total, then_total, tied_itself}
use Rattle.std.proofs.lemmas.List.Elements.{Contains-append_left, Contains-push}
use Rattle.std.proofs.lemmas.List.Quantifiers.{position-Some}
use Rattle.std.proofs.lemmas.List.Sorted.{IsPartitionedBy-ltb, ranks_by, searchable_from_sorted, sorted_far}
use Rattle.std.proofs.lemmas.List.Sums.{fails_before_first}
use Rattle.std.proofs.lemmas.Map.Lookups.{exact_bytes}
use Rattle.std.proofs.lemmas.Option.{get_or_from_slice_get, slice_get-get_or, slice_get_within}
use Rattle.std.proofs.lemmas.Slice.Eq.{bytes_eq-Decides}
use Rattle.archive_results.specs.Shown.{Line}
use Rattle.archive_cache.specs.Keyed.{IsKeyOrder, key_at, place_cmp}

-- ---- the order

pub total : (lines : List Line) → IsTotalOrder (place_cmp lines)
total lines = then_total (on_total (key_at lines) nat_list_cmp_total) nat_cmp_total

places_rank : (lines : List Line) → IsStrictWeakOrder (λ one other. is_lt (place_cmp lines one other))
places_rank lines = ranks_by (total lines) (λ (place : ℕ). place)

-- one place more
pub one_more : {X : Type 0} (f : ℕ → X) (xs : List X) (n : ℕ) → ((place : ℕ) → place < n → Contains xs (f place)) → (place : ℕ) → place < n + 1 → Contains (xs ++ f n ∷ []) (f place)
one_more f xs n held place below = by_test (ltb place n) refl
  where
    by_test : (b : Bool) → ltb place n ≡ b → Contains (xs ++ f n ∷ []) (f place)
    by_test true e = Contains-append_left xs (f n ∷ []) (f place) (held place (ltb-true place n e))
    by_test false e =
        let past : n ≤ place = ltb-false place n e in
        let is : n ≡ place = omega (arith, past, below) in
        subst (λ p. Contains (xs ++ f n ∷ []) (f p)) is (Contains-push xs (f n))

-- ---- orderings

not_less_first : (o p : Ordering) → is_lt (ordering_then o p) ≡ false → is_lt o ≡ false
not_less_first Less p e = e
not_less_first Equal p e = refl
not_less_first Greater p e = refl

not_less_then : (o p : Ordering) → o ≡ Equal → is_lt (ordering_then o p) ≡ false → is_lt p ≡ false
not_less_then Less p is e = absurd (cc)
not_less_then Equal p is e = e
not_less_then Greater p is e = absurd (cc)

as_number : (o : Ordering) → is_lt o ≡ ltb (ordering_index o) 1
as_number Less = refl
as_number Equal = refl
as_number Greater = refl

less_is : (o : Ordering) → is_lt o ≡ true → o ≡ Less
less_is Less e = refl
less_is Equal e = absurd (cc)
less_is Greater e = absurd (cc)

tied : (o p : Ordering) → o ≡ ordering_reverse p → is_lt o ≡ false → is_lt p ≡ false → o ≡ Equal
tied Less p back one other = absurd (cc)
tied Equal p back one other = refl
tied Greater Less back one other = absurd (cc)
tied Greater Equal back one other = absurd (cc)
tied Greater Greater back one other = absurd (cc)

clash : (b : Bool) → b ≡ true → b ≡ false → ⊥
clash b p q = absurd (cc)

no_less : (a b : ℕ) → is_lt (nat_cmp a b) ≡ false → b ≤ a
no_less a b e = by_test (ltb a b) refl
  where
    by_test : (t : Bool) → ltb a b ≡ t → b ≤ a
    by_test true less = let is : is_lt (nat_cmp a b) ≡ true = rw less refl in absurd (cc)
    by_test false more = ltb-false a b more

-- ---- what no place before the first has

none_passes : {X : Type 0} (p : X → Bool) (xs : List X) → position p xs ≡ None → (i : ℕ) (d : X) → i < length xs → p (get_or xs i d) ≡ false
none_passes {X = X} p xs none i d below = by_test (nat_lt (position_or_len p xs) (length xs)) refl
  where
    by_test : (t : Bool) → nat_lt (position_or_len p xs) (length xs) ≡ t → p (get_or xs i d) ≡ false
    by_test true e = let is : position p xs ≡ Some (position_or_len p xs) = rw e refl in absurd (cc)
    by_test false e = let past : length xs ≤ position_or_len p xs = ltb-false _ _ e in fails_before_first p xs i d (omega (arith, past, below))

-- ---- the place of a key

module _ (lines : List Line) (order : List ℕ) (is : IsKeyOrder lines order) (key : List ℕ) where
  -- the line at a place stands before the key
  abbrev pub before : ℕ → Bool
  before place = is_lt (slice_cmp nat_cmp (key_at lines place) key)

  by_keys : IsSortedBy (λ one other. is_lt (slice_cmp nat_cmp (key_at lines one) (key_at lines other))) order
  by_keys = λ k d low high. not_less_first _ _ (is.is_sorted k d low high)

  pub parted : IsPartitionedBy before order
  parted = λ i j d le below h.
      as_number _ ∙ IsPartitionedBy-ltb (λ place. ordering_index (slice_cmp nat_cmp (key_at lines place) key)) order 1
      (searchable_from_sorted nat_list_cmp_total (key_at lines) order key by_keys) i j d le below (sym (as_number _) ∙ h)

  module _ (at : ℕ) (point : IsPartitionPoint (λ place. before place ≡ true) (λ place. before place ≡ false) order at) where
    module _ (place : ℕ) (e : position (λ l. bytes_eq l.key key) lines ≡ Some place) (none : Line) where
      first : (place < length lines) × (bytes_eq (get_or lines place none).key key ≡ true) × ((k : ℕ) → k < place → bytes_eq (get_or lines k none).key key ≡ false)
      first = position-Some (λ l. bytes_eq l.key key) lines place none e

      key_matches : key_at lines place ≡ key
      key_matches = ap (λ o. option_map_or (λ (l : Line). l.key) o []) (slice_get-get_or lines place none first.0) ∙ (bytes_eq-Decides _ key).0 first.1

      not_before : before place ≡ false
      not_before = ap (λ k. is_lt (slice_cmp nat_cmp k key)) key_matches ∙ ap is_lt (tied_itself nat_list_cmp_total key)

      stands : Contains order place
      stands = is.contains_each_line place first.0

      -- it stands behind those before the key
      behind : at ≤ stands.0
      behind = by_test (ltb stands.0 at) refl
        where
          by_test : (t : Bool) → ltb stands.0 at ≡ t → at ≤ stands.0
          by_test true less =
              let it : before place ≡ true = ap before (sym stands.2) ∙ point.0 stands.0 place (omega arith) (ltb-true _ _ less) in
              absurd (clash (before place) it not_before)
          by_test false more = ltb-false _ _ more

      abbrev other : ℕ
      other = get_or order at place

      in_order : at < length order
      in_order = let it = behind in let below = stands.1 in omega (arith, it, below)

      not_less : is_lt (ordering_then (slice_cmp nat_cmp key (key_at lines other)) (nat_cmp place other)) ≡ false
      not_less =
          ap (λ k. is_lt (ordering_then (slice_cmp nat_cmp k (key_at lines other)) (nat_cmp place other))) (sym key_matches)
          ∙ ap (λ p. is_lt (place_cmp lines p other)) (sym stands.2)
          ∙ sorted_far (λ p q. is_lt (place_cmp lines p q)) (places_rank lines) order is.is_sorted at stands.0 place behind stands.1

      tie : slice_cmp nat_cmp key (key_at lines other) ≡ Equal
      tie = tied (slice_cmp nat_cmp key (key_at lines other)) (slice_cmp nat_cmp (key_at lines other) key) (nat_list_cmp_total.antisymm key (key_at lines other))
          (not_less_first _ _ not_less) (point.1 at place (omega arith) in_order)

      no_later : other ≤ place
      no_later = no_less place other (not_less_then _ _ tie not_less)

      same : other ≡ place
      same = by_test (ltb other place) refl
        where
          by_test : (t : Bool) → ltb other place ≡ t → other ≡ place
          by_test true less =
              let below = ltb-true _ _ less in
              let within = first.0 in
              let key_there : key_at lines other ≡ (get_or lines other none).key =
              ap (λ o. option_map_or (λ (l : Line). l.key) o []) (slice_get-get_or lines other none (omega (arith, below, within))) in
              let passes : bytes_eq (get_or lines other none).key key ≡ true = (bytes_eq-Decides _ key).1 (sym key_there ∙ sym (exact_bytes key (key_at lines other) tie)) in
              absurd (clash (bytes_eq (get_or lines other none).key key) passes (first.2 other below))
          by_test false more =
              let past = ltb-false _ _ more in
              let low = no_later in
              omega (arith, past, low)

      -- the first line of the key stands there
      first_there : slice_get order at ≡ Some place
      first_there = slice_get-get_or order at place in_order ∙ ap (λ (p : ℕ). Some p) same

      there_has : option_map_or (λ l. bytes_eq l.key key) (slice_get lines place) false ≡ true
      there_has = ap (λ o. option_map_or (λ (l : Line). bytes_eq l.key key) o false) (slice_get-get_or lines place none first.0) ∙ first.1

    has_none : (place : ℕ) → position (λ l. bytes_eq l.key key) lines ≡ None → option_map_or (λ l. bytes_eq l.key key) (slice_get lines place) false ≡ false
    has_none place e = by_get (slice_get lines place) refl
      where
        by_get : (o : Option Line) → slice_get lines place ≡ o → option_map_or (λ l. bytes_eq l.key key) o false ≡ false
        by_get None is = refl
        by_get (Some l) is =
            ap (λ (m : Line). bytes_eq m.key key) (sym (get_or_from_slice_get lines place l l is))
            ∙ none_passes (λ l. bytes_eq l.key key) lines e place l (slice_get_within lines place l is)

    no_line : Line
    no_line = record { key = []; sent = pos 0; author = []; subject = [] }

    -- where there is no place at all
    pub found_past : slice_get order at ≡ None → position (λ l. bytes_eq l.key key) lines ≡ None
    found_past past = by_place (position (λ l. bytes_eq l.key key) lines) refl
      where
        by_place : (o : Option ℕ) → position (λ l. bytes_eq l.key key) lines ≡ o → o ≡ None
        by_place None e = refl
        by_place (Some place) e = let it = first_there place e no_line in absurd (cc)

    -- where a place stands there, whose line has the key or not
    pub found_there : (place : ℕ) (has : Bool) → slice_get order at ≡ Some place → has ≡ option_map_or (λ l. bytes_eq l.key key) (slice_get lines place) false
        → position (λ l. bytes_eq l.key key) lines ≡ cond has (Some place) None
    found_there place has there tells = by_place (position (λ l. bytes_eq l.key key) lines) refl
      where
        by_place : (o : Option ℕ) → position (λ l. bytes_eq l.key key) lines ≡ o → o ≡ cond has (Some place) None
        by_place None e = sym (ap (λ t. cond t (Some place) None) (tells ∙ has_none place e))
        by_place (Some first) e =
            let same : Some place ≡ Some first = sym there ∙ first_there first e no_line in
            let is : first ≡ place = cc in
            let passes = there_has first e no_line in
            let true_here : has ≡ true = tells ∙ ap (λ p. option_map_or (λ (l : Line). bytes_eq l.key key) (slice_get lines p) false) (sym is) ∙ passes in
            ap (λ (p : ℕ). Some p) is ∙ sym (ap (λ t. cond t (Some place) None) true_here)
