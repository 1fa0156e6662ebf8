-- The thread of a message that a view holds.
use Rattle.std.proofs.Common.{◌≡◌, ◌↔◌, ℕ, suc, ◌+◌, ◌<◌, Bool, true, false, not, cond, ◌||◌, nat_lt, bytes_eq, List, [], ◌∷◌, length, map, Option, Some, None, option_map, refl, sym, ap, ◌∙◌, arith}
use Rattle.std.specs.List.{list_any, position_or_len, position}
use Rattle.std.specs.Option.{option_and_then, is_none}
use Rattle.std.proofs.lemmas.Bool.Decides.{nat_tests}
use Rattle.thread_core.specs.PlaceLaws.{HasEachPlaceOnce, row_count_of_place}
use Rattle.thread_core.specs.Threads.{threads_of}
use Rattle.thread_core.specs.TopThread.{is_row_of, top_row_at_or_before, next_top_row, top_thread_of}
use Rattle.thread_links.specs.declared.entry.Entry.{Entry}
use Rattle.thread_core.specs.declared.row.Row.{Row}
use Rattle.archive_results.specs.Shown.{ShownMessage, thread_entry_of}
use Rattle.archive_results.specs.Results.{view_holds_key, lines_of, thread_rows_of, thread_lines, TreeLine, tree_line, elements_in_range}

-- ---- the first place that passes a test

next_test : (k n : ℕ) → nat_lt (1 + k) (suc n) ≡ nat_lt k n
next_test k n = by_test (nat_lt k n) refl
  where
    by_test : (t : Bool) → nat_lt k n ≡ t → nat_lt (1 + k) (suc n) ≡ t
    by_test true e = grind (arith, nat_tests, e)
    by_test false e = grind (arith, nat_tests, e)

any_is : {X : Type 0} (p : X → Bool) (xs : List X) → list_any p xs ≡ nat_lt (position_or_len p xs) (length xs)
any_is p [] = refl
any_is p (x ∷ xs) = by_test (p x) (any_is p xs)
  where
    by_test : (t : Bool) → list_any p xs ≡ nat_lt (position_or_len p xs) (length xs)
        → (t || list_any p xs) ≡ nat_lt (cond (not t) (1 + position_or_len p xs) 0) (suc (length xs))
    by_test true h = grind (arith, nat_tests)
    by_test false h = h ∙ sym (next_test (position_or_len p xs) (length xs))

position_none : {X : Type 0} (p : X → Bool) (xs : List X) → list_any p xs ≡ false → position p xs ≡ None
position_none p xs e = rw (sym (any_is p xs) ∙ e) refl

position_some : {X : Type 0} (p : X → Bool) (xs : List X) → list_any p xs ≡ true → position p xs ≡ Some (position_or_len p xs)
position_some p xs e = rw (sym (any_is p xs) ∙ e) refl

position_within : {X : Type 0} (p : X → Bool) (xs : List X) → list_any p xs ≡ true → position_or_len p xs < length xs
position_within p xs e = let t = sym (any_is p xs) ∙ e in grind (arith, nat_tests, t)

-- ---- rows of a place

row_there : (place : ℕ) (rows : List Row) → row_count_of_place place rows ≡ 1 → list_any (is_row_of place) rows ≡ true
row_there place [] e = absurd (omega (arith, e))
row_there place (row ∷ rows) e = by_test (is_row_of place row) e (row_there place rows)
  where
    by_test : (t : Bool) → cond t 1 0 + row_count_of_place place rows ≡ 1 → (row_count_of_place place rows ≡ 1 → list_any (is_row_of place) rows ≡ true) → (t || list_any (is_row_of place) rows) ≡ true
    by_test true e h = refl
    by_test false e h = h (omega (arith, e))

-- ---- views

line_held : (key : List ℕ) (view : List ShownMessage) → view_holds_key key view ≡ list_any (λ l. bytes_eq l.key key) (lines_of view)
line_held key [] = refl
line_held key (s ∷ view) = ap (λ (t : Bool). bytes_eq s.key key || t) (line_held key view)

same_length : (view : List ShownMessage) → length (lines_of view) ≡ length (map (λ s. thread_entry_of s.item) view)
same_length [] = refl
same_length (s ∷ view) = ap suc (same_length view)

abbrev thread_at : Bool → List ShownMessage → Option ℕ → Option (List TreeLine)
thread_at merge view place = option_map (λ range. map (tree_line (lines_of view)) (elements_in_range range (thread_rows_of merge view)))
    (option_and_then (top_thread_of (thread_rows_of merge view)) place)

abbrev thread_from : Bool → List ShownMessage → (place : ℕ) → Option ℕ → Option (List TreeLine)
thread_from merge view place row =
    option_map (λ range. map (tree_line (lines_of view)) (elements_in_range range (thread_rows_of merge view)))
    (option_map (λ at. (top_row_at_or_before (thread_rows_of merge view) at, next_top_row (thread_rows_of merge view) at)) row)

module _ (each : (entries : List Entry) (merge : Bool) → HasEachPlaceOnce (length entries) (threads_of entries merge)) (merge : Bool) (key : List ℕ) (view : List ShownMessage) where
  not_held : view_holds_key key view ≡ false → thread_lines merge key view ≡ None
  not_held e = ap (thread_at merge view) (position_none (λ l. bytes_eq l.key key) (lines_of view) (sym (line_held key view) ∙ e))

  held : view_holds_key key view ≡ true → is_none (thread_lines merge key view) ≡ false
  held e =
      let passes : list_any (λ l. bytes_eq l.key key) (lines_of view) ≡ true = sym (line_held key view) ∙ e in
      let at : ℕ = position_or_len (λ l. bytes_eq l.key key) (lines_of view) in
      let below : at < length (lines_of view) = position_within (λ l. bytes_eq l.key key) (lines_of view) passes in
      let low : at < length (map (λ s. thread_entry_of s.item) view) = omega (arith, below, same_length view) in
      let there : list_any (is_row_of at) (thread_rows_of merge view) ≡ true = row_there at (thread_rows_of merge view)
      ((each (map (λ s. thread_entry_of s.item) view) merge).each_place_once at low) in
      ap (λ (o : Option ℕ). is_none (thread_at merge view o)) (position_some (λ l. bytes_eq l.key key) (lines_of view) passes)
      ∙ ap (λ (o : Option ℕ). is_none (thread_from merge view at o)) (position_some (is_row_of at) (thread_rows_of merge view) there)

  pub thread_missing : (thread_lines merge key view ≡ None) ↔ (view_holds_key key view ≡ false)
  thread_missing = (by_test (view_holds_key key view) held, not_held)
    where
      by_test : (t : Bool) → (t ≡ true → is_none (thread_lines merge key view) ≡ false) → thread_lines merge key view ≡ None → t ≡ false
      by_test false h e = refl
      by_test true h e = absurd (let bad : true ≡ false = sym (ap is_none e) ∙ h refl in cc)
