-- Outlines of views, and the texts of their rows.
use Rattle.std.proofs.Common.{◌≡◌, refl, sym, ap, ◌∙◌, ℕ, suc, ◌+◌, arith, Bool, List, [], ◌∷◌, ◌++◌, length, map, slice_get, Option, Some, None, option_map, Result, Ok, Err}
use Rattle.std.specs.Prelude.{IfOk, flat_map}
use Rattle.std.specs.List.{range_with_len}
use Rattle.std.specs.Option.{option_and_then}
use Rattle.thread_core.specs.TopThread.{top_thread_of}
use Rattle.thread_core.specs.declared.row.Row.{Row}
use Rattle.archive_html.specs.Rows.{message_row, rows_text, tree_row}
use Rattle.archive_html.proofs.RowLemmas.{tree_row_some}
use Rattle.archive_results.specs.Results.{lines_of, place_of_key, thread_rows_of, thread_lines, tree_line, elements_in_range}
use Rattle.archive_results.specs.Shown.{Line, ShownMessage}
use Rattle.archive_cache.specs.ListIndexes.{ListIndex, index_of_view, rendered_rows, thread_rows_of_key, top_row, top_rows_of}

pub made_of : (list : List ℕ) (merge : Bool) (view : List ShownMessage) (lines : List Line) (rows : List Row) → lines ≡ lines_of view → rows ≡ thread_rows_of merge view
    → (◌≡◌ {A = ListIndex} (record { list = list; lines = lines; rows = rows }) (index_of_view list merge view))
made_of list merge view lines rows l r = λ i. record { list = list; lines = l i; rows = r i }

pub made_as : {E : Type 0} (result : Result ListIndex E) {one other : ListIndex} → one ≡ other → IfOk result (λ o. o ≡ one) → IfOk result (λ o. o ≡ other)
made_as (Ok o) is made = made ∙ is
made_as (Err e) is made = tt

-- rows with the lines at their places
pub text_is : (list : List ℕ) (lines : List Line) (rows : List Row) → rows_text list lines rows ≡ flat_map (tree_row list) (map (tree_line lines) rows)
text_is list lines [] = refl
text_is list lines (r ∷ rs) = ap (λ (xs : List ℕ). tree_row list (tree_line lines r) ++ xs) (text_is list lines rs)

text_of_range : (list : List ℕ) (lines : List Line) (rows : List Row) (o : Option (ℕ × ℕ))
    → option_map (rows_text list lines) (option_map (λ range. elements_in_range range rows) o)
    ≡ option_map (flat_map (tree_row list)) (option_map (λ range. map (tree_line lines) (elements_in_range range rows)) o)
text_of_range list lines rows None = refl
text_of_range list lines rows (Some range) = ap (λ (x : List ℕ). Some x) (text_is list lines (elements_in_range range rows))

-- the text of a thread of the view of which it is the outline
pub text_shown : (outline : ListIndex) (key : List ℕ) (list : List ℕ) (merge : Bool) (view : List ShownMessage) → outline ≡ index_of_view list merge view
    → option_map (rendered_rows outline) (thread_rows_of_key outline key) ≡ option_map (flat_map (tree_row list)) (thread_lines merge key view)
text_shown outline key list merge view is =
    ap (λ (o : ListIndex). option_map (rendered_rows o) (thread_rows_of_key o key)) is
    ∙ text_of_range list (lines_of view) (thread_rows_of merge view) (option_and_then (top_thread_of (thread_rows_of merge view)) (place_of_key key (lines_of view)))

-- ---- a row for each line

module _ (list : List ℕ) (lines : List Line) where
  top_row_text : (place : ℕ) (line : Line) → slice_get lines place ≡ Some line → tree_row list (tree_line lines (top_row place)) ≡ message_row list 0 line
  top_row_text place line there = tree_row_some list (tree_line lines (top_row place)) 0 (slice_get lines place) line refl there

  -- the last lines, from a place on
  text_from : (from : ℕ) (last : List Line) → ((i : ℕ) → slice_get lines (from + i) ≡ slice_get last i)
      → rows_text list lines (map top_row (range_with_len from (length last))) ≡ flat_map (message_row list 0) last
  text_from from [] same = refl
  text_from from (line ∷ rest) same =
      let here : from + 0 ≡ from = omega arith in
      ap (λ (xs : List ℕ). xs ++ rows_text list lines (map top_row (range_with_len (from + 1) (length rest))))
      (top_row_text from line (ap (slice_get lines) (sym here) ∙ same 0))
      ∙ ap (λ (xs : List ℕ). message_row list 0 line ++ xs)
      (text_from (from + 1) rest (λ i.
      let next : from + 1 + i ≡ from + suc i = omega arith in
      ap (slice_get lines) next ∙ same (suc i)))

  pub top_rows_text : rows_text list lines (top_rows_of lines) ≡ flat_map (message_row list 0) lines
  top_rows_text = text_from 0 lines (λ i.
      let same : 0 + i ≡ i = omega arith in
      ap (slice_get lines) same)

-- ---- the text of a thread

module _ (outline : ListIndex) (key : List ℕ) where
  thread_by : (o : Option (ℕ × ℕ)) → option_and_then (top_thread_of outline.rows) (place_of_key key outline.lines) ≡ o
      → option_map (rendered_rows outline) (option_map (λ range. elements_in_range range outline.rows) o) ≡ option_map (rendered_rows outline) (thread_rows_of_key outline key)
  thread_by o is = ap (λ (r : Option (ℕ × ℕ)). option_map (rendered_rows outline) (option_map (λ range. elements_in_range range outline.rows) r)) (sym is)

  pub no_place : place_of_key key outline.lines ≡ None → None ≡ option_map (rendered_rows outline) (thread_rows_of_key outline key)
  no_place none = thread_by None (ap (option_and_then (top_thread_of outline.rows)) none)

  pub no_thread : (place : ℕ) → place_of_key key outline.lines ≡ Some place → top_thread_of outline.rows place ≡ None → None ≡ option_map (rendered_rows outline) (thread_rows_of_key outline key)
  no_thread place there none = thread_by None (ap (option_and_then (top_thread_of outline.rows)) there ∙ none)

  pub one_thread : (place first end : ℕ) (text : List ℕ) → place_of_key key outline.lines ≡ Some place → top_thread_of outline.rows place ≡ Some (first, end)
      → text ≡ rendered_rows outline (elements_in_range (first, end) outline.rows) → Some text ≡ option_map (rendered_rows outline) (thread_rows_of_key outline key)
  one_thread place first end text there found is = ap (λ (x : List ℕ). Some x) is ∙ thread_by (Some (first, end)) (ap (option_and_then (top_thread_of outline.rows)) there ∙ found)
