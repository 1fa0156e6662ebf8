-- What the headers of a view give is what the view gives.
use Rattle.std.proofs.Common.{◌≡◌, ℕ, Bool, List, [], ◌∷◌, map, Option, Some, None, Result, Ok, Err, option_map, refl, ap, ◌∙◌}
use Rattle.std.specs.Prelude.{IfOk, Vec}
use Rattle.std.specs.declared.alloc.Global.{Global}
use Rattle.civil_time.specs.declared.refusal.Memory.{Memory}
use Rattle.std.specs.Option.{option_and_then}
use Rattle.thread_core.specs.Threads.{threads_of}
use Rattle.thread_core.specs.TopThread.{top_thread_of}
use Rattle.thread_links.specs.declared.entry.Entry.{Entry}
use Rattle.thread_core.specs.declared.row.Row.{Row}
use Rattle.archive_model.specs.Records.{Message}
use Rattle.archive_results.specs.Shown.{Line, shown_message, thread_entry_of}
use Rattle.archive_results.specs.Results.{lines_of, TreeLine, tree_line, thread_rows_of, tree_lines, elements_in_range, place_of_key, thread_lines}
use Rattle.archive_results.specs.Index.{MessageSummary, summary_of, AreSummariesOf, lines_in, entries_in}

lines_of_view : (view : List Message) → lines_in (map summary_of view) ≡ lines_of (map shown_message view)
lines_of_view [] = refl
lines_of_view (m ∷ ms) = rw (lines_of_view ms) refl

entries_of_view : (view : List Message) → entries_in (map summary_of view) ≡ map (λ s. thread_entry_of s.item) (map shown_message view)
entries_of_view [] = refl
entries_of_view (m ∷ ms) = rw (entries_of_view ms) refl

pub lines_are : (view : List Message) (headers : List MessageSummary) (lines : List Line) → AreSummariesOf view headers → lines ≡ lines_in headers → lines ≡ lines_of (map shown_message view)
lines_are view headers lines e h = h ∙ ap lines_in e ∙ lines_of_view view

pub rows_are : (merge : Bool) (view : List Message) (headers : List MessageSummary) (entries : List Entry) (rows : List Row) → AreSummariesOf view headers → entries ≡ entries_in headers
    → rows ≡ threads_of entries merge → rows ≡ thread_rows_of merge (map shown_message view)
rows_are merge view headers entries rows e h r = r ∙ ap (λ (es : List Entry). threads_of es merge) (h ∙ ap entries_in e ∙ entries_of_view view)

-- ---- threads

-- however the lines and the rows are handed on
pub trees_are : (merge : Bool) (view : List Message) (lines : List Line) (rows : List Row) (result : Result (Vec TreeLine Global) Memory)
    → lines ≡ lines_of (map shown_message view) → rows ≡ thread_rows_of merge (map shown_message view)
    → (lent : List Line) (walked : List Row) → lent ≡ lines → walked ≡ rows → IfOk result (λ shown. shown.items ≡ map (tree_line lent) walked)
    → IfOk result (λ shown. shown.items ≡ tree_lines merge (map shown_message view))
trees_are merge view lines rows (Ok shown) l r lent walked ls rs s =
    s ∙ ap (map (tree_line lent)) (rs ∙ r) ∙ ap (λ (ls : List Line). map (tree_line ls) (thread_rows_of merge (map shown_message view))) (ls ∙ l)
trees_are merge view lines rows (Err why) l r lent walked ls rs s = tt

abbrev thread_from : List ℕ → List Line → List Row → Option (List TreeLine)
thread_from key lines rows = option_map (λ range. map (tree_line lines) (elements_in_range range rows)) (option_and_then (top_thread_of rows) (place_of_key key lines))

thread_by_parts : (merge : Bool) (key : List ℕ) (view : List Message) (lines : List Line) (rows : List Row) → lines ≡ lines_of (map shown_message view)
    → rows ≡ thread_rows_of merge (map shown_message view)
    → thread_from key lines rows ≡ thread_lines merge key (map shown_message view)
thread_by_parts merge key view lines rows l r = ap (λ (ls : List Line). thread_from key ls rows) l ∙ ap (thread_from key (lines_of (map shown_message view))) r

pub no_place : (merge : Bool) (key : List ℕ) (view : List Message) (lines : List Line) → lines ≡ lines_of (map shown_message view) → None ≡ place_of_key key lines
    → None ≡ thread_lines merge key (map shown_message view)
no_place merge key view lines l p =
    ap (λ (place : Option ℕ). option_map (λ range. map (tree_line lines) (elements_in_range range (thread_rows_of merge (map shown_message view))))
    (option_and_then (top_thread_of (thread_rows_of merge (map shown_message view))) place)) p
    ∙ thread_by_parts merge key view lines (thread_rows_of merge (map shown_message view)) l refl

pub no_thread : (merge : Bool) (key : List ℕ) (view : List Message) (lines : List Line) (rows : List Row) (place : ℕ) → lines ≡ lines_of (map shown_message view)
    → rows ≡ thread_rows_of merge (map shown_message view)
    → Some place ≡ place_of_key key lines → None ≡ top_thread_of rows place → None ≡ thread_lines merge key (map shown_message view)
no_thread merge key view lines rows place l r p t =
    ap (option_map (λ range. map (tree_line lines) (elements_in_range range rows))) (t ∙ ap (option_and_then (top_thread_of rows)) p)
    ∙ thread_by_parts merge key view lines rows l r

pub one_thread : (merge : Bool) (key : List ℕ) (view : List Message) (lines : List Line) (rows part : List Row) (place : ℕ) (range : ℕ × ℕ) (shown : List TreeLine)
    → lines ≡ lines_of (map shown_message view) → rows ≡ thread_rows_of merge (map shown_message view)
    → Some place ≡ place_of_key key lines → Some range ≡ top_thread_of rows place → part ≡ elements_in_range range rows → shown ≡ map (tree_line lines) part
    → Some shown ≡ thread_lines merge key (map shown_message view)
one_thread merge key view lines rows part place range shown l r p t w s =
    ap (λ (ts : List TreeLine). Some ts) (s ∙ ap (map (tree_line lines)) w)
    ∙ ap (option_map (λ range. map (tree_line lines) (elements_in_range range rows))) (t ∙ ap (option_and_then (top_thread_of rows)) p)
    ∙ thread_by_parts merge key view lines rows l r
