-- What is shown of a view. Each is a function of the view alone, so that nothing of a message that is not in it can show.
use Rattle.std.specs.Prelude.{ℕ, ◌-◌, ◌==◌, int_lt, Bool, List, [], ◌∷◌, map, filter, take, drop, position, slice_get, bytes_eq, Option, option_map, if◌then◌else◌}
use Rattle.std.specs.List.{list_any}
use Rattle.std.specs.Option.{option_and_then}
use Rattle.civil_time.specs.Calendar.{month_of_instant}
use Rattle.mbox_items.specs.Written.{written}
use Rattle.thread_core.specs.Threads.{threads_of}
use Rattle.thread_core.specs.TopThread.{top_thread_of}
use Rattle.thread_core.specs.declared.row.Row.{Row}
use Rattle.archive_results.specs.Shown.{ShownMessage, Line, thread_entry_of, line_of}

-- the line of each message
abbrev pub lines_of : List ShownMessage → List Line
lines_of view = map line_of view

-- ---- by sent date

-- a line before the first that was not sent before it
abbrev pub insert_line_by_date : Line → List Line → List Line
insert_line_by_date l [] = l ∷ []
insert_line_by_date l (m ∷ ms) = if int_lt m.sent l.sent then m ∷ insert_line_by_date l ms else l ∷ m ∷ ms

-- Lines by sent date; those of one sent date stay in their order (RFC 5256, section 2.2).
abbrev pub sort_lines_by_date : List Line → List Line
sort_lines_by_date [] = []
sort_lines_by_date (l ∷ ls) = insert_line_by_date l (sort_lines_by_date ls)

abbrev pub is_of_month : ℕ → Line → Bool
is_of_month month l = month_of_instant l.sent == month

abbrev pub is_of_author : List ℕ → Line → Bool
is_of_author key l = bytes_eq l.author key

-- the messages whose sent date lies in a month, by sent date and then in mailbox order
abbrev pub month_lines : (month : ℕ) → List ShownMessage → List Line
month_lines month view = sort_lines_by_date (filter (is_of_month month) (lines_of view))

-- the messages of an author key, by sent date and then in mailbox order
abbrev pub author_lines : (key : List ℕ) → List ShownMessage → List Line
author_lines key view = sort_lines_by_date (filter (is_of_author key) (lines_of view))

-- ---- threads

-- a row of a thread: a message's line, or none for a message that is missing
pub record TreeLine : Type 0 where
  pub depth : ℕ
  pub line : Option Line

-- a row with the line at its place in place of the place
abbrev pub tree_line : List Line → Row → TreeLine
tree_line lines row = record { depth = row.depth; line = option_and_then (slice_get lines) row.place }

-- the rows of the threads; `merge` says whether those of one subject are gathered, which is the list's own choice
abbrev pub thread_rows_of : (merge : Bool) → List ShownMessage → List Row
thread_rows_of merge view = threads_of (map (λ s. thread_entry_of s.item) view) merge

-- all threads (RFC 5256, section 3, THREAD=REFERENCES; without step 5 where they are not gathered)
abbrev pub tree_lines : (merge : Bool) → List ShownMessage → List TreeLine
tree_lines merge view = map (tree_line (lines_of view)) (thread_rows_of merge view)

-- the elements of a range: from its first, up to the one before its end
abbrev pub elements_in_range : {X : Type 0} → ℕ × ℕ → List X → List X
elements_in_range range xs = take (range.1 - range.0) (drop range.0 xs)

abbrev pub place_of_key : (key : List ℕ) → List Line → Option ℕ
place_of_key key lines = position (λ l. bytes_eq l.key key) lines

-- whether a message of the view has this key
abbrev pub view_holds_key : (key : List ℕ) → List ShownMessage → Bool
view_holds_key key view = list_any (λ s. bytes_eq s.key key) view

-- The rows of the top thread that holds a message; none where the view does not hold it.
abbrev pub thread_lines : (merge : Bool) (key : List ℕ) → List ShownMessage → Option (List TreeLine)
thread_lines merge key view = option_map (λ range. map (tree_line (lines_of view)) (elements_in_range range (thread_rows_of merge view)))
    (option_and_then (top_thread_of (thread_rows_of merge view)) (place_of_key key (lines_of view)))

-- ---- mbox (RFC 4155)

abbrev pub export_text : List ShownMessage → List ℕ
export_text view = written (map (λ s. s.item) view)
