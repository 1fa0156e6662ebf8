-- A view without the texts of its messages: the pages of threads, months and authors are made of it.
use Rattle.std.specs.Prelude.{ℕ, Bool, true, List, filter, length, map, Option, Some, option_map}
use Rattle.std.specs.List.{range_with_len}
use Rattle.std.specs.Option.{option_and_then}
use Rattle.thread_core.specs.TopThread.{top_thread_of}
use Rattle.thread_core.specs.declared.row.Row.{Row}
use Rattle.archive_model.specs.Records.{Archive}
use Rattle.archive_model.specs.Questions.{merge_of}
use Rattle.archive_results.specs.Access.{Ask, view_of}
use Rattle.archive_html.specs.Rows.{rows_text}
use Rattle.archive_results.specs.Results.{lines_of, thread_rows_of, sort_lines_by_date, is_of_month, is_of_author, month_lines, author_lines, elements_in_range, place_of_key}
use Rattle.archive_results.specs.Shown.{ShownMessage, Line, shown_message}
use Rattle.archive_cache.specs.Parts.{ViewPart, whole, month, author}

-- the list, the line of each message, in mailbox order or by sent date, and rows, each with the place of its message's line
pub record ListIndex : Type 0 where
  pub list : List ℕ
  pub lines : List Line
  pub rows : List Row

-- the outline of a view
abbrev pub index_of_view : (list : List ℕ) → (merge : Bool) → List ShownMessage → ListIndex
index_of_view list merge view = record { list = list; lines = lines_of view; rows = thread_rows_of merge view }

-- a row of depth 0, with the place of its line
abbrev pub top_row : (place : ℕ) → Row
top_row place = record { depth = 0; place = Some place }

-- a row of depth 0 for each line, in their order
abbrev pub top_rows_of : List Line → List Row
top_rows_of lines = map top_row (range_with_len 0 (length lines))

-- the outline of lines that are not threaded
abbrev pub index_of_lines : (list : List ℕ) → List Line → ListIndex
index_of_lines list lines = record { list = list; lines = lines; rows = top_rows_of lines }

-- The outline of a part of a view: of all messages, in mailbox order, with their threads; of those of a month or of an author, by
-- sent date and then in mailbox order, with a row of depth 0 for each.
abbrev pub index_of_view_part : (list : List ℕ) → (merge : Bool) → List ShownMessage → ViewPart → ListIndex
index_of_view_part list merge view whole = index_of_view list merge view
index_of_view_part list merge view (month m) = index_of_lines list (month_lines m view)
index_of_view_part list merge view (author key) = index_of_lines list (author_lines key view)

-- the outline of a part of what the asker is shown of a list, threaded as the list is
abbrev pub index_for_ask : Archive → Ask → ViewPart → ListIndex
index_for_ask archive ask part = index_of_view_part ask.list (merge_of archive ask.list) (map shown_message (view_of archive ask)) part

-- whether a line stands under a part
abbrev pub is_line_in_part : ViewPart → Line → Bool
is_line_in_part whole = λ line. true
is_line_in_part (month m) = is_of_month m
is_line_in_part (author key) = is_of_author key

-- the lines under a part by sent date, those of one sent date in their order
abbrev pub lines_in_part : ViewPart → List Line → List Line
lines_in_part part lines = sort_lines_by_date (filter (is_line_in_part part) lines)

-- The outline of a month or an author, out of that of the whole view: its lines under it, by sent date, and a row of depth 0 for each.
abbrev pub index_restricted_to : ViewPart → ListIndex → ListIndex
index_restricted_to part outline = index_of_lines outline.list (lines_in_part part outline.lines)

-- The rows of the top thread that holds the message of a key; none where no line has the key.
abbrev pub thread_rows_of_key : ListIndex → (key : List ℕ) → Option (List Row)
thread_rows_of_key outline key = option_map (λ range. elements_in_range range outline.rows) (option_and_then (top_thread_of outline.rows) (place_of_key key outline.lines))

-- the texts of rows, one after the other, as a page of the list has them
abbrev pub rendered_rows : ListIndex → List Row → List ℕ
rendered_rows outline rows = rows_text outline.list outline.lines rows
