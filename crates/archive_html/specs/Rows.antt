-- The rows of pages, one a line. (profile)
use Rattle.std.specs.Prelude.{◌≡◌, ℕ, min, decimal, List, [], ◌∷◌, ◌++◌, codes, flat_map, length, slice_index_or, take}
use Rattle.std.specs.Option.{option_map_or}
use Rattle.mbox_items.specs.Separator.{joined_by_spaces}
use Rattle.archive_results.specs.Shown.{Line}
use Rattle.archive_results.specs.Results.{TreeLine, tree_line}
use Rattle.thread_core.specs.declared.row.Row.{Row}
use Rattle.archive_html.specs.Links.{link, list_path, month_link, author_link, message_link, thread_link}

-- a row: its parts with one space between them, at a depth of 20 at most
abbrev pub page_row : (depth : ℕ) → (parts : List (List ℕ)) → List ℕ
page_row depth parts = codes "<div class=\"d" ++ (decimal (min depth 20) ++ (codes "\">" ++ (joined_by_spaces parts ++ codes "</div>\n")))

-- a list: its name leads to its threads, and `mbox` to its messages as a file
unfoldable pub list_row : (list : List ℕ) → List ℕ
list_row list = page_row 0 (
    link (list_path list (codes "/threads")) list ∷ link (list_path list (codes "/mbox")) (codes "mbox") ∷ [])

-- a message: when it was sent, by whom, its subject, its thread
unfoldable pub message_row : (list : List ℕ) → (depth : ℕ) → Line → List ℕ
message_row list depth line = page_row depth (
    month_link list line.sent ∷ author_link list line.author
    ∷ message_link list line.key line.subject ∷ thread_link list line.key ∷ [])

-- a message that others refer to and that is not there
unfoldable pub missing_row : List ℕ
missing_row = page_row 0 (codes "(missing)" ∷ [])

-- the row of a line at its depth, or of a missing message
unfoldable pub tree_row : (list : List ℕ) → TreeLine → List ℕ
tree_row list tree = option_map_or (message_row list tree.depth) tree.line missing_row

-- rows, one after the other, each of which names its message by the place of the line
abbrev pub rows_text : (list : List ℕ) → List Line → List Row → List ℕ
rows_text list lines rows = flat_map (λ page_row. tree_row list (tree_line lines page_row)) rows

-- These bytes are the texts of the rows, and each row begins at its start; one that is not there at the end.
pub record AreRenderedRows (list : List ℕ) (lines : List Line) (rows : List Row) (bytes starts : List ℕ) : Type 0 where
  pub is_rows_text : bytes ≡ rows_text list lines rows
  pub starts_are_lengths : (i : ℕ) → slice_index_or starts i (length bytes) ≡ length (rows_text list lines (take i rows))
