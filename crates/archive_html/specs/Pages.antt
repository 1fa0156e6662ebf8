-- Whole pages: HTML in ASCII, a title and rows, each line ended by an LF. (profile: no script, no style, nothing that depends on
-- who asks but the rows)
use Rattle.std.specs.Prelude.{ℕ, List, ◌++◌, flat_map, codes}
use Rattle.archive_results.specs.Shown.{Line}
use Rattle.archive_results.specs.Results.{TreeLine}
use Rattle.civil_time.specs.Texts.{month_text}
use Rattle.archive_html.specs.Texts.{html_escaped_text}
use Rattle.archive_html.specs.Rows.{list_row, message_row, tree_row}

-- what stands before the rows, and behind them
unfoldable pub page_head : (title : List ℕ) → List ℕ
page_head title =
    codes "<!DOCTYPE html>\n<html><head><title>" ++ (title ++ (codes "</title></head><body>\n<h1>" ++ (title ++ codes "</h1>\n")))

unfoldable pub page_foot : List ℕ
page_foot = codes "</body></html>\n"

-- a page of this title and these rows
abbrev pub page : (title rows : List ℕ) → List ℕ
page title rows = page_head title ++ (rows ++ page_foot)

-- a title of a list
abbrev pub list_title : (list rest : List ℕ) → List ℕ
list_title list rest = list ++ (codes ": " ++ rest)

-- the lists, by their names
abbrev pub lists_page : (names : List (List ℕ)) → List ℕ
lists_page names = page (codes "Lists") (flat_map list_row names)

-- messages of a month
abbrev pub month_page : (list : List ℕ) → (month : ℕ) → List Line → List ℕ
month_page list month lines = page (list_title list (month_text month)) (flat_map (message_row list 0) lines)

-- messages of an author, whose key is given as it was asked for
abbrev pub author_page : (list author : List ℕ) → List Line → List ℕ
author_page list author lines = page (list_title list (codes "by " ++ html_escaped_text author)) (flat_map (message_row list 0) lines)

-- all threads, and one
abbrev pub threads_page : (list : List ℕ) → List TreeLine → List ℕ
threads_page list rows = page (list_title list (codes "threads")) (flat_map (tree_row list) rows)

-- the page of one thread
abbrev pub thread_page : (list : List ℕ) → List TreeLine → List ℕ
thread_page list rows = page (list_title list (codes "thread")) (flat_map (tree_row list) rows)
