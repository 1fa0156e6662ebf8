-- What one reader can learn of an archive: all that the replies to them turn on.
use Rattle.std.specs.Prelude.{◌≡◌, ℕ, ℤ, min, Bool, List, map, find, bytes_eq, Option, Some, None, option_map, option_and_then, if◌then◌else◌}
use Rattle.std.specs.Option.{option_map_or}
use Rattle.httparse.specs.Grammar.{RequestHead}
use Rattle.policy_core.specs.Rules.{Rule}
use Rattle.thread_core.specs.TopThread.{top_thread_of}
use Rattle.thread_core.specs.declared.row.Row.{Row}
use Rattle.archive_model.specs.Records.{Archive}
use Rattle.archive_model.specs.Questions.{has_list, list_names, merge_of}
use Rattle.archive_model.specs.Keys.{is_key}
use Rattle.archive_results.specs.Access.{Ask, Asked, served, denied_by, absent, asked_for_key}
use Rattle.archive_results.specs.Shown.{ShownMessage}
use Rattle.archive_results.specs.Results.{TreeLine, tree_line, lines_of, thread_rows_of, elements_in_range, place_of_key, author_lines, export_text}
use Rattle.archive_html.specs.Pages.{lists_page, author_page, threads_page, thread_page}
use Rattle.archive_requests.specs.Requests.{Request, bad, other_method, unauthorized as no_token, asks, request_of}
use Rattle.archive_requests.specs.Routes.{Route, lists, message, month, threads, thread, author, mbox, route_of}
use Rattle.archive_pages.specs.Replies.{Reply, page_reply, message_reply, mbox_reply, bad_request, unauthorized, forbidden, not_found, method_not_allowed}
use Rattle.archive_pages.specs.Answers.{reader_of, ask_of_reader, shown_view, month_reply, reply_of}
use Rattle.archive_pages.specs.Laws.{list_of_route}

-- ---- what it is

-- What is told of a key: the list holds no message under it, it is shown, or the rule of this name denies it.
pub data KeyVisibility : Type 0 where
  is_absent : KeyVisibility
  is_shown : KeyVisibility
  is_denied : (rule : List ℕ) → KeyVisibility

-- Of one list: the messages that are shown, in mailbox order; the rows of their threads, each at the depth of its page, which is 20
-- at most; and what is told of each key.
pub record VisibleList : Type 0 where
  pub shown : List ShownMessage
  pub rows : List Row
  pub visibility : (key : List ℕ) → KeyVisibility

-- The names of the lists, in the order of their bytes, and what is seen of each of them.
pub record VisibleArchive : Type 0 where
  pub names : List (List ℕ)
  pub of : (name : List ℕ) → Option VisibleList

-- ---- what a reader sees

abbrev pub visibility_of_asked : Asked → KeyVisibility
visibility_of_asked (served text) = is_shown
visibility_of_asked (denied_by rule) = is_denied rule
visibility_of_asked absent = is_absent

-- a text that no message has as its key is that of none
abbrev pub visibility_of_key : Archive → Ask → (key : List ℕ) → KeyVisibility
visibility_of_key archive ask key = if is_key key then visibility_of_asked (asked_for_key archive ask key) else is_absent

-- a row as deep as a page shows it
abbrev pub depth_limited_row : Row → Row
depth_limited_row row = record row { depth = min row.depth 20 }

abbrev pub depth_limited_rows : (merge : Bool) → List ShownMessage → List Row
depth_limited_rows merge view = map depth_limited_row (thread_rows_of merge view)

abbrev pub visible_list : Archive → Ask → VisibleList
visible_list archive ask = record {
  shown = shown_view archive ask;
  rows = depth_limited_rows (merge_of archive ask.list) (shown_view archive ask);
  visibility = visibility_of_key archive ask;
}

abbrev pub archive_visible_to : Archive → List Rule → ℤ → (reader : Option (List ℕ)) → VisibleArchive
archive_visible_to archive rules day reader = record {
  names = list_names archive;
  of = λ name. if has_list archive name then Some (visible_list archive (ask_of_reader rules day reader name)) else None;
}

-- What is seen by this token, or without one; nothing by a token that is no person's.
abbrev pub archive_visible_by_token : Archive → List Rule → ℤ → (token : Option (List ℕ)) → Option VisibleArchive
archive_visible_by_token archive rules day token = option_map (archive_visible_to archive rules day) (reader_of archive token)

-- the token by which a request asks
abbrev pub token_of_request : Request → Option (List ℕ)
token_of_request bad = None
token_of_request other_method = None
token_of_request no_token = None
token_of_request (asks token path) = token

abbrev pub token_of_head : RequestHead → Option (List ℕ)
token_of_head head = token_of_request (request_of head)

-- ---- the reply, from what is seen

-- the text of a message that is shown
abbrev pub reply_of_shown_message : (key : List ℕ) → List ShownMessage → Reply
reply_of_shown_message key view = option_map_or (λ s. message_reply s.item.text) (find (λ s. bytes_eq s.key key) view) not_found

abbrev pub reply_by_visibility : (key : List ℕ) → List ShownMessage → KeyVisibility → Reply
reply_by_visibility key view is_absent = not_found
reply_by_visibility key view is_shown = reply_of_shown_message key view
reply_by_visibility key view (is_denied rule) = forbidden rule

-- the rows with the lines at their places
abbrev pub tree_lines_of_rows : VisibleList → List Row → List TreeLine
tree_lines_of_rows s rows = map (tree_line (lines_of s.shown)) rows

-- where the rows of the thread of a key stand
abbrev pub thread_range_of_key : (key : List ℕ) → VisibleList → Option (ℕ × ℕ)
thread_range_of_key key s = if is_key key then option_and_then (top_thread_of s.rows) (place_of_key key (lines_of s.shown)) else None

abbrev pub thread_reply_from : (list key : List ℕ) → VisibleList → Reply
thread_reply_from list key s = option_map_or (λ range. page_reply (thread_page list (tree_lines_of_rows s (elements_in_range range s.rows)))) (thread_range_of_key key s) not_found

abbrev pub list_reply_from : Route → VisibleList → Reply
list_reply_from lists s = not_found
list_reply_from (message list key) s = reply_by_visibility key s.shown (s.visibility key)
list_reply_from (month list text) s = month_reply list text s.shown
list_reply_from (threads list) s = page_reply (threads_page list (tree_lines_of_rows s s.rows))
list_reply_from (thread list key) s = thread_reply_from list key s
list_reply_from (author list key) s = page_reply (author_page list key (author_lines key s.shown))
list_reply_from (mbox list) s = mbox_reply (export_text s.shown)

-- of a route on a list that is there, or of the lists
abbrev pub route_reply_from : VisibleArchive → Route → Reply
route_reply_from s route = option_map_or (λ list. option_map_or (list_reply_from route) (s.of list) not_found) (list_of_route route) (page_reply (lists_page s.names))

abbrev pub path_reply_from : (path : List ℕ) → VisibleArchive → Reply
path_reply_from path s = option_map_or (route_reply_from s) (route_of path) not_found

abbrev pub request_reply_from : Option VisibleArchive → Request → Reply
request_reply_from s bad = bad_request
request_reply_from s other_method = method_not_allowed
request_reply_from s no_token = unauthorized
request_reply_from s (asks token path) = option_map_or (path_reply_from path) s unauthorized

abbrev pub reply_from : Option VisibleArchive → RequestHead → Reply
reply_from s head = request_reply_from s (request_of head)

-- ---- the law

-- The reply to a request is a function of what its reader sees: nothing else of an archive turns up in any reply.
abbrev pub RepliesDependOnVisibleOnly : Type 0
RepliesDependOnVisibleOnly = (archive : Archive) (rules : List Rule) (day : ℤ) (head : RequestHead)
    → reply_of archive rules day head ≡ reply_from (archive_visible_by_token archive rules day (token_of_head head)) head
