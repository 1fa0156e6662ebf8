-- The reply to a request, as a function of the archive, the policy, the day and the head (RFC 9110, RFC 9112; RFC 6750, section
-- 3; profile: the routes and the order of the checks).
use Rattle.std.specs.Prelude.{ℕ, ℤ, Bool, true, false, List, map, Option, Some, None, option_map, if◌then◌else◌}
use Rattle.std.specs.Option.{is_none, option_map_or}
use Rattle.httparse.specs.Grammar.{RequestHead}
use Rattle.civil_time.specs.Calendar.{month_of_text}
use Rattle.policy_core.specs.Rules.{Rule}
use Rattle.archive_model.specs.Records.{Archive}
use Rattle.archive_model.specs.Questions.{has_list, list_names, merge_of, person_of_token}
use Rattle.archive_model.specs.Keys.{is_key}
use Rattle.archive_results.specs.Access.{Ask, Asked, served, denied_by, absent, asked_for_key, view_of}
use Rattle.archive_results.specs.Shown.{ShownMessage, shown_message}
use Rattle.archive_results.specs.Results.{month_lines, author_lines, tree_lines, thread_lines, export_text}
use Rattle.archive_html.specs.Pages.{lists_page, month_page, author_page, threads_page, thread_page}
use Rattle.archive_requests.specs.Requests.{Request, bad, other_method, unauthorized as no_token, asks, request_of}
use Rattle.archive_requests.specs.Routes.{Route, lists, message, month, threads, thread, author, mbox, route_of}
use Rattle.archive_pages.specs.Replies.{Reply, page_reply, message_reply, mbox_reply, bad_request, unauthorized, forbidden, not_found, method_not_allowed}

-- ---- who asks

-- Whom a request is answered: nobody, or the person who has its token. None: nobody has that token.
abbrev pub reader_of : Archive → (token : Option (List ℕ)) → Option (Option (List ℕ))
reader_of archive None = Some None
reader_of archive (Some token) = option_map Some (person_of_token archive token)

abbrev pub ask_of_reader : List Rule → ℤ → (reader : Option (List ℕ)) → (list : List ℕ) → Ask
ask_of_reader rules day reader list = record { rules = rules; reader = reader; list = list; day = day }

-- what the reader is shown of the list: the messages that the policy allows, in mailbox order
abbrev pub shown_view : Archive → Ask → List ShownMessage
shown_view archive ask = map shown_message (view_of archive ask)

-- ---- the answer of a route

-- of one message, asked for by its key
abbrev pub lookup_reply : Asked → Reply
lookup_reply (served text) = message_reply text
lookup_reply (denied_by rule) = forbidden rule
lookup_reply absent = not_found

abbrev pub reply_by_key : Archive → Ask → (key : List ℕ) → Reply
reply_by_key archive ask key = if is_key key then lookup_reply (asked_for_key archive ask key) else not_found

abbrev pub month_reply : (list text : List ℕ) → List ShownMessage → Reply
month_reply list text view = option_map_or (λ m. page_reply (month_page list m (month_lines m view))) (month_of_text text) not_found

abbrev pub thread_reply : (merge : Bool) (list key : List ℕ) → List ShownMessage → Reply
thread_reply merge list key view =
    option_map_or (λ rows. page_reply (thread_page list rows)) (if is_key key then thread_lines merge key view else None) not_found

-- of every other route on a list: a function of what the reader is shown and of the list's way of threading, alone
abbrev pub view_reply : (merge : Bool) → Route → List ShownMessage → Reply
view_reply merge lists view = not_found
view_reply merge (message list key) view = not_found
view_reply merge (month list text) view = month_reply list text view
view_reply merge (threads list) view = page_reply (threads_page list (tree_lines merge view))
view_reply merge (thread list key) view = thread_reply merge list key view
view_reply merge (author list key) view = page_reply (author_page list key (author_lines key view))
view_reply merge (mbox list) view = mbox_reply (export_text view)

-- where the list is there
abbrev pub reply_if_list_exists : Archive → (list : List ℕ) → Reply → Reply
reply_if_list_exists archive list reply = if has_list archive list then reply else not_found

-- of one message of a list
abbrev pub reply_for_message : Ask → (key : List ℕ) → Archive → Reply
reply_for_message ask key archive = reply_if_list_exists archive ask.list (reply_by_key archive ask key)

-- of every other route on a list
abbrev pub list_reply : Archive → Ask → Route → Reply
list_reply archive ask route = reply_if_list_exists archive ask.list (view_reply (merge_of archive ask.list) route (shown_view archive ask))

-- of all lists
abbrev pub lists_reply : Archive → Reply
lists_reply archive = page_reply (lists_page (list_names archive))

abbrev pub route_reply : Archive → (ask_of : List ℕ → Ask) → Route → Reply
route_reply archive ask_of lists = page_reply (lists_page (list_names archive))
route_reply archive ask_of (message list key) = reply_if_list_exists archive list (reply_by_key archive (ask_of list) key)
route_reply archive ask_of (month list text) = list_reply archive (ask_of list) (month list text)
route_reply archive ask_of (threads list) = list_reply archive (ask_of list) (threads list)
route_reply archive ask_of (thread list key) = list_reply archive (ask_of list) (thread list key)
route_reply archive ask_of (author list key) = list_reply archive (ask_of list) (author list key)
route_reply archive ask_of (mbox list) = list_reply archive (ask_of list) (mbox list)

-- an mbox is written message by message, any other reply is made before it is written
abbrev pub is_mbox_route : Route → Bool
is_mbox_route (mbox list) = true
is_mbox_route _ = false

-- what is made for a route; for an mbox nothing is, and that is 404
abbrev pub reply_unless_mbox : Archive → (ask_of : List ℕ → Ask) → Route → Reply
reply_unless_mbox archive ask_of route = if is_mbox_route route then not_found else route_reply archive ask_of route

-- ---- the checks, in their order

-- no route fits the path: 404
abbrev pub path_reply : Archive → List Rule → ℤ → (path : List ℕ) → (reader : Option (List ℕ)) → Reply
path_reply archive rules day path reader = option_map_or (route_reply archive (ask_of_reader rules day reader)) (route_of path) not_found

-- the token is looked at before the path
abbrev pub request_reply : Archive → List Rule → ℤ → Request → Reply
request_reply archive rules day bad = bad_request
request_reply archive rules day other_method = method_not_allowed
request_reply archive rules day no_token = unauthorized
request_reply archive rules day (asks token path) =
    option_map_or (path_reply archive rules day path) (reader_of archive token) unauthorized

-- The reply to a request that asks for no path: neither the archive nor memory is needed for it. None: it asks for one.
abbrev pub pathless_reply : Request → Option Reply
pathless_reply bad = Some bad_request
pathless_reply other_method = Some method_not_allowed
pathless_reply no_token = Some unauthorized
pathless_reply (asks token path) = None

-- The reply to nobody who asks for a path that no route fits: the archive is not needed for it. None: another request; where it
-- has a token, the person is looked for before the path.
abbrev pub unrouted_reply : Request → Option Reply
unrouted_reply bad = None
unrouted_reply other_method = None
unrouted_reply no_token = None
unrouted_reply (asks None path) = if is_none (route_of path) then Some not_found else None
unrouted_reply (asks (Some token) path) = None

abbrev pub reply_of : Archive → List Rule → ℤ → RequestHead → Reply
reply_of archive rules day head = request_reply archive rules day (request_of head)
