-- Why a reply is a function of what its reader sees.
use Rattle.std.proofs.Common.{◌≡◌, ◌∙◌, ℕ, zero, suc, ℤ, ◌+◌, ◌-◌, min, List, [], ◌∷◌, ◌++◌, map, flat_map, filter, find, take, drop, length, slice_get}
use Rattle.std.proofs.Common.{position, take_while, bytes_eq, Bool, true, false, cond, not, ◌&&◌, ◌==◌, Option, Some, None, option_map, option_and_then, refl, sym, ap, arith, if◌then◌else◌, codes}
use Rattle.std.specs.List.{prefix_len}
use Rattle.std.specs.Option.{option_map_or}
use Rattle.std.proofs.lemmas.List.{take-map}
use Rattle.std.proofs.lemmas.Option.{slice_get-map, same_Some}
use Rattle.std.proofs.lemmas.Bool.{true≢false}
use Rattle.std.proofs.lemmas.Bool.Decides.{nat_tests}
use Rattle.policy_core.specs.Rules.{Rule}
use Rattle.policy_core.specs.Verdict.{Ruling, allowed, denied}
use Rattle.thread_core.specs.TopThread.{is_row_of, is_top_row, top_row_at_or_before, next_top_row, top_thread_of}
use Rattle.thread_core.specs.declared.row.Row.{Row}
use Rattle.archive_model.specs.Records.{Archive, Message}
use Rattle.archive_model.specs.Questions.{has_list, merge_of, is_message_at_key, message_of}
use Rattle.archive_model.specs.Keys.{is_key}
use Rattle.archive_results.specs.Access.{Ask, asked_under_ruling, asked_of_message, asked_for_key, is_allowed_ruling, is_shown, message_facts, reader_facts, ruling_on}
use Rattle.archive_results.specs.Shown.{ShownMessage, Line, shown_message}
use Rattle.archive_results.specs.Results.{tree_line, lines_of, thread_rows_of, tree_lines, elements_in_range, place_of_key, thread_lines}
use Rattle.archive_html.specs.Rows.{message_row, missing_row, tree_row}
use Rattle.archive_html.specs.Pages.{threads_page, thread_page, page, list_title}
use Rattle.archive_requests.specs.Requests.{Request, bad, other_method, unauthorized as no_token, asks, request_of}
use Rattle.archive_requests.specs.Routes.{Route, lists, message, month, threads, thread, author, mbox, route_of}
use Rattle.archive_pages.specs.Replies.{Reply, page_reply, not_found, unauthorized}
use Rattle.archive_pages.specs.Answers.{reader_of, ask_of_reader, shown_view, lookup_reply, reply_by_key, reply_if_list_exists, route_reply, path_reply, request_reply}
use Rattle.archive_laws.specs.Seen.{is_absent, VisibleList, token_of_request, visibility_of_asked, visibility_of_key, depth_limited_row, visible_list, archive_visible_to, archive_visible_by_token}
use Rattle.archive_laws.specs.Seen.{reply_by_visibility, tree_lines_of_rows, thread_reply_from, list_reply_from, route_reply_from, path_reply_from, request_reply_from, RepliesDependOnVisibleOnly}

-- ---- a row at the depth of a page

lowest_twice : (n : ℕ) → min (min n 20) 20 ≡ min n 20
lowest_twice n = omega arith

top_at_once : (n : ℕ) → (min n 20 == 0) ≡ (n == 0)
top_at_once n = grind (arith, nat_tests)

row_text : (list : List ℕ) (lines : List Line) (r : Row) → tree_row list (tree_line lines (depth_limited_row r)) ≡ tree_row list (tree_line lines r)
unfolding tree_row message_row
row_text list lines r = of (option_and_then (slice_get lines) r.place)
  where
    of : (o : Option Line) → option_map_or (message_row list (min r.depth 20)) o missing_row ≡ option_map_or (message_row list r.depth) o missing_row
    of None = refl
    of (Some line) = rw (lowest_twice r.depth) refl

pub row_texts : (list : List ℕ) (lines : List Line) (rows : List Row)
    → flat_map (tree_row list) (map (tree_line lines) (map depth_limited_row rows)) ≡ flat_map (tree_row list) (map (tree_line lines) rows)
row_texts list lines [] = refl
row_texts list lines (r ∷ rows) =
    ap (λ text. text ++ flat_map (tree_row list) (map (tree_line lines) (map depth_limited_row rows))) (row_text list lines r)
    ∙ ap (λ texts. tree_row list (tree_line lines r) ++ texts) (row_texts list lines rows)

-- ---- the thread of a place

is_top : (r : Row) → is_top_row (depth_limited_row r) ≡ is_top_row r
is_top r = top_at_once r.depth

prefix_alike : (p : Row → Bool) → ((r : Row) → p (depth_limited_row r) ≡ p r) → (rows : List Row) → prefix_len p (map depth_limited_row rows) ≡ prefix_len p rows
prefix_alike p same [] = refl
prefix_alike p same (r ∷ rows) = rw (same r, prefix_alike p same rows) refl

long : (rows : List Row) → length (map depth_limited_row rows) ≡ length rows
long [] = refl
long (r ∷ rows) = ap suc (long rows)

dropped : (n : ℕ) (rows : List Row) → drop n (map depth_limited_row rows) ≡ map depth_limited_row (drop n rows)
dropped zero rows = refl
dropped (suc n) [] = refl
dropped (suc n) (r ∷ rows) = dropped n rows

placed : (place : ℕ) (rows : List Row) → position (is_row_of place) (map depth_limited_row rows) ≡ position (is_row_of place) rows
placed place rows = rw (long rows, prefix_alike (λ r. not (is_row_of place r)) (λ r. refl) rows) refl

top_or_not : (o : Option Row) → option_map_or is_top_row (option_map depth_limited_row o) false ≡ option_map_or is_top_row o false
top_or_not None = refl
top_or_not (Some r) = is_top r

first_row : (rows : List Row) (at : ℕ) → top_row_at_or_before (map depth_limited_row rows) at ≡ top_row_at_or_before rows at
first_row rows zero = refl
first_row rows (suc n) = rw (slice_get-map depth_limited_row rows (suc n), top_or_not (slice_get rows (suc n)), first_row rows n) refl

run_of : (rows : List Row) → length (take_while (λ r. not (is_top_row r)) (map depth_limited_row rows)) ≡ length (take_while (λ r. not (is_top_row r)) rows)
run_of rows =
    rw (prefix_alike (λ r. not (is_top_row r)) (λ r. ap not (is_top r)) rows, take-map depth_limited_row (prefix_len (λ r. not (is_top_row r)) rows) rows)
    (long (take (prefix_len (λ r. not (is_top_row r)) rows) rows))

last_row : (rows : List Row) (at : ℕ) → next_top_row (map depth_limited_row rows) at ≡ next_top_row rows at
last_row rows at = ap (λ n. at + 1 + n) (ap (λ rs. length (take_while (λ r. not (is_top_row r)) rs)) (dropped (at + 1) rows) ∙ run_of (drop (at + 1) rows))

range_at : List Row → ℕ → ℕ × ℕ
range_at rows at = (top_row_at_or_before rows at, next_top_row rows at)

same_range : (rows : List Row) (at : ℕ) → range_at (map depth_limited_row rows) at ≡ range_at rows at
unfolding range_at
same_range rows at = rw (first_row rows at, last_row rows at) refl

top_thread : (rows : List Row) (place : ℕ) → top_thread_of (map depth_limited_row rows) place ≡ top_thread_of rows place
unfolding range_at
top_thread rows place = ap (option_map (range_at (map depth_limited_row rows))) (placed place rows) ∙ of (position (is_row_of place) rows)
  where
    of : (o : Option ℕ) → option_map (range_at (map depth_limited_row rows)) o ≡ option_map (range_at rows) o
    of None = refl
    of (Some at) = ap {B = Option (ℕ × ℕ)} Some (same_range rows at)

in_range : (range : ℕ × ℕ) (rows : List Row) → elements_in_range range (map depth_limited_row rows) ≡ map depth_limited_row (elements_in_range range rows)
in_range range rows = ap (take (range.1 - range.0)) (dropped range.0 rows) ∙ take-map depth_limited_row (range.1 - range.0) (drop range.0 rows)

-- ---- the message of a key, where it is shown

module _ (list key : List ℕ) (P : Message → Bool) where
  abbrev of_list : List Message → List Message
  of_list ms = filter (λ m. bytes_eq m.list list) ms

  abbrev first_shown : List Message → Option ShownMessage
  first_shown ms = find (λ s. bytes_eq s.key key) (map shown_message (filter P (of_list ms)))

  first_of_key : (ms : List Message) (m : Message) → find (is_message_at_key list key) ms ≡ Some m → P m ≡ true → first_shown ms ≡ Some (shown_message m)
  first_of_key [] m held is = grind arith
  first_of_key (x ∷ ms) m held is = by (bytes_eq x.list list) (bytes_eq x.key key) (P x) refl refl refl held (λ h. first_of_key ms m h is)
    where
      by : (l k p : Bool) → bytes_eq x.list list ≡ l → bytes_eq x.key key ≡ k → P x ≡ p → cond (l && k) (Some x) (find (is_message_at_key list key) ms) ≡ Some m
          → (find (is_message_at_key list key) ms ≡ Some m → first_shown ms ≡ Some (shown_message m)) → first_shown (x ∷ ms) ≡ Some (shown_message m)
      by false k p el ek ep h later = rw el (later h)
      by true false true el ek ep h later = rw (el, ep, ek) (later h)
      by true false false el ek ep h later = rw (el, ep) (later h)
      by true true true el ek ep h later = rw (el, ep, ek) (ap (λ y. Some (shown_message y)) (same_Some x m h))
      by true true false el ek ep h later = absurd (true≢false (sym is ∙ sym (ap P (same_Some x m h)) ∙ ep))

-- ---- the replies

module _ (archive : Archive) (ask : Ask) where
  abbrev view : List ShownMessage
  view = shown_view archive ask

  abbrev merge : Bool
  merge = merge_of archive ask.list

  abbrev rules_on : Message → Ruling
  rules_on m = ruling_on ask (reader_facts archive ask) (message_facts (reader_facts archive ask).address m)

  by_ruling : (key : List ℕ) (m : Message) → message_of archive ask.list key ≡ Some m → (r : Ruling) → rules_on m ≡ r
      → lookup_reply (asked_under_ruling m r) ≡ reply_by_visibility key view (visibility_of_asked (asked_under_ruling m r))
  by_ruling key m held (allowed rule) is = rw (first_of_key ask.list key (is_shown ask (reader_facts archive ask)) archive.messages m held (ap is_allowed_ruling is)) refl
  by_ruling key m held (denied rule) is = refl

  by_held : (key : List ℕ) (o : Option Message) → message_of archive ask.list key ≡ o
      → lookup_reply (asked_of_message ask (reader_facts archive ask) o) ≡ reply_by_visibility key view (visibility_of_asked (asked_of_message ask (reader_facts archive ask) o))
  by_held key None held = refl
  by_held key (Some m) held = by_ruling key m held (rules_on m) refl

  of_key : (key : List ℕ) → reply_by_key archive ask key ≡ reply_by_visibility key view (visibility_of_key archive ask key)
  of_key key = by (is_key key)
    where
      by : (b : Bool) → cond b (lookup_reply (asked_for_key archive ask key)) not_found ≡ reply_by_visibility key view (cond b (visibility_of_asked (asked_for_key archive ask key)) is_absent)
      by true = by_held key (message_of archive ask.list key) refl
      by false = refl

  abbrev s : VisibleList
  s = visible_list archive ask

  of_threads : (list : List ℕ) → threads_page list (tree_lines merge view) ≡ threads_page list (tree_lines_of_rows s s.rows)
  of_threads list = ap (page (list_title list (codes "threads"))) (sym (row_texts list (lines_of view) (thread_rows_of merge view)))

  cut_page : (list : List ℕ) (range : ℕ × ℕ)
      → thread_page list (map (tree_line (lines_of view)) (elements_in_range range (thread_rows_of merge view))) ≡ thread_page list (tree_lines_of_rows s (elements_in_range range s.rows))
  cut_page list range = ap (page (list_title list (codes "thread")))
      (sym (row_texts list (lines_of view) (elements_in_range range (thread_rows_of merge view)))
      ∙ ap (λ rows. flat_map (tree_row list) (map (tree_line (lines_of view)) rows)) (sym (in_range range (thread_rows_of merge view))))

  of_ranges : (list : List ℕ) (o : Option (ℕ × ℕ))
      → option_map_or (λ rows. page_reply (thread_page list rows)) (option_map (λ range. map (tree_line (lines_of view)) (elements_in_range range (thread_rows_of merge view))) o) not_found
      ≡ option_map_or (λ range. page_reply (thread_page list (tree_lines_of_rows s (elements_in_range range s.rows)))) o not_found
  of_ranges list None = refl
  of_ranges list (Some range) = ap page_reply (cut_page list range)

  at_place : (o : Option ℕ) → option_and_then (top_thread_of (thread_rows_of merge view)) o ≡ option_and_then (top_thread_of s.rows) o
  at_place None = refl
  at_place (Some place) = sym (top_thread (thread_rows_of merge view) place)

  of_thread : (list key : List ℕ)
      → option_map_or (λ rows. page_reply (thread_page list rows)) (if is_key key then thread_lines merge key view else None) not_found ≡ thread_reply_from list key s
  of_thread list key = by (is_key key)
    where
      by : (b : Bool) → option_map_or (λ rows. page_reply (thread_page list rows)) (cond b (thread_lines merge key view) None) not_found
          ≡ option_map_or (λ range. page_reply (thread_page list (tree_lines_of_rows s (elements_in_range range s.rows))))
          (cond b (option_and_then (top_thread_of s.rows) (place_of_key key (lines_of view))) None) not_found
      by true = of_ranges list (option_and_then (top_thread_of (thread_rows_of merge view)) (place_of_key key (lines_of view)))
          ∙ ap (λ o. option_map_or (λ range. page_reply (thread_page list (tree_lines_of_rows s (elements_in_range range s.rows)))) o not_found) (at_place (place_of_key key (lines_of view)))
      by false = refl

  -- where the list is there, and where it is not
  on_list : (route : Route) (made : Reply) → made ≡ list_reply_from route s
      → reply_if_list_exists archive ask.list made ≡ option_map_or (list_reply_from route) (if has_list archive ask.list then Some s else None) not_found
  on_list route made same = by (has_list archive ask.list)
    where
      by : (b : Bool) → cond b made not_found ≡ option_map_or (list_reply_from route) (cond b (Some s) None) not_found
      by true = same
      by false = refl

module _ (archive : Archive) (rules : List Rule) (day : ℤ) where
  module _ (reader : Option (List ℕ)) where
    abbrev to : List ℕ → Ask
    to list = ask_of_reader rules day reader list

    of_route : (route : Route) → route_reply archive to route ≡ route_reply_from (archive_visible_to archive rules day reader) route
    of_route lists = refl
    of_route (message list key) = on_list archive (to list) (message list key) _ (of_key archive (to list) key)
    of_route (month list text) = on_list archive (to list) (month list text) _ refl
    of_route (threads list) = on_list archive (to list) (threads list) _ (ap page_reply (of_threads archive (to list) list))
    of_route (thread list key) = on_list archive (to list) (thread list key) _ (of_thread archive (to list) list key)
    of_route (author list key) = on_list archive (to list) (author list key) _ refl
    of_route (mbox list) = on_list archive (to list) (mbox list) _ refl

    of_path : (o : Option Route) → option_map_or (route_reply archive to) o not_found ≡ option_map_or (route_reply_from (archive_visible_to archive rules day reader)) o not_found
    of_path None = refl
    of_path (Some route) = of_route route

  of_reader : (path : List ℕ) (o : Option (Option (List ℕ)))
      → option_map_or (path_reply archive rules day path) o unauthorized ≡ option_map_or (path_reply_from path) (option_map (archive_visible_to archive rules day) o) unauthorized
  of_reader path None = refl
  of_reader path (Some reader) = of_path reader (route_of path)

  of_request : (request : Request) → request_reply archive rules day request ≡ request_reply_from (archive_visible_by_token archive rules day (token_of_request request)) request
  of_request bad = refl
  of_request other_method = refl
  of_request no_token = refl
  of_request (asks token path) = of_reader path (reader_of archive token)

pub of_what_is_seen : RepliesDependOnVisibleOnly
of_what_is_seen archive rules day head = of_request archive rules day (request_of head)
