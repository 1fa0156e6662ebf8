-- Why the laws of the replies hold.
use Rattle.std.proofs.Common.{◌≡◌, ◌∙◌, ℕ, ℤ, List, [], ◌∷◌, Bool, true, false, ◌||◌, cond, Option, Some, None, refl, sym, ap, bytes_eq}
use Rattle.std.specs.List.{list_any}
use Rattle.std.specs.Option.{option_map_or}
use Rattle.std.specs.Prelude.{is_some}
use Rattle.std.specs.Ordering.{is_lt, nat_cmp}
use Rattle.std.specs.Cmp.Lexicographic.{slice_cmp}
use Rattle.std.proofs.lemmas.Bool.{true≢false}
use Rattle.httparse.specs.Grammar.{RequestHead}
use Rattle.policy_core.specs.Rules.{Rule}
use Rattle.archive_model.specs.Records.{Archive}
use Rattle.archive_model.specs.Questions.{has_list, list_names, merge_of, insert_in_byte_order, sort_by_bytes}
use Rattle.archive_results.specs.Access.{Ask}
use Rattle.archive_html.specs.Pages.{lists_page}
use Rattle.archive_requests.specs.Requests.{Request, bad, other_method, unauthorized as no_token, asks, request_of}
use Rattle.archive_requests.specs.Routes.{Route, lists, message, month, threads, thread, author, mbox, route_of}
use Rattle.archive_pages.specs.Replies.{page_reply, not_found, unauthorized}
use Rattle.archive_pages.specs.Answers.{reader_of, ask_of_reader, shown_view, view_reply, reply_if_list_exists, list_reply, route_reply, path_reply, request_reply, reply_of}
use Rattle.archive_pages.specs.Laws.{AsksFor, list_of_route, is_message_route, HaveSameViews, EqualViews}

-- ---- the names in order are the names

or_swap : (x y z : Bool) → (x || (y || z)) ≡ (y || (x || z))
or_swap true true z = refl
or_swap true false z = refl
or_swap false y z = refl

put_by : (test : List ℕ → Bool) (name other : List ℕ) (names more : List (List ℕ)) (t : Bool) → list_any test more ≡ (test name || list_any test names)
    → list_any test (cond t (other ∷ more) (name ∷ other ∷ names)) ≡ (test name || (test other || list_any test names))
put_by test name other names more true h = ap (λ b. test other || b) h ∙ or_swap (test other) (test name) (list_any test names)
put_by test name other names more false h = refl

any_with : (test : List ℕ → Bool) (name : List ℕ) (names : List (List ℕ)) → list_any test (insert_in_byte_order name names) ≡ (test name || list_any test names)
any_with test name [] = refl
any_with test name (other ∷ names) = put_by test name other names (insert_in_byte_order name names) (is_lt (slice_cmp nat_cmp other name)) (any_with test name names)

any_in_order : (test : List ℕ → Bool) (names : List (List ℕ)) → list_any test (sort_by_bytes names) ≡ list_any test names
any_in_order test [] = refl
any_in_order test (name ∷ names) = any_with test name (sort_by_bytes names) ∙ ap (λ b. test name || b) (any_in_order test names)

same_lists : (a b : Archive) (list : List ℕ) → list_names a ≡ list_names b → has_list a list ≡ has_list b list
same_lists a b list same = sym (any_in_order (λ known. bytes_eq known list) a.lists)
    ∙ ap (list_any (λ known. bytes_eq known list)) same ∙ any_in_order (λ known. bytes_eq known list) b.lists

-- ---- a listing of a list

listing : (a b : Archive) (first second : Ask) (route : Route) (list : List ℕ) → has_list a list ≡ has_list b list → merge_of a list ≡ merge_of b list
    → shown_view a first ≡ shown_view b second
    → reply_if_list_exists a list (view_reply (merge_of a list) route (shown_view a first)) ≡ reply_if_list_exists b list (view_reply (merge_of b list) route (shown_view b second))
listing a b first second route list there way same = ap (λ t. cond t (view_reply (merge_of a list) route (shown_view a first)) not_found) there
    ∙ ap (λ merge. cond (has_list b list) (view_reply merge route (shown_view a first)) not_found) way
    ∙ ap (λ view. cond (has_list b list) (view_reply (merge_of b list) route view) not_found) same

module _ (rules : List Rule) (day : ℤ) (a b : Archive) (x y : Option (List ℕ)) (names : list_names a ≡ list_names b) where
  abbrev Same : Route → Type 0
  Same route = route_reply a (ask_of_reader rules day x) route ≡ route_reply b (ask_of_reader rules day y) route

  abbrev Views : Route → Type 0
  Views route = (list : List ℕ) → list_of_route route ≡ Some list → shown_view a (ask_of_reader rules day x list) ≡ shown_view b (ask_of_reader rules day y list)

  abbrev Ways : Route → Type 0
  Ways route = (list : List ℕ) → list_of_route route ≡ Some list → merge_of a list ≡ merge_of b list

  of_list : (route : Route) (list : List ℕ) → Views route → Ways route → list_of_route route ≡ Some list
      → list_reply a (ask_of_reader rules day x list) route ≡ list_reply b (ask_of_reader rules day y list) route
  of_list route list views ways is =
      listing a b (ask_of_reader rules day x list) (ask_of_reader rules day y list) route list (same_lists a b list names) (ways list is) (views list is)

  by_route : (route : Route) → Views route → Ways route → is_message_route route ≡ false → Same route
  by_route lists views ways other = ap (λ ns. page_reply (lists_page ns)) names
  by_route (message list key) views ways other = absurd (true≢false other)
  by_route (month list text) views ways other = of_list (month list text) list views ways refl
  by_route (threads list) views ways other = of_list (threads list) list views ways refl
  by_route (thread list key) views ways other = of_list (thread list key) list views ways refl
  by_route (author list key) views ways other = of_list (author list key) list views ways refl
  by_route (mbox list) views ways other = of_list (mbox list) list views ways refl

  by_found : (o : Option Route) → ((route : Route) → o ≡ Some route → Views route) → ((route : Route) → o ≡ Some route → Ways route)
      → ((route : Route) → o ≡ Some route → is_message_route route ≡ false)
      → option_map_or (route_reply a (ask_of_reader rules day x)) o not_found ≡ option_map_or (route_reply b (ask_of_reader rules day y)) o not_found
  by_found None v u w = refl
  by_found (Some route) v u w = by_route route (v route refl) (u route refl) (w route refl)

-- ---- a request

by_reader : (rules : List Rule) (day : ℤ) (a b : Archive) (path : List ℕ) (u w : Option (Option (List ℕ))) → is_some u ≡ is_some w → list_names a ≡ list_names b
    → ((route : Route) (list : List ℕ) (x y : Option (List ℕ)) → route_of path ≡ Some route → list_of_route route ≡ Some list → u ≡ Some x → w ≡ Some y
    → shown_view a (ask_of_reader rules day x list) ≡ shown_view b (ask_of_reader rules day y list))
    → ((route : Route) (list : List ℕ) → route_of path ≡ Some route → list_of_route route ≡ Some list → merge_of a list ≡ merge_of b list)
    → ((route : Route) → route_of path ≡ Some route → is_message_route route ≡ false)
    → option_map_or (path_reply a rules day path) u unauthorized ≡ option_map_or (path_reply b rules day path) w unauthorized
by_reader rules day a b path None None known names views ways other = refl
by_reader rules day a b path (Some x) (Some y) known names views ways other =
    by_found rules day a b x y names (route_of path) (λ route is list of. views route list x y is of refl refl) (λ route is list of. ways route list is of) other
by_reader rules day a b path None (Some y) known names views ways other = absurd (true≢false (sym known))
by_reader rules day a b path (Some x) None known names views ways other = absurd (true≢false known)

by_request : (rules : List Rule) (day : ℤ) (a b : Archive) (request : Request)
    → ((token : Option (List ℕ)) (path : List ℕ) → request ≡ asks token path → HaveSameViews rules day token path a b
    × ((route : Route) → route_of path ≡ Some route → is_message_route route ≡ false))
    → request_reply a rules day request ≡ request_reply b rules day request
by_request rules day a b bad alike = refl
by_request rules day a b other_method alike = refl
by_request rules day a b no_token alike = refl
by_request rules day a b (asks token path) alike =
    let it = alike token path refl in
    by_reader rules day a b path (reader_of a token) (reader_of b token) it.0.same_tokens_known it.0.same_list_names it.0.same_views it.0.same_merging it.1

pub equal_views_give_equal_replies : EqualViews
equal_views_give_equal_replies rules day head a b alike = by_request rules day a b (request_of head) alike

-- ---- what a request asks for

pub routed : (archive : Archive) (rules : List Rule) (day : ℤ) (head : RequestHead) (reader : Option (List ℕ)) (route : Route) → AsksFor archive head reader route
    → reply_of archive rules day head ≡ route_reply archive (ask_of_reader rules day reader) route
routed archive rules day head reader route asked =
    ap (request_reply archive rules day) asked.request_is
    ∙ ap (λ o. option_map_or (path_reply archive rules day asked.path) o unauthorized) asked.reader_is
    ∙ ap (λ o. option_map_or (route_reply archive (ask_of_reader rules day reader)) o not_found) asked.route_is
