-- What a route asks of a list, with its words read, and the page of it.
use Rattle.std.specs.Prelude.{◌≡◌, ℕ, Bool, List, Option, None, Some, Vec}
use Rattle.std.specs.Option.{option_map_or}
use Rattle.std.specs.declared.alloc.Global.{Global}
use Rattle.archive_model.specs.Records.{Archive}
use Rattle.archive_model.specs.Questions.{merge_of}
use Rattle.archive_results.specs.Access.{Ask}
use Rattle.archive_results.specs.Results.{author_lines, month_lines, thread_lines, tree_lines}
use Rattle.archive_results.specs.Shown.{ShownMessage}
use Rattle.archive_html.specs.Pages.{author_page, month_page, thread_page, threads_page}
use Rattle.archive_cache.specs.ListIndexes.{ListIndex, index_for_ask}
use Rattle.archive_cache.specs.Parts.{ViewPart, whole, month as month_part, author as author_part}
use Rattle.archive_requests.specs.Routes.{Route, lists, message, month, threads, thread, author, mbox}
use Rattle.archive_pages.specs.Answers.{list_reply, reply_if_list_exists, shown_view}
use Rattle.archive_pages.specs.Replies.{Reply, not_found, page_reply}
use Rattle.archive_pages.specs.declared.listing.Wanted.{Wanted}
use Rattle.archive_pages.specs.declared.listing.Wanted.TheVariants.{Month, Author, Threads, Thread}

-- the list that a route leads to; None: all lists
abbrev pub list_of_route : Route → Option (List ℕ)
list_of_route lists = None
list_of_route (message list key) = Some list
list_of_route (month list text) = Some list
list_of_route (threads list) = Some list
list_of_route (thread list key) = Some list
list_of_route (author list key) = Some list
list_of_route (mbox list) = Some list

-- The reply to the route's page of the list that is asked of. It is 404 of a route that lists no messages, and of an mbox.
abbrev pub listing_reply : Archive → Ask → Route → Reply
listing_reply archive ask (month list text) = list_reply archive ask (month ask.list text)
listing_reply archive ask (threads list) = list_reply archive ask (threads ask.list)
listing_reply archive ask (thread list key) = list_reply archive ask (thread ask.list key)
listing_reply archive ask (author list key) = list_reply archive ask (author ask.list key)
listing_reply archive ask _ = not_found

-- the part of the list whose outline a page is made of
abbrev pub wanted_part : Wanted → ViewPart
wanted_part (Month m) = month_part m
wanted_part (Author key) = author_part key.items
wanted_part Threads = whole
wanted_part (Thread key) = whole

abbrev pub wanted_view_reply : (merge : Bool) → (list : List ℕ) → Wanted → List ShownMessage → Reply
wanted_view_reply merge list (Month m) view = page_reply (month_page list m (month_lines m view))
wanted_view_reply merge list (Author key) view = page_reply (author_page list key.items (author_lines key.items view))
wanted_view_reply merge list Threads view = page_reply (threads_page list (tree_lines merge view))
wanted_view_reply merge list (Thread key) view = option_map_or (λ rows. page_reply (thread_page list rows)) (thread_lines merge key view) not_found

-- the reply to what is wanted of the list that is asked of, where the list is there
abbrev pub wanted_reply : Archive → Ask → Wanted → Reply
wanted_reply archive ask wanted = wanted_view_reply (merge_of archive ask.list) ask.list wanted (shown_view archive ask)

-- This is what a route asks for, of whatever list. None: no list has such a page.
abbrev pub IsWantedBy : Route → Option Wanted → Type 0
IsWantedBy route wanted = (archive : Archive) (ask : Ask)
    → listing_reply archive ask route ≡ option_map_or (λ w. reply_if_list_exists archive ask.list (wanted_reply archive ask w)) wanted not_found

-- The page that is made of an outline, where that is of the part, is the one wanted. None: that is 404.
abbrev pub IsPageOfIndex : (list : List ℕ) → Wanted → ListIndex → Option (Vec ℕ Global) → Type 0
IsPageOfIndex list wanted outline page = (archive : Archive) (ask : Ask) → list ≡ ask.list → outline ≡ index_for_ask archive ask (wanted_part wanted)
    → option_map_or (λ p. page_reply p.items) page not_found ≡ wanted_reply archive ask wanted
