-- The routes of the router, and what the code's values name.
use Rattle.std.specs.Prelude.{ℕ, List, [], codes, Result, Ok, Err}
use Rattle.percent_encoding.specs.Percent.{percent_decode}
use Rattle.matchit.specs.Rows.{RowsOf}
use Rattle.matchit.specs.Router.{RouteOf, route_from}
use Rattle.matchit.specs.Order.{placed}
use Rattle.matchit.specs.Route.{Scan, parse_route}
use Rattle.matchit.specs.declared.error.InsertError.{InsertError}
use Rattle.archive_requests.specs.Routes.{Route, lists, message, month, threads, thread, author, mbox}
use Rattle.archive_requests.specs.declared.routes.Route.{Route as Found}
use Rattle.archive_requests.specs.declared.routes.Route.TheVariants as found
use Rattle.archive_requests.specs.declared.routes.Page.{Page}
use Rattle.archive_requests.specs.declared.routes.Page.TheVariants.{Lists, Message, Month, Threads, Thread, Author, Mbox}

abbrev pub RouteTable : Type 0
RouteTable = RowsOf (RouteOf Page)

abbrev pub with_parsed_route : Result Scan InsertError → Page → RouteTable → RouteTable
with_parsed_route (Ok s) page rows = placed ((route_from s page).pattern, route_from s page) rows
with_parsed_route (Err e) page rows = rows

-- the rows with one route more
abbrev pub with_route : List ℕ → Page → RouteTable → RouteTable
with_route text page rows = with_parsed_route (parse_route text) page rows

unfoldable pub route_table : RouteTable
route_table =
    with_route (codes "/l/{list}/mbox") Mbox
    (with_route (codes "/l/{list}/by/{author}") Author
    (with_route (codes "/l/{list}/t/{key}") Thread
    (with_route (codes "/l/{list}/threads") Threads
    (with_route (codes "/l/{list}/month/{month}") Month
    (with_route (codes "/l/{list}/m/{key}") Message
    (with_route (codes "/") Lists []))))))

-- a route of the code, as the definition names it
abbrev pub model_route : Found → Route
model_route found.Lists = lists
model_route (found.Message list key) = message list.now key.now
model_route (found.Month list text) = month list.now text.now
model_route (found.Threads list) = threads list.now
model_route (found.Thread list key) = thread list.now key.now
model_route (found.Author list who) = author list.now (percent_decode who.now)
model_route (found.Mbox list) = mbox list.now
