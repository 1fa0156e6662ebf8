-- `insert`s of literal routes.
use Rattle.std.proofs.Common.{refl, [], ◌∷◌, ◌++◌, codes}
use Rattle.matchit.proofs.OnLiterals.{matchit_on_literals}
use Rattle.archive_requests.specs.declared.routes.Page.TheVariants.{Lists, Message, Month, Threads, Thread, Author}
use Rattle.archive_requests.specs.Routing.{route_table, with_route}
use Rattle.archive_requests.proofs.InsertLemmas.{only_memory, carried}
use Rattle.archive_requests.proofs.routes.router_of_pages.Goals as goal

pub returns-in_err-insert-clause-memory : goal.returns-in_err-insert-clause-memory
unfolding matchit_on_literals
returns-in_err-insert-clause-memory c =
    let e = rw c.new-router.ensures at c.in_err-insert.ensures in
    let m = only_memory (codes "/") ([]) _ refl e.1 in
    carried _ _ c.from_residual.ensures.1 m

pub returns-in_err-insert-2-clause-memory : goal.returns-in_err-insert-2-clause-memory
unfolding matchit_on_literals
returns-in_err-insert-2-clause-memory c =
    let e = rw (c.in_ok-insert.ensures.1, c.new-router.ensures) at c.in_err-insert-2.ensures in
    let m = only_memory (codes "/l/" ++ 256 ∷ codes "/m/" ++ 256 ∷ []) (with_route (codes "/") Lists []) _ refl e.1 in
    carried _ _ c.from_residual-in_err-insert-2.ensures.1 m

pub returns-in_err-insert-3-clause-memory : goal.returns-in_err-insert-3-clause-memory
unfolding matchit_on_literals
returns-in_err-insert-3-clause-memory c =
    let e = rw (c.in_ok-insert-2.ensures.1, c.in_ok-insert.ensures.1, c.new-router.ensures) at c.in_err-insert-3.ensures in
    let m = only_memory (codes "/l/" ++ 256 ∷ codes "/month/" ++ 256 ∷ []) (with_route (codes "/l/{list}/m/{key}") Message (with_route (codes "/") Lists [])) _ refl e.1 in
    carried _ _ c.from_residual-in_err-insert-3.ensures.1 m

pub returns-in_err-insert-4-clause-memory : goal.returns-in_err-insert-4-clause-memory
unfolding matchit_on_literals
returns-in_err-insert-4-clause-memory c =
    let e = rw (c.in_ok-insert-3.ensures.1, c.in_ok-insert-2.ensures.1, c.in_ok-insert.ensures.1, c.new-router.ensures) at c.in_err-insert-4.ensures in
    let m = only_memory (codes "/l/" ++ 256 ∷ codes "/threads") (with_route (codes "/l/{list}/month/{month}") Month
    (with_route (codes "/l/{list}/m/{key}") Message (with_route (codes "/") Lists []))) _ refl e.1 in
    carried _ _ c.from_residual-in_err-insert-4.ensures.1 m

pub returns-in_err-insert-5-clause-memory : goal.returns-in_err-insert-5-clause-memory
unfolding matchit_on_literals
returns-in_err-insert-5-clause-memory c =
    let e = rw (c.in_ok-insert-4.ensures.1, c.in_ok-insert-3.ensures.1, c.in_ok-insert-2.ensures.1, c.in_ok-insert.ensures.1, c.new-router.ensures) at c.in_err-insert-5.ensures in
    let m = only_memory (codes "/l/" ++ 256 ∷ codes "/t/" ++ 256 ∷ []) (with_route (codes "/l/{list}/threads") Threads
    (with_route (codes "/l/{list}/month/{month}") Month (with_route (codes "/l/{list}/m/{key}") Message (with_route (codes "/") Lists [])))) _ refl e.1 in
    carried _ _ c.from_residual-in_err-insert-5.ensures.1 m

pub returns-in_err-insert-6-clause-memory : goal.returns-in_err-insert-6-clause-memory
unfolding matchit_on_literals
returns-in_err-insert-6-clause-memory c =
    let e = rw (c.in_ok-insert-5.ensures.1, c.in_ok-insert-4.ensures.1, c.in_ok-insert-3.ensures.1, c.in_ok-insert-2.ensures.1, c.in_ok-insert.ensures.1, c.new-router.ensures)
    at c.in_err-insert-6.ensures in
    let m = only_memory (codes "/l/" ++ 256 ∷ codes "/by/" ++ 256 ∷ []) (with_route (codes "/l/{list}/t/{key}") Thread
    (with_route (codes "/l/{list}/threads") Threads (with_route (codes "/l/{list}/month/{month}") Month
    (with_route (codes "/l/{list}/m/{key}") Message (with_route (codes "/") Lists []))))) _ refl e.1 in
    carried _ _ c.from_residual-in_err-insert-6.ensures.1 m

pub returns-in_err-insert-7-clause-memory : goal.returns-in_err-insert-7-clause-memory
unfolding matchit_on_literals
returns-in_err-insert-7-clause-memory c =
    let e = rw (
      c.in_ok-insert-6.ensures.1,
      c.in_ok-insert-5.ensures.1,
      c.in_ok-insert-4.ensures.1,
      c.in_ok-insert-3.ensures.1,
      c.in_ok-insert-2.ensures.1,
      c.in_ok-insert.ensures.1,
      c.new-router.ensures,
    ) at c.in_err-insert-7.ensures in
    let m = only_memory (codes "/l/" ++ 256 ∷ codes "/mbox") (with_route (codes "/l/{list}/by/{author}") Author
    (with_route (codes "/l/{list}/t/{key}") Thread (with_route (codes "/l/{list}/threads") Threads
    (with_route (codes "/l/{list}/month/{month}") Month (with_route (codes "/l/{list}/m/{key}") Message (with_route (codes "/") Lists [])))))) _ refl e.1 in
    carried _ _ c.from_residual-in_err-insert-7.ensures.1 m

pub returns-clause-rows : goal.returns-clause-rows
unfolding matchit_on_literals route_table
returns-clause-rows c =
    rw (
      c.in_ok-insert-7.ensures.1,
      c.in_ok-insert-6.ensures.1,
      c.in_ok-insert-5.ensures.1,
      c.in_ok-insert-4.ensures.1,
      c.in_ok-insert-3.ensures.1,
      c.in_ok-insert-2.ensures.1,
      c.in_ok-insert.ensures.1,
      c.new-router.ensures,
    ) refl
