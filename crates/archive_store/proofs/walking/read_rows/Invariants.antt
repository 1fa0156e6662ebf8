use Rattle.std.proofs.Common.{◌≤◌, ◌++◌, ℕ, List, map}
use Rattle.archive_model.specs.Records.{Archive, Message as Remembered}
use Rattle.archive_model.specs.Messages.{archived_message}
use Rattle.archive_store.specs.Held.{memory_refusal_count}
use Rattle.archive_store.specs.Told.{StoreHasCleanDisk, StaysOpenUnlessDiskFails, WritesNothing}
use Rattle.archive_store.specs.Walking.{WalksOver, remaining_count, walk_over_store}
use Rattle.archive_store.proofs.walking.read_rows.Given as goal

abbrev pub invariant-loop-found : goal.invariant-loop-found
invariant-loop-found g l =
    (StoreHasCleanDisk g.S.Store l.store → StoreHasCleanDisk g.S.Store l.fn.store)
    × (StoreHasCleanDisk g.S.Store l.store → (list : List ℕ) (all : List Remembered) (a : Archive) (given : List Remembered)
    → WalksOver g.S.Store list all a given (walk_over_store l.fn.store l.fn.walk)
    → WalksOver g.S.Store list all a (given ++ map (archived_message list) l.found.items) (walk_over_store l.store l.walk))
    × StaysOpenUnlessDiskFails g.S.Store l.fn.store l.store × (memory_refusal_count l.fn.store ≤ memory_refusal_count l.store)
    × WritesNothing g.S.Store l.fn.store l.store

abbrev pub decreases-loop-found : goal.decreases-loop-found
decreases-loop-found g l = remaining_count l.walk
