use Rattle.std.proofs.Common.{map, filter, take}
use Rattle.archive_memory.specs.Entries.{indexed_in, message_in}
use Rattle.archive_memory.specs.Selecting.{ShowMessages, is_selected}
use Rattle.archive_memory.proofs.selecting.find_places.Given as goal

abbrev pub invariant-loop-place : goal.invariant-loop-place
invariant-loop-place l = ShowMessages (map message_in l.messages) l.places.items (filter (is_selected l.list l.which) (map indexed_in (take l.place l.messages)))
