use Rattle.std.proofs.Common.{◌≡◌, map, take}
use Rattle.std.specs.Prelude.{string_bytes}
use Rattle.archive_memory.specs.Entries.{list_name}
use Rattle.archive_memory.proofs.asking.names_of.Given as goal

abbrev pub invariant-loop-list : goal.invariant-loop-list
invariant-loop-list l = map string_bytes l.names.items ≡ map list_name (take l.list-index l.lists)
