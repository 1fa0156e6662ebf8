use Rattle.std.proofs.Common.{◌≡◌, ◌++◌, map, take, drop}
use Rattle.archive_model.specs.Machine.{change_at_key, with_embargo}
use Rattle.archive_memory.specs.Entries.{columns_in, message_in}
use Rattle.archive_memory.proofs.changing.set_embargo.Given as goal

abbrev pub invariant-loop-entry : goal.invariant-loop-entry
invariant-loop-entry l =
    (map columns_in l.entry-items ≡ map columns_in l.fn.messages.items)
    × (map message_in l.entry-items ≡ map (change_at_key l.list l.key (with_embargo l.until)) (take l.entry-index (map message_in l.fn.messages.items))
    ++ drop l.entry-index (map message_in l.fn.messages.items))
