use Rattle.std.proofs.Common.{◌≡◌, ◌++◌, map, take, drop}
use Rattle.archive_model.specs.Machine.{change_at_key, with_withdrawal}
use Rattle.archive_model.specs.Messages.{withdrawal_number}
use Rattle.archive_memory.specs.Entries.{columns_in, message_in}
use Rattle.archive_memory.proofs.changing.set_withdrawn.Given as goal

abbrev pub invariant-loop-entry : goal.invariant-loop-entry
invariant-loop-entry l =
    (map columns_in l.entry-items ≡ map columns_in l.fn.messages.items)
    × (map message_in l.entry-items ≡ map (change_at_key l.list l.key (with_withdrawal (withdrawal_number l.withdrawn))) (take l.entry-index (map message_in l.fn.messages.items))
    ++ drop l.entry-index (map message_in l.fn.messages.items))
