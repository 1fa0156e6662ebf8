use Rattle.std.proofs.Common.{◌≡◌, ◌++◌, map}
use Rattle.luvazhimba_c.specs.Entries.{entry_of_item}
use Rattle.luvazhimba_c.proofs.entries.entries_of_items.Given as goal

abbrev pub invariant-loop-item : goal.invariant-loop-item
invariant-loop-item l = map entry_of_item l.fn.messages ≡ l.entries.items ++ map entry_of_item l.item-iterator
