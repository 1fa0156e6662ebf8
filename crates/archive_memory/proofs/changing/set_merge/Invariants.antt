use Rattle.std.proofs.Common.{◌≡◌, ◌++◌, map, take, drop}
use Rattle.archive_model.specs.Machine.{with_merge_setting}
use Rattle.archive_memory.specs.Entries.{list_name, list_option}
use Rattle.archive_memory.proofs.changing.set_merge.Given as goal

abbrev pub invariant-loop-entry : goal.invariant-loop-entry
invariant-loop-entry l =
    (map list_name l.entry-items ≡ map list_name l.fn.lists.items)
    × (map list_option l.entry-items ≡ map (with_merge_setting l.list l.merge) (take l.entry-index (map list_option l.fn.lists.items)) ++ drop l.entry-index (map list_option l.fn.lists.items))
