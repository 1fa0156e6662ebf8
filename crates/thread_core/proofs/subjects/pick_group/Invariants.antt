use Rattle.std.proofs.Common.{◌≡◌, take, flat_map}
use Rattle.std.specs.List.{list_any}
use Rattle.thread_core.specs.Merge.{is_dummy_tree, messages_of_tree}
use Rattle.thread_core.specs.Subjects.{trees_at_numbers}
use Rattle.thread_core.proofs.subjects.pick_group.Given as goal

-- the trees of the numbers so far
abbrev pub invariant-loop-number : goal.invariant-loop-number
invariant-loop-number l = record {
  dummy : l.group.dummy ≡ list_any is_dummy_tree (trees_at_numbers l.trees (take l.number-index l.numbers));
  messages : l.group.messages.items ≡ flat_map messages_of_tree (trees_at_numbers l.trees (take l.number-index l.numbers));
}
