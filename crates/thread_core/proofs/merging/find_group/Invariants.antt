use Rattle.std.proofs.Common.{◌≡◌, take, flat_map}
use Rattle.std.specs.List.{list_any}
use Rattle.thread_core.specs.Merge.{base_subject_at, trees_with_subject, is_dummy_tree, messages_of_tree}
use Rattle.thread_core.proofs.merging.find_group.Given as goal

-- the group among the trees so far
abbrev pub invariant-loop-tree : goal.invariant-loop-tree
invariant-loop-tree l = record {
  dummy : l.dummy ≡ list_any is_dummy_tree (trees_with_subject l.entries (take l.tree-index l.trees) (base_subject_at l.entries l.leader));
  messages : l.messages.items ≡ flat_map messages_of_tree (trees_with_subject l.entries (take l.tree-index l.trees) (base_subject_at l.entries l.leader));
}
