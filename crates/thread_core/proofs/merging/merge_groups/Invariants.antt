use Rattle.std.proofs.Common.{◌≡◌, ℕ, take, flat_map}
use Rattle.thread_core.specs.Parts.{merged_group_of_message}
use Rattle.thread_core.proofs.merging.merge_groups.Given as goal

-- what became of the groups so far
abbrev pub invariant-loop-leader : goal.invariant-loop-leader
invariant-loop-leader l = record {
  trees : l.merged.trees.items ≡ flat_map (λ (leader : ℕ). (merged_group_of_message l.entries l.trees leader).trees) (take l.leader-index l.leaders);
  links : l.merged.links.items ≡ flat_map (λ (leader : ℕ). (merged_group_of_message l.entries l.trees leader).links) (take l.leader-index l.leaders);
}
