use Rattle.std.proofs.Common.{◌≡◌, ℕ, [], take, get_or, flat_map}
use Rattle.thread_core.specs.Merge.{merged_group}
use Rattle.thread_core.specs.Subjects.{trees_at_numbers}
use Rattle.thread_core.proofs.subjects.merge_listed.Given as goal

-- what became of the groups so far
abbrev pub invariant-loop-leader : goal.invariant-loop-leader
invariant-loop-leader l = record {
  trees : l.merged.trees.items ≡ flat_map (λ (leader : ℕ). (merged_group l.entries (trees_at_numbers l.trees (get_or l.lists leader []))).trees) (take l.leader-index l.leaders);
  links : l.merged.links.items ≡ flat_map (λ (leader : ℕ). (merged_group l.entries (trees_at_numbers l.trees (get_or l.lists leader []))).links) (take l.leader-index l.leaders);
}
