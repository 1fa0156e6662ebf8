use Rattle.std.proofs.Common.{◌≡◌, ◌≤◌, drop, length, map}
use Rattle.thread_core.specs.Merge.{base_subject_at, thread_subject, distinct_subjects}
use Rattle.thread_core.proofs.merging.find_leaders.Given as goal

-- the subjects of the trees from here on
abbrev pub invariant-loop-left : goal.invariant-loop-left
invariant-loop-left l = record {
  within : l.left ≤ length l.trees;
  leaders : map (base_subject_at l.entries) l.leaders.items ≡ distinct_subjects (map (thread_subject l.entries) (drop l.left l.trees));
}

abbrev pub decreases-loop-left : goal.decreases-loop-left
decreases-loop-left l = l.left
