use Rattle.std.proofs.Common.{take, map, bytes_eq}
use Rattle.std.specs.HashMap.{get_by}
use Rattle.thread_core.specs.Merge.{thread_subject}
use Rattle.thread_core.specs.Subjects.{AreSubjectLeaders}
use Rattle.thread_core.proofs.subjects.Leaders.new.Given as goal

-- the first messages of the subjects so far
abbrev pub invariant-loop-tree : goal.invariant-loop-tree
invariant-loop-tree l = AreSubjectLeaders l.entries (map (thread_subject l.entries) (take l.tree-index l.trees)) l.all.places.items (λ other. get_by (bytes_eq other) l.all.table)
