use Rattle.std.proofs.Common.{◌≡◌, take, map, bytes_eq}
use Rattle.std.specs.HashMap.{get_by}
use Rattle.thread_core.specs.Forest.{tree_key_place}
use Rattle.thread_core.specs.Subjects.{leader_of_message}
use Rattle.thread_core.specs.declared.tree.Tree.{Tree}
use Rattle.thread_core.proofs.subjects.Leaders.leads.Given as goal

-- the leads of the trees so far
abbrev pub invariant-loop-tree : goal.invariant-loop-tree
invariant-loop-tree l = l.leads.items ≡ map (λ (tree : Tree). leader_of_message l.entries (λ other. get_by (bytes_eq other) l.self.table) (tree_key_place l.entries tree)) (take l.tree-index l.trees)
