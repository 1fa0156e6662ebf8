use Rattle.std.proofs.Common.{ap, ◌∙◌}
use Rattle.thread_core.specs.Forest.{tree_key_place}
use Rattle.thread_core.proofs.SubjectLemmas.{tree_noted}
use Rattle.thread_core.proofs.subjects.Leaders.new.Goals as goal

pub loop-tree-preserved : goal.loop-tree-preserved
loop-tree-preserved c =
    tree_noted c.args.entries.now c.args.trees.now c.loop-tree.tree-index c.tree-item.result c.date_key_of.result _ _ c.loop-tree-test.true
    (c.date_key_of.ensures ∙ ap (tree_key_place c.args.entries.now) c.tree-item.is)
    (c.in_ok-note.ensures _ c.loop-tree.invariant)
