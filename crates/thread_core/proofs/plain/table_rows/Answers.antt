use Rattle.std.proofs.Common.{◌≡◌, ap, subst, ◌∙◌, flat_map, length, List}
use Rattle.std.specs.Result.{IfOk}
use Rattle.thread_core.specs.Forest.{top_trees, trees_by_date}
use Rattle.thread_core.specs.Merge.{merged_if_enabled}
use Rattle.thread_core.specs.Parts.{parent_list_containers, containers_of_parents, ParentList}
use Rattle.thread_core.specs.Threads.{sorted_children, rows_of_tree, rows_of_containers}
use Rattle.thread_core.specs.declared.row.Row.{Row}
use Rattle.thread_core.specs.declared.tree.Tree.{Tree}
use Rattle.thread_core.proofs.plain.table_rows.Goals as goal

pub returns : goal.returns
returns c =
    let family = c.in_ok-all.ensures in
    let ordered : c.in_ok-ordered.ordered.items ≡ trees_by_date c.args.entries.now (top_trees (containers_of_parents c.args.parents.items (length c.args.entries.now)))
    = c.in_ok-ordered.ensures ∙ ap (trees_by_date c.args.entries.now) (c.in_ok-tops.ensures ∙ ap (λ (f : ParentList). top_trees (parent_list_containers f)) family) in
    let links = c.in_ok-taken.ensures ∙ c.in_ok-merged.ensures.links ∙ ap (λ (ts : List Tree). (merged_if_enabled c.args.entries.now c.args.merge ts).links) ordered in
    let trees = c.deref.ensures.value ∙ c.in_ok-trees.ensures
    ∙ ap (trees_by_date c.args.entries.now) (c.in_ok-merged.ensures.trees ∙ ap (λ (ts : List Tree). (merged_if_enabled c.args.entries.now c.args.merge ts).trees) ordered) in
    let all : flat_map (rows_of_tree c.args.entries.now (sorted_children c.args.entries.now (parent_list_containers c.in_ok-all.all) c.in_ok-taken.taken)) c.deref.result.now
    ≡ rows_of_containers c.args.entries.now c.args.merge (containers_of_parents c.args.parents.items (length c.args.entries.now))
    = λ i. flat_map (rows_of_tree c.args.entries.now (sorted_children c.args.entries.now (parent_list_containers (family i)) (links i))) (trees i) in
    subst (λ (rs : List Row). IfOk c.tree_rows.result (λ rows. rows.items ≡ rs)) all c.tree_rows.ensures
