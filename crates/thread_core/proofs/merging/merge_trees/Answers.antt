use Rattle.std.proofs.Common.{◌≡◌, ℕ, ap, ◌∙◌, ◌++◌, List, map, flat_map}
use Rattle.thread_core.specs.Merge.{thread_subject, distinct_subjects, trees_without_subject}
use Rattle.thread_core.specs.Parts.{merged_group_of_message}
use Rattle.thread_core.specs.declared.tree.Tree.{Tree}
use Rattle.thread_core.proofs.MergeLemmas.{all_gathered_trees, all_gathered_links}
use Rattle.thread_core.proofs.merging.merge_trees.Goals as goal

pub returns-clause-trees : goal.returns-clause-trees
returns-clause-trees c =
    let leaders = c.in_ok-leaders.ensures ∙ ap (λ (ts : List Tree). distinct_subjects (map (thread_subject c.args.entries.now) ts)) c.deref.ensures.value in
    let groups : c.in_ok-merged.merged.trees.items ≡ flat_map (λ (leader : ℕ). (merged_group_of_message c.args.entries.now c.args.trees.items leader).trees) c.in_ok-leaders.leaders.items
    = c.in_ok-merged.ensures.trees ∙ (λ i. flat_map (λ (leader : ℕ). (merged_group_of_message c.args.entries.now (c.deref-2.ensures.value i) leader).trees) (c.deref-3.ensures.value i)) in
    c.in_ok-keep_without_subject.ensures
    ∙ ap (λ (ts : List Tree). trees_without_subject c.args.entries.now c.args.trees.items ++ ts)
    (groups ∙ all_gathered_trees c.args.entries.now c.args.trees.items c.in_ok-leaders.leaders.items leaders)

pub returns-clause-links : goal.returns-clause-links
returns-clause-links c =
    let leaders = c.in_ok-leaders.ensures ∙ ap (λ (ts : List Tree). distinct_subjects (map (thread_subject c.args.entries.now) ts)) c.deref.ensures.value in
    let groups : c.in_ok-merged.merged.links.items ≡ flat_map (λ (leader : ℕ). (merged_group_of_message c.args.entries.now c.args.trees.items leader).links) c.in_ok-leaders.leaders.items
    = c.in_ok-merged.ensures.links ∙ (λ i. flat_map (λ (leader : ℕ). (merged_group_of_message c.args.entries.now (c.deref-2.ensures.value i) leader).links) (c.deref-3.ensures.value i)) in
    groups ∙ all_gathered_links c.args.entries.now c.args.trees.items c.in_ok-leaders.leaders.items leaders
