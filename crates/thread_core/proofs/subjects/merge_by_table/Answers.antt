use Rattle.std.proofs.Common.{ap, ◌∙◌, ◌++◌, List}
use Rattle.thread_core.specs.Merge.{MergedThreads, trees_without_subject}
use Rattle.thread_core.specs.declared.tree.Tree.{Tree}
use Rattle.thread_core.proofs.SubjectLemmas.{all_listed}
use Rattle.thread_core.proofs.subjects.merge_by_table.Goals as goal

pub returns-clause-trees : goal.returns-clause-trees
returns-clause-trees c =
    c.in_ok-keep_without_subject.ensures
    ∙ ap (λ (ts : List Tree). trees_without_subject c.args.entries.now c.args.trees.items ++ ts)
    (all_listed (λ (m : MergedThreads). m.trees) c.args.entries.now c.args.trees.items _ _ _ _ _ _ _ _ _ _ _ c.deref.ensures.value c.in_ok-leaders.ensures
    c.deref-2.ensures.value c.in_ok-leads.ensures c.deref-3.ensures.value
    c.in_ok-lists.ensures c.deref-4.ensures.value c.deref-5.ensures.value c.deref-6.ensures.value c.in_ok-merged.ensures.trees)

pub returns-clause-links : goal.returns-clause-links
returns-clause-links c =
    all_listed (λ (m : MergedThreads). m.links) c.args.entries.now c.args.trees.items _ _ _ _ _ _ _ _ _ _ _ c.deref.ensures.value c.in_ok-leaders.ensures
    c.deref-2.ensures.value c.in_ok-leads.ensures c.deref-3.ensures.value
    c.in_ok-lists.ensures c.deref-4.ensures.value c.deref-5.ensures.value c.deref-6.ensures.value c.in_ok-merged.ensures.links
