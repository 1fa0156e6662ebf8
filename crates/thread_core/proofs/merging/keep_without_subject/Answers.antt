use Rattle.std.proofs.Common.{◌≡◌, ap, sym, ◌∙◌, ◌++◌, List, [], rules, bytes_eq}
use Rattle.std.proofs.lemmas.Fn.{filter_same}
use Rattle.std.proofs.lemmas.Iterator.Adapters.{fact_from_extend, YieldsList-from_vec}
use mathlib.Core.List.{map-id}
use Rattle.thread_core.specs.Merge.{thread_subject}
use Rattle.thread_core.specs.declared.tree.Tree.{Tree}
use Rattle.thread_core.proofs.merging.keep_without_subject.Goals as goal

pub returns : goal.returns
returns c =
    let kept = filter_same _ (λ (tree : Tree). bytes_eq [] (thread_subject c.args.entries.now tree)) _ (λ x b q r. search rules) _ _ c.retain.ensures.filtered in
    let all = fact_from_extend (λ x. x) c.extend.result c.extend.ensures.ran (λ it b. YieldsList-from_vec {s = it} _ b.0 (b.1 ∙ c.args.merged.ok.0))
    (λ xs e h. h.0 ∙ ap (λ (ts : List Tree). c.retain.new.self.items ++ ts) (sym (map-id xs) ∙ e)) in
    let got : c.extend.new.self.items ≡ c.retain.new.self.items ++ c.args.merged.items = rw c.in_ok-extend.was at all in
    got ∙ ap (λ (ts : List Tree). ts ++ c.args.merged.items) kept
