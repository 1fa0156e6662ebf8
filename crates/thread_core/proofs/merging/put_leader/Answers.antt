use Rattle.std.proofs.Common.{ℕ, not, rules, ◌≢◌, ◌≡◌, length, bytes_eq, ap}
use Rattle.std.proofs.lemmas.Fn.{filter_same}
use Rattle.thread_core.specs.Merge.{base_subject_at}
use Rattle.thread_core.proofs.MergeLemmas.{leader_put}
use Rattle.thread_core.proofs.merging.put_leader.Goals as goal

pub returns : goal.returns
returns c =
    let kept = filter_same _ (λ (o : ℕ). not (bytes_eq (base_subject_at c.args.entries.now c.args.place) (base_subject_at c.args.entries.now o))) _ (λ x b q r. search rules) _ _
    c.retain.ensures.filtered in
    let is : length c.base_at.result.now ≡ length (base_subject_at c.args.entries.now c.args.place) = ap length c.base_at.ensures in
    let some : length (base_subject_at c.args.entries.now c.args.place) ≢ 0 = search (rules, is) in
    leader_put c.args.entries.now c.args.place _ _ _ some kept c.in_ok-insert.ensures.items
