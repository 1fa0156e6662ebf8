use Rattle.std.proofs.Common.{◌≡◌, rules, sym, ◌∙◌, ap, Some, None, slice_get, cond}
use Rattle.std.proofs.lemmas.List.Sorted.{IsPartitionPoint-from_clause}
use Rattle.archive_cache.proofs.KeyLemmas.{before, found_past, found_there, parted}
use Rattle.archive_cache.proofs.keyed.find.Goals as goal

pub returns-in_err-place : goal.returns-in_err-place
returns-in_err-place c =
    let lines = c.args.lines.now in
    let order = c.args.order.now in
    let key = c.args.key.now in
    let point = IsPartitionPoint-from_clause (before lines order c.requires key) order c.partition_point-at.result c.partition_point-at.ensures.partitioned
    (parted lines order c.requires key) (λ a r q k. search rules) in
    let past : slice_get order c.partition_point-at.result ≡ None = search rules in
    let nothing : c.from_residual.result ≡ None = search rules in
    nothing ∙ sym (found_past lines order c.requires key c.partition_point-at.result point past)

pub returns-then-has_key : goal.returns-then-has_key
returns-then-has_key c =
    let lines = c.args.lines.now in
    let order = c.args.order.now in
    let key = c.args.key.now in
    let place = c.in_ok-place.place in
    let point = IsPartitionPoint-from_clause (before lines order c.requires key) order c.partition_point-at.result c.partition_point-at.ensures.partitioned
    (parted lines order c.requires key) (λ a r q k. search rules) in
    let there : slice_get order c.partition_point-at.result ≡ Some place = search rules in
    ap (λ t. cond t (Some place) None) (sym c.if-has_key.true)
    ∙ sym (found_there lines order c.requires key c.partition_point-at.result point place c.has_key.result there c.has_key.ensures)

pub returns-else-has_key : goal.returns-else-has_key
returns-else-has_key c =
    let lines = c.args.lines.now in
    let order = c.args.order.now in
    let key = c.args.key.now in
    let place = c.in_ok-place.place in
    let point = IsPartitionPoint-from_clause (before lines order c.requires key) order c.partition_point-at.result c.partition_point-at.ensures.partitioned
    (parted lines order c.requires key) (λ a r q k. search rules) in
    let there : slice_get order c.partition_point-at.result ≡ Some place = search rules in
    ap (λ t. cond t (Some place) None) (sym c.if-has_key.false)
    ∙ sym (found_there lines order c.requires key c.partition_point-at.result point place c.has_key.result there c.has_key.ensures)
