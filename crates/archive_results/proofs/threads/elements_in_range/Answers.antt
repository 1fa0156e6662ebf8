use Rattle.std.proofs.Common.{◌∙◌, ◌-◌, ℕ, List, take, drop, ap, length, min}
use Rattle.std.proofs.lemmas.List.{take_min, drop_min}
use Rattle.archive_results.proofs.threads.elements_in_range.Goals as goal

pub returns : goal.returns
returns g c =
    let items = c.args.items.now in
    let rest = c.split_at.result.1.now in
    c.split_at-2.ensures.front ∙ ap (λ (n : ℕ). take n rest) (c.min-2.ensures ∙ ap (λ (n : ℕ). min n (length rest)) c.saturating_sub.ensures) ∙ take_min (c.args.end - c.args.first) rest
    ∙ ap (take (c.args.end - c.args.first)) (c.split_at.ensures.back ∙ ap (λ (n : ℕ). drop n items) c.min.ensures ∙ drop_min c.args.first items)
