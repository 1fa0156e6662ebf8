use Rattle.std.proofs.Common.{ℕ, not, rules, ap, ◌∙◌}
use Rattle.std.proofs.lemmas.Fn.{filter_same}
use Rattle.thread_core.specs.Merge.{has_reply_subject, non_replies}
use Rattle.thread_core.proofs.merging.find_plain.Goals as goal

pub returns : goal.returns
returns c =
    filter_same _ (λ (place : ℕ). not (has_reply_subject c.args.entries.now place)) _ (λ x b q r. search rules) _ _ c.retain.ensures.filtered
    ∙ ap (non_replies c.args.entries.now) c.in_ok-plain.ensures.items
