use Rattle.std.proofs.Common.{not, rules, ◌∷◌, ◌∙◌}
use Rattle.std.proofs.lemmas.Fn.{filter_same}
use Rattle.mail_core.specs.MsgIds.{MessageId}
use Rattle.thread_links.specs.Containers.{same_id}
use Rattle.thread_links.proofs.numbering.put_first.Goals as goal

pub returns : goal.returns
returns c =
    let kept = filter_same _ (λ (other : MessageId). not (same_id c.args.id.now other)) _ (λ x b q r. search rules) _ _ c.retain.ensures.filtered in
    c.in_ok-insert.ensures.items ∙ (λ i. c.in_ok-first.ensures i ∷ kept i)
