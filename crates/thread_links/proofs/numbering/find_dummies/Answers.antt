use Rattle.std.proofs.Common.{◌≡◌, ℕ, List, rules, arith, ap, ◌∙◌, drop, filter}
use Rattle.std.proofs.lemmas.Fn.{filter_same}
use Rattle.mail_core.specs.MsgIds.{MessageId}
use Rattle.thread_links.specs.Containers.{distinct_ids, referenced_ids, is_dummy, owner}
use Rattle.thread_links.proofs.numbering.find_dummies.Goals as goal

pub returns : goal.returns
returns c =
    let kept = filter_same _ (λ (id : MessageId). is_dummy (owner c.args.entries.now id)) _ (λ x b q r. search rules) _ _ c.retain.ensures.filtered in
    let all : c.loop-left.left ≡ 0 = omega (arith, c.loop-left-test.false) in
    kept ∙ ap (λ (ids : List MessageId). filter (λ id. is_dummy (owner c.args.entries.now id)) ids)
    (c.loop-left.invariant.put ∙ ap (λ (k : ℕ). distinct_ids (referenced_ids (drop k c.args.entries.now))) all)
