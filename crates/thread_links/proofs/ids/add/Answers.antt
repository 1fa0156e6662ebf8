use Rattle.std.proofs.Common.{rules, ℕ, Option, ap, ◌∙◌}
use Rattle.std.specs.HashMap.{get_by}
use Rattle.std.specs.Option.{unwrap_or}
use Rattle.mail_core.specs.MsgIds.{MessageId}
use Rattle.thread_links.specs.Containers.{same_id}
use Rattle.thread_links.proofs.IdLemmas.{id_put}
use Rattle.thread_links.proofs.ids.add.Goals as goal

pub returns-then-len-before-clause-numbers : goal.returns-then-len-before-clause-numbers
returns-then-len-before-clause-numbers c =
    id_put (λ (o : MessageId). get_by (same_id o) c.args.numbers.now) _ c.args.id c.or_insert-held.result.now c.args.number
    (c.or_insert-held.ensures.value ∙ ap (λ (h : Option ℕ). unwrap_or h c.args.number) c.in_ok-numbers.ensures.value)
    (λ o. let now = (c.in_ok-numbers.ensures.update.0 c.or_insert-held.result.now).0 o in search rules)

pub returns-clause-numbers : goal.returns-clause-numbers
returns-clause-numbers c =
    id_put (λ (o : MessageId). get_by (same_id o) c.args.numbers.now) _ c.args.id c.or_insert-held.result.now c.args.number
    (c.or_insert-held.ensures.value ∙ ap (λ (h : Option ℕ). unwrap_or h c.args.number) c.in_ok-numbers.ensures.value)
    (λ o. let now = (c.in_ok-numbers.ensures.update.0 c.or_insert-held.result.now).0 o in search rules)
