use Rattle.std.proofs.Common.{◌≡◌, ◌+◌, ℕ, Option, Some, cond, is_none, map, rules, refl, sym, ap, ◌∙◌}
use Rattle.std.specs.HashMap.{get_by}
use Rattle.std.specs.Option.{unwrap_or}
use Rattle.mail_core.specs.MsgIds.{MessageId}
use Rattle.thread_links.specs.Containers.{same_id}
use Rattle.thread_links.proofs.IdLemmas.{noted_more, numbered_more}
use Rattle.thread_links.proofs.ids.Ids.note.Goals as goal

pub returns-in_ok-push-in-Some-clause-containers : goal.returns-in_ok-push-in-Some-clause-containers
returns-in_ok-push-in-Some-clause-containers c entries refs noted =
    noted_more entries refs c.args.id (is_none (get_by (same_id c.args.id) c.args.self.now.numbers)) c.args.self.now.count c.args.self.now.count
    (λ (other : MessageId). get_by (same_id other) c.args.self.now.numbers) _ noted refl c.in_ok-number.ensures.numbers
    (ap (λ (h : Option ℕ). cond (is_none h) (c.args.self.now.count + 1) c.args.self.now.count) (sym c.in-Some.is ∙ c.in_ok-number.ensures.had))

pub returns-in_ok-push-in-Some-clause-references : goal.returns-in_ok-push-in-Some-clause-references
returns-in_ok-push-in-Some-clause-references c refs noted =
    numbered_more (λ (other : MessageId). get_by (same_id other) c.args.self.now.numbers) _ c.args.id c.in-Some.number c.args.self.now.count refs c.args.self.now.refs.items
    (ap (λ (h : Option ℕ). unwrap_or h c.args.self.now.count) (sym c.in-Some.is ∙ c.in_ok-number.ensures.had)) c.in_ok-number.ensures.numbers noted
    ∙ ap (map (λ (n : ℕ). Some n)) (sym c.in_ok-push-in-Some.ensures.items)

pub returns-in_ok-push-in-None-clause-containers : goal.returns-in_ok-push-in-None-clause-containers
returns-in_ok-push-in-None-clause-containers c entries refs noted =
    let up : c.in_ok-next.next ≡ c.args.self.now.count + 1 = search rules in
    noted_more entries refs c.args.id (is_none (get_by (same_id c.args.id) c.args.self.now.numbers)) c.args.self.now.count c.in_ok-next.next
    (λ (other : MessageId). get_by (same_id other) c.args.self.now.numbers) _ noted refl c.in_ok-number.ensures.numbers
    (up ∙ ap (λ (h : Option ℕ). cond (is_none h) (c.args.self.now.count + 1) c.args.self.now.count) (sym c.in-None.is ∙ c.in_ok-number.ensures.had))

pub returns-in_ok-push-in-None-clause-references : goal.returns-in_ok-push-in-None-clause-references
returns-in_ok-push-in-None-clause-references c refs noted =
    numbered_more (λ (other : MessageId). get_by (same_id other) c.args.self.now.numbers) _ c.args.id c.args.self.now.count c.args.self.now.count refs c.args.self.now.refs.items
    (ap (λ (h : Option ℕ). unwrap_or h c.args.self.now.count) (sym c.in-None.is ∙ c.in_ok-number.ensures.had)) c.in_ok-number.ensures.numbers noted
    ∙ ap (map (λ (n : ℕ). Some n)) (sym c.in_ok-push-in-None.ensures.items)
