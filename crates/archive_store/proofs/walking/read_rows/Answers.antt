use Rattle.std.proofs.Common.{rules, ◌∙◌, subst, arith}
use Rattle.archive_model.specs.Messages.{archived_message}
use Rattle.archive_tables.proofs.RunLemmas.{on_fault}
use Rattle.archive_store.specs.Walking.{WalksOver, walk_over_store}
use Rattle.archive_store.proofs.WalkingLemmas.{given_more}
use Rattle.archive_tables.proofs.LastLemmas.{lasts_then}
use Rattle.archive_store.proofs.FindLemmas.{passed_on, stops_later}
use Rattle.sqlite.specs.Held.{state}
use Rattle.archive_port.specs.Wanting.{IsMemoryRefusal}
use Rattle.archive_port.proofs.WantLemmas.{raises_after, raises_on}
use Rattle.archive_store.proofs.walking.read_rows.Goals as goal

pub returns-in_err-message-clause-given : goal.returns-in_err-message-clause-given
returns-in_err-message-clause-given g c = λ returned list all a given w.
    let so_far = c.loop-found.invariant.1 (c.next.ensures.ends.remains_open.disk_was_clean returned) list all a given w in
    let rest = c.in_err-message.ensures.given returned list all a _ so_far in
    on_fault _ _ c.from_residual.result c.from_residual.ensures.1 (λ up. let w = rest up in (w.is_archive_at_rest, w.archive_is))

pub loop-found-preserved : goal.loop-found-preserved
loop-found-preserved g c = (
  (λ returned. c.loop-found.invariant.0 (c.next.ensures.ends.remains_open.disk_was_clean returned)),
  (λ returned list all a given w.
      let so_far = c.loop-found.invariant.1 (c.next.ensures.ends.remains_open.disk_was_clean returned) list all a given w in
      let more = rw c.in-Some.is at (c.in_ok-message.ensures.given returned list all a _ so_far) in
      subst (λ so. WalksOver g.S.Store list all a so (walk_over_store c.next.new.store c.next.new.self))
      (given_more (archived_message list) given c.loop-found.found.items c.push.new.self.items c.in-Some.message c.in-Ok-push.ensures.items) more),
  lasts_then _ _ _ c.loop-found.invariant.2 c.next.ensures.ends.remains_open,
  omega (arith, c.loop-found.invariant.3, c.in_ok-message.ensures.ends.refusals_counted.0),
  (λ db may. c.loop-found.invariant.4 db (c.next.ensures.writes_nothing db may)),
)

pub returns-in-Err-push-clause-given : goal.returns-in-Err-push-clause-given
returns-in-Err-push-clause-given g c = λ returned list all a given w up.
    let so_far = c.loop-found.invariant.1 (c.next.ensures.ends.remains_open.disk_was_clean returned) list all a given w in
    let more = rw c.in-Some.is at (c.in_ok-message.ensures.given returned list all a _ so_far) in
    (more.is_archive_at_rest, more.archive_is)

pub returns-clause-given : goal.returns-clause-given
returns-clause-given g c = λ returned list all a given w.
    let so_far = c.loop-found.invariant.1 (c.next.ensures.ends.remains_open.disk_was_clean returned) list all a given w in
    rw c.in_default.is at (c.in_ok-message.ensures.given returned list all a _ so_far)

pub returns-in_err-message-clause-ends : goal.returns-in_err-message-clause-ends
returns-in_err-message-clause-ends g c = record {
  remains_open = lasts_then _ _ _ c.loop-found.invariant.2 c.next.ensures.ends.remains_open;
  fault_is_no_refusal = search rules;
  refusals_counted = raises_after IsMemoryRefusal _ _ _ c.from_residual.result c.loop-found.invariant.3
      (raises_on (Unit {0}) _ _ c.from_residual.result c.in_err-message.field-0.0 c.from_residual.ensures.1 c.in_err-message.ensures.ends.refusals_counted);
}

pub returns-in-Err-push-clause-ends : goal.returns-in-Err-push-clause-ends
returns-in-Err-push-clause-ends g c = record {
  remains_open = lasts_then _ _ _ c.loop-found.invariant.2 c.next.ensures.ends.remains_open;
  fault_is_no_refusal = search rules;
  refusals_counted = let raised = c.refuse-in-Err-push.ensures.raised in
      let grows = c.in_ok-message.ensures.ends.refusals_counted.0 in
      (omega (arith, c.loop-found.invariant.3, grows, raised), (λ it. omega (arith, c.loop-found.invariant.3, grows, raised)));
}

pub returns-clause-ends : goal.returns-clause-ends
returns-clause-ends g c = record {
  remains_open = lasts_then _ _ _ c.loop-found.invariant.2 c.next.ensures.ends.remains_open;
  fault_is_no_refusal = search rules;
  refusals_counted = (omega (arith, c.loop-found.invariant.3, c.in_ok-message.ensures.ends.refusals_counted.0), tt);
}

pub returns-in_err-message-clause-caused : goal.returns-in_err-message-clause-caused
returns-in_err-message-clause-caused g c = λ returned list all a given w free.
    let so_far = c.loop-found.invariant.1 (c.next.ensures.ends.remains_open.disk_was_clean returned) list all a given w in
    passed_on c.from_residual.result c.in_err-message.field-0.0 _ c.from_residual.ensures.1
    (λ it. stops_later (state g.S.Store c.args.store.now.conn) (state g.S.Store c.loop-found.store.conn) (state g.S.Store c.next.new.store.conn) _ all c.loop-found.invariant.2
    (c.in_err-message.ensures.caused returned list all a _ so_far (c.loop-found.invariant.2.step_limit_is_same ∙ free) it))
