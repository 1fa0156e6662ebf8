use Rattle.std.proofs.Common.{List, take, take_all, ap, subst}
use Rattle.std.specs.HashMap.{get_by}
use Rattle.mail_core.specs.MsgIds.{MessageId}
use Rattle.thread_links.specs.Containers.{same_id, referenced_ids}
use Rattle.thread_links.specs.Ids.{AreNumbered, NumbersContainers}
use Rattle.thread_links.specs.declared.entry.Entry.{Entry}
use Rattle.thread_links.proofs.IdLemmas.{entry_noted, numbered_entry, numbers_found}
use Rattle.thread_links.proofs.NumberLemmas.{numbered_mentioned}
use Rattle.thread_links.proofs.ids.Ids.new.Goals as goal

pub loop-entry-preserved : goal.loop-entry-preserved
loop-entry-preserved c = record {
  containers =
      entry_noted c.args.entries.now c.loop-entry.entry-index c.entry-item.result c.entry-item.result.refs _ _ c.loop-entry-test.true (ap (λ (entry : Entry). entry.refs) c.entry-item.is)
      (c.in_ok-note_all.ensures.containers c.args.entries.now (referenced_ids (take c.loop-entry.entry-index c.args.entries.now)) c.loop-entry.invariant.containers);
  references =
      numbered_entry c.args.entries.now c.loop-entry.entry-index c.entry-item.result c.entry-item.result.refs _ _ c.loop-entry-test.true (ap (λ (entry : Entry). entry.refs) c.entry-item.is)
      (c.in_ok-note_all.ensures.references (referenced_ids (take c.loop-entry.entry-index c.args.entries.now)) c.loop-entry.invariant.references);
}

pub returns-clause-containers : goal.returns-clause-containers
returns-clause-containers c =
    subst (λ (es : List Entry). NumbersContainers c.args.entries.now (referenced_ids es) c.loop-entry.ids.count (λ (other : MessageId). get_by (same_id other) c.loop-entry.ids.numbers))
    (take_all c.loop-entry.entry-index c.args.entries.now c.loop-entry-test.false) c.loop-entry.invariant.containers

pub returns-clause-references : goal.returns-clause-references
returns-clause-references c =
    let all = take_all c.loop-entry.entry-index c.args.entries.now c.loop-entry-test.false in
    numbers_found c.args.entries.now c.loop-entry.ids.count (λ (other : MessageId). get_by (same_id other) c.loop-entry.ids.numbers) (referenced_ids c.args.entries.now) c.loop-entry.ids.refs.items
    (subst (λ (es : List Entry). NumbersContainers c.args.entries.now (referenced_ids es) c.loop-entry.ids.count (λ (other : MessageId). get_by (same_id other) c.loop-entry.ids.numbers))
    all c.loop-entry.invariant.containers)
    (numbered_mentioned c.args.entries.now)
    (subst (λ (es : List Entry). AreNumbered (λ (other : MessageId). get_by (same_id other) c.loop-entry.ids.numbers) (referenced_ids es) c.loop-entry.ids.refs.items)
    all c.loop-entry.invariant.references)
