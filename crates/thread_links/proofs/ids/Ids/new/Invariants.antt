use Rattle.std.proofs.Common.{take}
use Rattle.std.specs.HashMap.{get_by}
use Rattle.thread_links.specs.Containers.{same_id, referenced_ids}
use Rattle.thread_links.specs.Ids.{AreNumbered, NumbersContainers}
use Rattle.thread_links.proofs.ids.Ids.new.Given as goal

-- the references so far are noted
abbrev pub invariant-loop-entry : goal.invariant-loop-entry
invariant-loop-entry l = record {
  containers : NumbersContainers l.entries (referenced_ids (take l.entry-index l.entries)) l.ids.count (λ other. get_by (same_id other) l.ids.numbers);
  references : AreNumbered (λ other. get_by (same_id other) l.ids.numbers) (referenced_ids (take l.entry-index l.entries)) l.ids.refs.items;
}
