use Rattle.std.proofs.Common.{List, take, ◌++◌}
use Rattle.std.specs.HashMap.{get_by}
use Rattle.mail_core.specs.MsgIds.{MessageId}
use Rattle.thread_links.specs.declared.entry.Entry.{Entry}
use Rattle.thread_links.specs.Containers.{same_id}
use Rattle.thread_links.specs.Ids.{AreNumbered, NumbersContainers}
use Rattle.thread_links.proofs.ids.Ids.note_all.Given as goal

-- the ids so far are noted
abbrev pub invariant-loop-at : goal.invariant-loop-at
invariant-loop-at l = record {
  containers : (entries : List Entry) (refs : List MessageId) → NumbersContainers entries refs l.fn.self.count (λ other. get_by (same_id other) l.fn.self.numbers)
      → NumbersContainers entries (refs ++ take l.at l.ids) l.self.count (λ other. get_by (same_id other) l.self.numbers);
  references : (refs : List MessageId) → AreNumbered (λ other. get_by (same_id other) l.fn.self.numbers) refs l.fn.self.refs.items
      → AreNumbered (λ other. get_by (same_id other) l.self.numbers) (refs ++ take l.at l.ids) l.self.refs.items;
}
