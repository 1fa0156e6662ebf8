use Rattle.std.proofs.Common.{◌≡◌, ◌≤◌, ◌+◌, ◌++◌, List, length, take, drop}
use Rattle.mail_core.specs.Lines.{lines}
use Rattle.mbox_core.specs.Division.{AreBlocks}
use Rattle.luvazhimba_c.specs.Places.{AreMessagesFromOffset}
use Rattle.luvazhimba_c.specs.declared.messages.LuvMessage.{LuvMessage}
use Rattle.luvazhimba_c.proofs.cutting.put_places.Given as goal

abbrev pub invariant-loop-item : goal.invariant-loop-item
invariant-loop-item l = record {
  low : l.next ≤ length l.bytes;
  few : l.count ≤ l.next;
  ahead : AreBlocks l.item-iterator (lines (drop l.next l.bytes));
  count : l.count + length l.item-iterator ≡ length l.fn.messages;
  long : length l.to ≡ length l.initial.to;
  stand : (later : List LuvMessage) → l.count ≤ length l.to → AreMessagesFromOffset l.bytes l.next l.item-iterator later
      → AreMessagesFromOffset l.bytes l.fn.at l.fn.messages (take l.count l.to ++ later);
}
