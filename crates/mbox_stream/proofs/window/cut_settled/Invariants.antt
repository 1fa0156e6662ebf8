use Rattle.std.proofs.Common.{length, ◌-◌, ◌≤◌, ◌++◌, drop}
use Rattle.mbox_stream.specs.Stream.{IsBeginning}
use Rattle.mbox_stream.specs.Window.{IsOpenMessageWindow, IsSearchedUpTo}
use Rattle.mbox_stream.proofs.window.cut_settled.Given as goal

abbrev pub invariant-loop-from : goal.invariant-loop-from
invariant-loop-from l = record {
  low : l.start ≤ length l.bytes;
  window : IsOpenMessageWindow l.head.envelope l.stream.bytes (drop l.start l.bytes) (l.taken.items ++ l.waiting.items);
  looked : IsSearchedUpTo (drop l.start l.bytes) l.from;
  grows : IsBeginning l.initial.waiting.items l.waiting.items;
}

abbrev pub decreases-loop-from : goal.decreases-loop-from
decreases-loop-from l = length l.bytes - l.start
