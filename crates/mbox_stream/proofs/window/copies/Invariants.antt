use Rattle.std.proofs.Common.{◌≡◌, ◌++◌}
use Rattle.mbox_stream.proofs.window.copies.Given as goal

abbrev pub invariant-loop-item : goal.invariant-loop-item
invariant-loop-item l = l.fn.messages ≡ l.all.items ++ l.item-iterator
