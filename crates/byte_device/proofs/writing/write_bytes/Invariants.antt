use Rattle.std.proofs.Common.{◌≡◌, ◌≤◌, ◌-◌, ◌++◌, length, take}
use Rattle.byte_device.proofs.writing.write_bytes.Given as goal

abbrev pub invariant-loop-written : goal.invariant-loop-written
invariant-loop-written g l = record {
  within : l.written ≤ length l.bytes;
  told : g.W.Sink.told l.out ≡ g.W.Sink.told l.initial.out ++ take l.written l.bytes;
  quiet : g.W.Sink.failures l.out ≡ g.W.Sink.failures l.initial.out;
}

abbrev pub decreases-loop-written : goal.decreases-loop-written
decreases-loop-written g l = length l.bytes - l.written
