use Rattle.std.proofs.Common.{◌≡◌, ◌++◌, take}
use Rattle.archive_run.specs.Refusals.{visible_bytes}
use Rattle.archive_run.proofs.faults.put_visible.Given as goal

abbrev pub invariant-loop-byte : goal.invariant-loop-byte
invariant-loop-byte g l = record {
  told : g.E.Sink.told l.faults ≡ g.E.Sink.told l.initial.faults ++ visible_bytes (take l.byte-index l.bytes);
  quiet : g.E.Sink.failures l.faults ≡ g.E.Sink.failures l.initial.faults;
}
