use Rattle.std.proofs.Common.{◌≡◌, length}
use Rattle.mbox_stream.specs.Cutter.{IsCutterConsistent}
use Rattle.archive_import.proofs.StopLemmas.{Grows, Moved}
use Rattle.archive_import.proofs.TellLemmas.{Behind}
use Rattle.archive_import.proofs.importing.add_waiting.Given as goal

abbrev pub invariant-loop-item : goal.invariant-loop-item
invariant-loop-item g l = record {
  behind : (moved : Moved l.initial.cutter.taken l.initial.cutter.waiting l.cutter.taken l.cutter.waiting)
      × Behind g.S.ArchiveState l.initial.store l.store (Grows l.list l.initial.intake l.intake moved.done);
  stream : l.cutter.stream ≡ l.initial.cutter.stream;
  phase : l.cutter.phase ≡ l.initial.cutter.phase;
  given : IsCutterConsistent l.cutter;
}

abbrev pub decreases-loop-item : goal.decreases-loop-item
decreases-loop-item g l = length l.cutter.waiting
