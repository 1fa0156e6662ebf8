use Rattle.std.proofs.Common.{◌≡◌, length}
use Rattle.mbox_stream.specs.Cutter.{IsCutterConsistent}
use Rattle.sift_run.specs.Sifting.{filtered_text}
use Rattle.sift_run.proofs.SiftLemmas.{Sent, Moved}
use Rattle.sift_run.proofs.sifting.write_waiting.Given as goal

abbrev pub invariant-loop-item : goal.invariant-loop-item
invariant-loop-item g l = record {
  sent : Sent (g.W.Sink.told l.initial.output) (g.W.Sink.told l.output)
      (filtered_text l.policy l.words l.initial.cutter.waiting) (filtered_text l.policy l.words l.cutter.waiting) l.before;
  quiet : g.W.Sink.failures l.output ≡ g.W.Sink.failures l.initial.output;
  moved : Moved l.initial.cutter.taken l.initial.cutter.waiting l.cutter.taken l.cutter.waiting;
  stream : l.cutter.stream ≡ l.initial.cutter.stream;
  phase : l.cutter.phase ≡ l.initial.cutter.phase;
  given : IsCutterConsistent l.cutter;
}

abbrev pub decreases-loop-item : goal.decreases-loop-item
decreases-loop-item g l = length l.cutter.waiting
