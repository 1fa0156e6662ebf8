use Rattle.std.proofs.Common.{◌≡◌, ◌≤◌, length}
use Rattle.sift_run.specs.Sifting.{FiltersSoFar}
use Rattle.sift_run.proofs.sifting.sift_settled.Given as goal

abbrev pub invariant-loop-reads : goal.invariant-loop-reads
invariant-loop-reads g l = record {
  so_far : FiltersSoFar l.policy l.words (g.R.Source.told l.initial.input) (g.R.Source.told l.input)
      (g.W.Sink.told l.initial.output) (g.W.Sink.told l.output) l.cutter l.before;
  reads : l.reads ≤ length l.cutter.stream;
  no_read_failed : g.R.Source.failures l.input ≡ g.R.Source.failures l.initial.input;
  ends : g.R.Source.ends l.input ≡ g.R.Source.ends l.initial.input;
  no_write_failed : g.W.Sink.failures l.output ≡ g.W.Sink.failures l.initial.output;
}
