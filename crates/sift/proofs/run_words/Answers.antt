use Rattle.std.proofs.Common.{◌∙◌, ap, inl, map, subst, ℕ, List}
use Rattle.sift.specs.Program.{EndsSiftRun}
use Rattle.sift.proofs.ProgramLemmas.{flushed}
use Rattle.sift_run.specs.Streams.{output_stream_state}
use Rattle.sift.proofs.run_words.Goals as goal

pub returns : goal.returns
returns g c =
    let ran = c.run-status.new in
    let R : List (List ℕ) → Type 0 = λ words. EndsSiftRun g.C.DayClock g.R.Source g.O.Sink g.O.BufferedSink g.E.Sink g.F.ReadFiles c.args.files.now c.args.clock.now ran.clock
    c.args.input.now ran.input c.args.output.now c.args.faults.now ran.faults words ran.output c.run-status.result in
    let it = c.run-status.ensures in
    inl (
      ran.output,
      subst R (ap (map (λ w. w.now)) c.as_slice.ensures.value ∙ c.in-Ok.ensures)
          (record { when_0 = it.done; when_1 = it.refused; when_2 = it.bad; stopped = it.stopped }),
      flushed (output_stream_state g.O.Sink g.O.BufferedSink ran.output) (output_stream_state g.O.Sink g.O.BufferedSink c.flush.new.self) c.flush.result c.flush.ensures.told c.flush.ensures.sent
          c.flush.ensures.quiet c.flush.ensures.cause,
    )
