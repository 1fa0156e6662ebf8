use Rattle.std.proofs.Common.{◌∙◌, ap, inl, map, refl}
use Rattle.sift_run.specs.Streams.{output_stream_state}
use Rattle.archive.proofs.ProgramLemmas.{flushed, of_lent}
use Rattle.archive.proofs.run_words.Goals as goal

pub returns : goal.returns
returns g c =
    let ran = c.run-status.new.world in
    let it = c.run-status.ensures in
    inl (record {
      unflushed = ran;
      ends_run = of_lent (ap (map (λ w. w.now)) c.as_slice.ensures.value ∙ c.in-Ok.ensures)
          (record { when_0 = it.done; when_1 = it.refused; when_crashed = it.crash; when_2 = it.bad; when_not_served = it.stopped });
      flushes_output = flushed (output_stream_state g.Y.Output.Sink g.Y.Output.BufferedSink ran.output) (output_stream_state g.Y.Output.Sink g.Y.Output.BufferedSink c.flush.new.self) c.flush.result
          c.flush.ensures.told c.flush.ensures.sent c.flush.ensures.quiet c.flush.ensures.cause;
      only_output_differs = refl;
    })
