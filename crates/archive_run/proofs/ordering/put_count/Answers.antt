use Rattle.std.proofs.Common.{◌≡◌, ◌∙◌, ◌++◌, subst}
use Rattle.std.specs.Prelude.{decimal}
use Rattle.sift_run.specs.Streams.{output_stream_state}
use Rattle.sift_run.proofs.ResultLemmas.{err_at}
use Rattle.archive_run.specs.Working.{WritesTextOrFails}
use Rattle.archive_run.proofs.ReportLemmas.{cut_first, put_then}
use Rattle.archive_run.proofs.ordering.put_count.Goals as goal

pub returns-in_err-put_text : goal.returns-in_err-put_text
returns-in_err-put_text g c =
    let before = output_stream_state g.O.Sink g.O.BufferedSink c.args.output.now in
    let one = output_stream_state g.O.Sink g.O.BufferedSink c.put_text.new.output in
    let it = c.in_err-put_text.ensures in
    err_at (WritesTextOrFails before one (c.args.text.now ++ decimal c.args.count)) c.from_residual.result _ c.from_residual.ensures.1
    (it.0, cut_first before one c.args.text.now (decimal c.args.count) it.1)

pub returns : goal.returns
returns g c =
    let before = output_stream_state g.O.Sink g.O.BufferedSink c.args.output.now in
    let one = output_stream_state g.O.Sink g.O.BufferedSink c.put_text.new.output in
    let after = output_stream_state g.O.Sink g.O.BufferedSink c.put_text-2.new.output in
    let digits : c.as_bytes.result.now ≡ decimal c.args.count = c.as_bytes.ensures.value ∙ c.format.ensures.text in
    put_then before one after c.args.text.now (decimal c.args.count) c.in_ok-put_text.ensures c.put_text-2.result
    (subst (λ text. WritesTextOrFails one after text c.put_text-2.result) digits c.put_text-2.ensures)
