use Rattle.sift_run.specs.Streams.{WritesAndFlushesOrFails, output_stream_state}
use Rattle.sift_run.specs.declared.faults.CommandError.TheVariants.{Write}
use Rattle.sift_run.proofs.ResultLemmas.{err_at}
use Rattle.archive_run.specs.Working.{report_line}
use Rattle.archive_run.specs.declared.faults.RunError.TheVariants.{Run}
use Rattle.archive_run.proofs.ReportLemmas.{cut_at_known, cut_at_new, cut_at_too_large, report_sent}
use Rattle.archive_run.proofs.ordering.send_report.Goals as goal

pub returns-in_err-put_count : goal.returns-in_err-put_count
returns-in_err-put_count g c =
    let before = output_stream_state g.O.Sink g.O.BufferedSink c.args.output.now in
    let one = output_stream_state g.O.Sink g.O.BufferedSink c.put_count.new.output in
    let it = c.in_err-put_count.ensures in
    err_at (WritesAndFlushesOrFails (Run Write) before one (report_line c.args.report)) c.from_residual.result _ c.from_residual.ensures.1
    (it.0, cut_at_new c.args.report before one it.1)

pub returns-in_err-put_count-2 : goal.returns-in_err-put_count-2
returns-in_err-put_count-2 g c =
    let before = output_stream_state g.O.Sink g.O.BufferedSink c.args.output.now in
    let one = output_stream_state g.O.Sink g.O.BufferedSink c.put_count.new.output in
    let two = output_stream_state g.O.Sink g.O.BufferedSink c.put_count-2.new.output in
    let it = c.in_err-put_count-2.ensures in
    err_at (WritesAndFlushesOrFails (Run Write) before two (report_line c.args.report)) c.from_residual-in_err-put_count-2.result _ c.from_residual-in_err-put_count-2.ensures.1
    (it.0, cut_at_known c.args.report before one two c.in_ok-put_count.ensures it.1)

pub returns-in_err-put_count-3 : goal.returns-in_err-put_count-3
returns-in_err-put_count-3 g c =
    let before = output_stream_state g.O.Sink g.O.BufferedSink c.args.output.now in
    let one = output_stream_state g.O.Sink g.O.BufferedSink c.put_count.new.output in
    let two = output_stream_state g.O.Sink g.O.BufferedSink c.put_count-2.new.output in
    let three = output_stream_state g.O.Sink g.O.BufferedSink c.put_count-3.new.output in
    let it = c.in_err-put_count-3.ensures in
    err_at (WritesAndFlushesOrFails (Run Write) before three (report_line c.args.report)) c.from_residual-in_err-put_count-3.result _ c.from_residual-in_err-put_count-3.ensures.1
    (it.0, cut_at_too_large c.args.report before one two three c.in_ok-put_count.ensures c.in_ok-put_count-2.ensures it.1)

pub returns : goal.returns
returns g c =
    let before = output_stream_state g.O.Sink g.O.BufferedSink c.args.output.now in
    let one = output_stream_state g.O.Sink g.O.BufferedSink c.put_count.new.output in
    let two = output_stream_state g.O.Sink g.O.BufferedSink c.put_count-2.new.output in
    let three = output_stream_state g.O.Sink g.O.BufferedSink c.put_count-3.new.output in
    let after = output_stream_state g.O.Sink g.O.BufferedSink c.send.new.output in
    report_sent c.args.report before one two three after c.send.result c.in_ok-put_count.ensures c.in_ok-put_count-2.ensures c.in_ok-put_count-3.ensures c.send.ensures
