use Rattle.std.proofs.Common.{refl, subst, sym}
use Rattle.archive_args.specs.declared.orders.OrderStop.{OrderStop}
use Rattle.sift_run.specs.Refusals.{ReportsOrderStop}
use Rattle.sift_run.specs.Streams.{output_stream_state}
use Rattle.sift_run.specs.declared.faults.CommandError.TheVariants.{Write}
use Rattle.sift_run.proofs.ResultLemmas.{sent_as}
use Rattle.sift_run.proofs.TellLemmas.{help_said}
use Rattle.sift_run.proofs.telling.report_parse_error.Goals as goal

pub returns-in-Help : goal.returns-in-Help
returns-in-Help g c =
    let out = c.send-said.new.output in
    let P : OrderStop → Type 0 = λ s. ReportsOrderStop g.O.Sink g.O.BufferedSink g.E.Sink c.args.output.now out c.args.faults.now c.finish.new.faults s c.finish.result in
    let said = sent_as Write (output_stream_state g.O.Sink g.O.BufferedSink c.args.output.now) (output_stream_state g.O.Sink g.O.BufferedSink out) c.as_bytes.result.now _ c.send-said.result
    c.as_bytes.ensures.value c.send-said.ensures in
    subst P (sym c.in-Help.is)
    (help_said g.O.Sink g.O.BufferedSink g.E.Sink c.args.output.now out c.args.faults.now c.finish.new.faults c.finish.result c.in-Help.text c.send-said.result
    said c.finish.ensures)

pub returns-in-Memory : goal.returns-in-Memory
returns-in-Memory g c =
    let P : OrderStop → Type 0 = λ s. ReportsOrderStop g.O.Sink g.O.BufferedSink g.E.Sink c.args.output.now c.args.output.now c.args.faults.now c.report_error.new.faults s 1 in
    subst P (sym c.in-Memory.is) (refl, refl, c.report_error.ensures)
