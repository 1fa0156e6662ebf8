use Rattle.std.proofs.Common.{◌∙◌, inr, refl}
use Rattle.archive_run.specs.Orders.{RunsStoreCommand}
use Rattle.sift_run.specs.Streams.{output_stream_state}
use Rattle.sift_run.proofs.ResultLemmas.{by_result, sent_as}
use Rattle.archive_run.proofs.ordering.run_table.Goals as goal

pub returns-in-Ok-clause-runs : goal.returns-in-Ok-clause-runs
returns-in-Ok-clause-runs g c =
    let old = c.args.world.now in
    let new = record old { databases = c.work_table.new.databases; output = c.send.new.output } in
    let before = output_stream_state g.Y.Output.Sink g.Y.Output.BufferedSink old.output in
    let after = output_stream_state g.Y.Output.Sink g.Y.Output.BufferedSink c.send.new.output in
    let answer = c.in-Ok.answer in
    let worked = c.in-Ok.ensures.worked in
    by_result (RunsStoreCommand old new g.Y.Output.Sink g.Y.Output.BufferedSink g.Y.Archive.ArchiveState g.Y.Databases.Databases c.args.order.now) _ _ c.send.result
    (sent_as _ before after c.as_bytes.result.now _ c.send.result (c.as_bytes.ensures.value ∙ c.line.ensures) c.send.ensures)
    (λ u sends. (answer, worked, (sends, refl)))
    (λ e part. inr (answer, worked, (part.0, part.1, refl)))
