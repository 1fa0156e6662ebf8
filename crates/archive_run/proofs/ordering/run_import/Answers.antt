use Rattle.std.proofs.Common.{inr, refl}
use Rattle.archive_run.specs.Orders.{RunsImport}
use Rattle.sift_run.proofs.ResultLemmas.{by_result}
use Rattle.archive_run.proofs.ordering.run_import.Goals as goal

pub returns-in-Ok-clause-runs : goal.returns-in-Ok-clause-runs
returns-in-Ok-clause-runs g c =
    let old = c.args.world.now in
    let end = c.send_report.new.output in
    let new = record old { databases = c.work_import.new.databases; output = end } in
    let report = c.in-Ok.report in
    let taken = c.in-Ok.ensures.worked in
    by_result (RunsImport old new g.Y.Output.Sink g.Y.Output.BufferedSink g.Y.Archive.ArchiveState g.Y.Databases.Databases g.Y.Files.StreamedFiles g.Y.Files.Input.Source c.args.order.now)
    _ _ c.send_report.result c.send_report.ensures
    (λ u sends. (report, taken, (sends, refl)))
    (λ e part. inr (report, taken, (part.0, part.1, refl)))
