use Rattle.std.proofs.Common.{inr, refl}
use Rattle.archive_run.specs.Orders.{RunsCheck}
use Rattle.sift_run.proofs.ResultLemmas.{by_result}
use Rattle.archive_run.proofs.ordering.run_check.Goals as goal

pub returns-in-Ok-clause-runs : goal.returns-in-Ok-clause-runs
returns-in-Ok-clause-runs g c =
    let old = c.args.world.now in
    let new = record old { databases = c.work_check.new.databases; output = c.send.new.output } in
    let worked = c.in-Ok.ensures.worked in
    by_result (RunsCheck old new g.Y.Output.Sink g.Y.Output.BufferedSink g.Y.Archive.ArchiveState g.Y.Databases.Databases c.args.order.now) _ _ c.send.result c.send.ensures
    (λ u sends. (worked, (sends, refl)))
    (λ e part. inr (worked, (part.0, part.1, refl)))
