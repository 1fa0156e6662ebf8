use Rattle.std.proofs.Common.{◌≡◌, ap, true, Some}
use Rattle.archive_args.specs.Values.{ServeValues}
use Rattle.sift_run.specs.Running.{IsReadingDay}
use Rattle.archive_run.specs.Serving.{RunServesDatabase}
use Rattle.archive_run.proofs.OrderLemmas.{on_day}
use Rattle.archive_run.proofs.serving.serve_by.Goals as goal

pub returns-clause-served : goal.returns-clause-served
returns-clause-served g c =
    let old = c.args.world.now in
    let new = c.work_serve.new.world in
    let order = c.args.order.now in
    let clock = c.asking_day.new.clock in
    let day = c.in-Some.day in
    let is_day : c.order.inside.day ≡ order.day = ap (λ (o : ServeValues). o.day) c.order.view_is in
    let given : IsReadingDay g.Y.Clock.DayClock order.day true old.clock clock (Some day) = rw is_day at c.in-Some.ensures in
    on_day old new g.Y.Clock.DayClock order.day
    (λ asked d. RunServesDatabase asked new g.Y.Output.Sink g.Y.Output.BufferedSink g.Y.Faults.Sink g.Y.Archive.ArchiveState g.Y.Ports.Ports.listens g.Y.Ports.Listener.Listener.accepts
    g.Y.Ports.Listener.Listener.closes g.Y.Ports.Listener.Listener.over g.Y.Ports.Ports.went g.Y.Databases.Databases order c.args.policy.now d)
    clock day given c.work_serve.result c.work_serve.ensures.served
