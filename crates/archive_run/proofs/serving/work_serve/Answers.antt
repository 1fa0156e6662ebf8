use Rattle.std.proofs.Common.{◌≡◌, ap, inr, subst, ℕ, List, Ok}
use Rattle.archive_port.specs.Crashes.{WritesNothing}
use Rattle.archive_args.specs.Values.{ServeValues}
use Rattle.archive_run.specs.Serving.{ListensAndServes, RefusesListeningOrServing, RunServesDatabase, server_output}
use Rattle.archive_run.proofs.OrderLemmas.{databases_of, with_databases}
use Rattle.sift_run.proofs.ResultLemmas.{by_result}
use Rattle.archive_run.proofs.WorkLemmas.{works}
use Rattle.archive_run.proofs.serving.work_serve.Goals as goal

pub returns-clause-served : goal.returns-clause-served
returns-clause-served g c =
    let old = c.args.world.now in
    let order = c.args.order.now in
    let done = c.serve_store-served in
    let mid = done.new.world in
    let new = record mid { databases = c.close.new.self } in
    let keeps = g.Y.Databases.Databases in
    let accepts = g.Y.Ports.Listener.Listener.accepts in
    let closes = g.Y.Ports.Listener.Listener.closes in
    let over = g.Y.Ports.Listener.Listener.over in
    let went = g.Y.Ports.Ports.went in
    let before = server_output g.Y.Output.Sink g.Y.Output.BufferedSink g.Y.Faults.Sink old.output old.faults in
    let after = server_output g.Y.Output.Sink g.Y.Output.BufferedSink g.Y.Faults.Sink new.output new.faults in
    let served = done.ensures.served.0 in
    let kept = done.ensures.served.1 in
    let frame = with_databases _ _ c.close.new.self kept in
    let is_file : c.order.inside.file.now ≡ order.file = ap (λ (o : ServeValues). o.file) c.order.view_is in
    let P : List ℕ → Type 0 = λ f. keeps.opens old.databases c.open.new.self f (Ok c.in-Ok.store) in
    let opened = subst P is_file c.in-Ok.ensures.opened in
    let C : g.row.Y-Databases.Denot → Type 0 = λ d. keeps.closes d c.close.new.self done.new.store in
    let closed = subst C (databases_of _ _ kept) c.close.ensures in
    by_result (RunServesDatabase old new g.Y.Output.Sink g.Y.Output.BufferedSink g.Y.Faults.Sink g.Y.Archive.ArchiveState g.Y.Ports.Ports.listens accepts closes over went keeps order
    c.args.policy.now c.args.day) _ _
    done.result served
    (λ u it. (
      works keeps old.databases c.open.new.self c.close.new.self order.file c.in-Ok.store done.new.store opened closed
          (λ o x. ListensAndServes g.Y.Archive.ArchiveState accepts closes over went g.Y.Ports.Ports.listens old.ports new.ports order.port order.count c.args.policy.now c.args.day o x before
          after) it,
      frame,
    ))
    (λ e it. inr (
      works keeps old.databases c.open.new.self c.close.new.self order.file c.in-Ok.store done.new.store opened closed
          (λ o x. RefusesListeningOrServing g.Y.Archive.ArchiveState accepts closes over went g.Y.Ports.Ports.listens old.ports new.ports order.port order.count c.args.policy.now c.args.day o x
          before after e) it,
      frame,
    ))

pub returns-clause-crash : goal.returns-clause-crash
returns-clause-crash g c =
    let old = c.args.world.now in
    let order = c.args.order.now in
    let done = c.serve_store-served in
    let keeps = g.Y.Databases.Databases in
    let P : List ℕ → Type 0 = λ f. keeps.opens old.databases c.open.new.self f (Ok c.in-Ok.store) in
    let opened = subst P (ap (λ (o : ServeValues). o.file) c.order.view_is) c.in-Ok.ensures.opened in
    let C : g.row.Y-Databases.Denot → Type 0 = λ d. keeps.closes d c.close.new.self done.new.store in
    let closed = subst C (databases_of _ _ done.ensures.served.1) c.close.ensures in
    inr (inr (works keeps old.databases c.open.new.self c.close.new.self order.file c.in-Ok.store done.new.store opened closed (λ o x. WritesNothing g.Y.Archive.ArchiveState o x)
    done.ensures.writes_nothing))
