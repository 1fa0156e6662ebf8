use Rattle.archive_listen.specs.Connections.{error_stream_state}
use Rattle.archive_listen.specs.Serving.{server_state}
use Rattle.archive_serve.proofs.KeptLemmas.{all_of_fresh, fewer_of_fresh}
use Rattle.archive_serve.proofs.QuietLemmas.{all_write_nothing, fewer_write_nothing}
use Rattle.archive_serve.proofs.serving.serve_on.Goals as goal

pub returns-in-Ok-clause-served : goal.returns-in-Ok-clause-served
returns-in-Ok-clause-served g c =
    all_of_fresh g.S.ArchiveState g.met.S.ArchiveStore.at_rest_is_open g.L.Listener.accepts g.L.Listener.closes c.args.terms.now.policy.now c.args.terms.now.day c.args.terms.now.most
    c.in_ok-service.service c.in_ok-service.ensures.0 c.new.new.store c.args.listener.now
    (error_stream_state g.E.Sink c.args.faults.now) (error_stream_state g.E.Sink c.serve_each.new.faults) c.args.count c.serve_each.new.service c.serve_each.new.state c.serve_each.new.listener
    c.args.store.now c.in_ok-service.ensures.1
    c.in-Ok.ensures.served

pub returns-clause-stopped : goal.returns-clause-stopped
returns-clause-stopped g c _ =
    fewer_of_fresh g.S.ArchiveState g.met.S.ArchiveStore.at_rest_is_open g.L.Listener.accepts g.L.Listener.closes c.args.terms.now.policy.now c.args.terms.now.day c.args.terms.now.most
    c.in_ok-service.service c.in_ok-service.ensures.0 c.new.new.store c.args.listener.now
    (error_stream_state g.E.Sink c.args.faults.now) (error_stream_state g.E.Sink c.serve_each.new.faults) c.args.count c.serve_each.new.service c.serve_each.new.state c.serve_each.new.listener
    c.args.store.now c.in_ok-service.ensures.1
    c.in-Err.ensures.stopped

pub returns-in-Ok-clause-writes_nothing : goal.returns-in-Ok-clause-writes_nothing
returns-in-Ok-clause-writes_nothing g c =
    let terms = c.args.terms.now in
    let old = error_stream_state g.E.Sink c.args.faults.now in
    let new = error_stream_state g.E.Sink c.serve_each.new.faults in
    let store = c.args.store.now in
    let each = c.serve_each.new in
    all_write_nothing g.S.ArchiveState g.L.Listener.accepts g.L.Listener.closes terms.policy.now terms.day store each.state (server_state c.args.listener.now store) old new c.args.count
    (server_state each.listener each.state)
    (all_of_fresh g.S.ArchiveState g.met.S.ArchiveStore.at_rest_is_open g.L.Listener.accepts g.L.Listener.closes terms.policy.now terms.day terms.most c.in_ok-service.service
    c.in_ok-service.ensures.0 c.new.new.store
    c.args.listener.now old new c.args.count each.service each.state each.listener store c.in_ok-service.ensures.1 c.in-Ok.ensures.served)

pub returns-clause-writes_nothing : goal.returns-clause-writes_nothing
returns-clause-writes_nothing g c =
    let terms = c.args.terms.now in
    let old = error_stream_state g.E.Sink c.args.faults.now in
    let new = error_stream_state g.E.Sink c.serve_each.new.faults in
    let store = c.args.store.now in
    let each = c.serve_each.new in
    fewer_write_nothing g.S.ArchiveState g.L.Listener.accepts g.L.Listener.closes terms.policy.now terms.day store each.state (server_state c.args.listener.now store) old new c.args.count
    (server_state each.listener each.state)
    (fewer_of_fresh g.S.ArchiveState g.met.S.ArchiveStore.at_rest_is_open g.L.Listener.accepts g.L.Listener.closes terms.policy.now terms.day terms.most c.in_ok-service.service
    c.in_ok-service.ensures.0 c.new.new.store
    c.args.listener.now old new c.args.count each.service each.state each.listener store c.in_ok-service.ensures.1 c.in-Err.ensures.stopped)
