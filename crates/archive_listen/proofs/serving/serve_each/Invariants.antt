use Rattle.std.proofs.Common.{◌-◌, ◌≡◌, ◌≤◌, List, length}
use Rattle.archive_listen.specs.Connections.{ConnectionResult, error_stream_state}
use Rattle.archive_listen.specs.Serving.{ServesAndReportsErrors, running_service, service_answer_law, server_state}
use Rattle.archive_listen.proofs.serving.serve_each.Given as goal

-- so many connections were served, and each fault was told
abbrev pub invariant-loop-taken : goal.invariant-loop-taken
invariant-loop-taken g l = (outcomes : List ConnectionResult) × (length outcomes ≡ l.taken) × (l.taken ≤ l.count)
    × ServesAndReportsErrors (service_answer_law g.V.Service.answers) g.L.Listener.accepts g.L.Listener.closes
    (server_state l.initial.listener (running_service l.initial.service l.initial.state)) (error_stream_state g.E.Sink l.initial.faults) (error_stream_state g.E.Sink l.faults)
    outcomes (server_state l.listener (running_service l.service l.state))
    × (g.E.Sink.failures l.initial.faults ≤ g.E.Sink.failures l.faults)

abbrev pub decreases-loop-taken : goal.decreases-loop-taken
decreases-loop-taken g l = l.count - l.taken
