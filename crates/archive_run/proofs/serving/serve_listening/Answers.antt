use Rattle.std.proofs.Common.{◌≡◌, ◌∙◌, ap, subst, ℤ, Err, List}
use Rattle.policy_core.specs.Rules.{Rule}
use Rattle.archive_listen.specs.Connections.{error_stream_state}
use Rattle.archive_listen.specs.Serving.{ServesAllConnections, ServesFewerConnections, server_state}
use Rattle.archive_serve.specs.Runs.{ServingAnswerLaw}
use Rattle.archive_serve.specs.declared.faults.ServingError.TheVariants.{Listen}
use Rattle.archive_run.proofs.serving.serve_listening.Goals as goal

pub returns-in-Ok-clause-served : goal.returns-in-Ok-clause-served
returns-in-Ok-clause-served g c =
    let it = c.in-Ok.ensures.served in
    let terms = c.serving_terms-terms in
    let P : List Rule → ℤ → Type 0 = λ rules day. ServesAllConnections (ServingAnswerLaw g.S.ArchiveState rules day c.args.store.now c.serve-served.new.store)
    g.P.Listener.Listener.accepts g.P.Listener.Listener.closes (server_state c.args.listening.listener c.args.store.now)
    (error_stream_state g.E.Sink c.args.faults.now) (error_stream_state g.E.Sink c.serve-served.new.faults) c.args.count (server_state c.serve-served.new.listener c.serve-served.new.store) in (
      it.0,
      c.serve-served.new.listener,
      c.end.ensures,
      subst (λ rules. P rules c.args.day) terms.ensures.rules (subst (λ day. P terms.result.policy.now day) terms.ensures.day it.1),
    )

pub returns-in-Err-Listen-clause-served : goal.returns-in-Err-Listen-clause-served
returns-in-Err-Listen-clause-served g c =
    let listen : c.in-Err-Listen.field-0 ≡ Listen = rw c.in-Err-Listen.is at c.in-Err-Listen.field-0-is in
    let it = c.serve-served.ensures.stopped (c.in-Err-Listen.is ∙ ap Err listen) in
    let terms = c.serving_terms-terms in
    let P : List Rule → ℤ → Type 0 = λ rules day. ServesFewerConnections (ServingAnswerLaw g.S.ArchiveState rules day c.args.store.now c.serve-served.new.store)
    g.P.Listener.Listener.accepts g.P.Listener.Listener.closes (server_state c.args.listening.listener c.args.store.now)
    (error_stream_state g.E.Sink c.args.faults.now) (error_stream_state g.E.Sink c.serve-served.new.faults) c.args.count (server_state c.serve-served.new.listener c.serve-served.new.store) in (
      it.0,
      c.serve-served.new.listener,
      c.end.ensures,
      subst (λ rules. P rules c.args.day) terms.ensures.rules (subst (λ day. P terms.result.policy.now day) terms.ensures.day it.1),
    )
