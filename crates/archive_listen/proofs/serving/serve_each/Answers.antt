use Rattle.std.proofs.Common.{arith, ◌+◌, [], ◌∷◌, ◌++◌, ◌∙◌, ap, refl, length-append}
use Rattle.archive_listen.specs.Serving.{running_service, server_state}
use Rattle.archive_listen.proofs.ServingLemmas.{serves_more, reads_text}
use Rattle.archive_listen.proofs.serving.serve_each.Goals as goal

pub loop-taken-init : goal.loop-taken-init
loop-taken-init g c = ([], refl, omega arith, record { serves_each = refl; reports_outcomes = refl }, omega arith)

pub loop-taken-preserved : goal.loop-taken-preserved
loop-taken-preserved g c =
    let i = c.loop-taken.invariant in (
      i.0 ++ c.in-Ok.outcome ∷ [],
      length-append i.0 (c.in-Ok.outcome ∷ []) ∙ ap (λ n. n + 1) i.1,
      omega (arith, c.loop-taken-test.true),
      record {
        serves_each = serves_more _ _ _ i.0 c.in-Ok.outcome _ _ _ i.3.serves_each c.in-Ok.ensures.served;
        reports_outcomes = reads_text i.0 c.in-Ok.outcome _ _ _ i.3.reports_outcomes c.tell_outcome.ensures.told;
      },
      omega (arith, i.4, c.tell_outcome.ensures.failures),
    )

pub returns-in-Err-clause-stopped : goal.returns-in-Err-clause-stopped
returns-in-Err-clause-stopped g c =
    let i = c.loop-taken.invariant in (
      i.0,
      server_state c.loop-taken.listener (running_service c.loop-taken.service c.loop-taken.state),
      omega (arith, i.1, c.loop-taken-test.true),
      i.3,
      c.in-Err.ensures.stopped.0,
      c.in-Err.ensures.stopped.1,
    )

pub returns-in-Err-clause-failures : goal.returns-in-Err-clause-failures
returns-in-Err-clause-failures g c = c.loop-taken.invariant.4

pub returns-clause-served : goal.returns-clause-served
returns-clause-served g c =
    let i = c.loop-taken.invariant in
    (i.0, omega (arith, i.1, i.2, c.loop-taken-test.false), i.3)

pub returns-clause-failures : goal.returns-clause-failures
returns-clause-failures g c = c.loop-taken.invariant.4
