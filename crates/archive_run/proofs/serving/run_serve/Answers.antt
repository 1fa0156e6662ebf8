use Rattle.std.proofs.Common.{ap, inl, refl, subst, arith, ℕ, List, Some}
use Rattle.archive_args.specs.Values.{ServeValues}
use Rattle.sift_run.specs.Running.{IsPolicyErrorCause, AreRulesOfPolicyFile}
use Rattle.archive_run.specs.Serving.{RunsServe, RunServesDatabaseOnDay}
use Rattle.archive_run.specs.Refusals.{IsCommandErrorWith}
use Rattle.archive_run.proofs.OrderLemmas.{by_policy}
use Rattle.sift_run.proofs.ResultLemmas.{err_at}
use Rattle.archive_run.proofs.serving.run_serve.Goals as goal

pub returns-in_err-policy-clause-runs : goal.returns-in_err-policy-clause-runs
returns-in_err-policy-clause-runs g c =
    let old = c.args.world.now in
    let order = c.args.order.now in
    let refusal = c.in_err-policy.field-0.0 in
    let P : List ℕ → Type 0 = λ p. IsCommandErrorWith (IsPolicyErrorCause g.Y.Files.ReadFiles old.files (Some p)) refusal in
    err_at (RunsServe old old g.Y.Output.Sink g.Y.Output.BufferedSink g.Y.Faults.Sink g.Y.Archive.ArchiveState g.Y.Ports.Ports.listens g.Y.Ports.Listener.Listener.accepts
    g.Y.Ports.Listener.Listener.closes g.Y.Ports.Listener.Listener.over g.Y.Ports.Ports.went g.Y.Databases.Databases g.Y.Clock.DayClock g.Y.Files.ReadFiles g.Y.Threaders.Threaders.makes order)
    c.from_residual.result refusal c.from_residual.ensures.1
    (inl (c.in-Some.ensures, inl (subst P (ap (λ (o : ServeValues). o.policy) c.order.view_is) c.in_err-policy.ensures.refused, refl), omega arith))

pub returns-clause-runs : goal.returns-clause-runs
returns-clause-runs g c =
    let old = c.args.world.now in
    let new = c.serve_by.new.world in
    let order = c.args.order.now in
    let rules = c.in_ok-policy.policy in
    let P : List ℕ → Type 0 = λ p. AreRulesOfPolicyFile g.Y.Files.ReadFiles old.files (Some p) rules in
    inl (
      c.in-Some.ensures,
      by_policy old new g.Y.Files.ReadFiles (Some order.policy)
          (RunServesDatabaseOnDay old new g.Y.Output.Sink g.Y.Output.BufferedSink g.Y.Faults.Sink g.Y.Archive.ArchiveState g.Y.Ports.Ports.listens g.Y.Ports.Listener.Listener.accepts
          g.Y.Ports.Listener.Listener.closes g.Y.Ports.Listener.Listener.over g.Y.Ports.Ports.went g.Y.Databases.Databases g.Y.Clock.DayClock order)
          rules (subst P (ap (λ (o : ServeValues). o.policy) c.order.view_is) c.in_ok-policy.ensures.ok) c.serve_by.result c.serve_by.ensures.served,
      c.serve_by.ensures.failures,
    )
