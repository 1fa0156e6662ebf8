use Rattle.std.proofs.Common.{◌≡◌, ◌∙◌, ap, inl, refl, subst, ℕ, List, Some}
use Rattle.archive_args.specs.Values.{GetValues}
use Rattle.archive_run.specs.Orders.{RunsGet, RunGetsMessageOnDay}
use Rattle.sift_run.specs.Running.{IsPolicyErrorCause, AreRulesOfPolicyFile}
use Rattle.archive_run.specs.Refusals.{IsCommandErrorWith}
use Rattle.archive_run.proofs.OrderLemmas.{by_policy}
use Rattle.sift_run.proofs.ResultLemmas.{err_at}
use Rattle.archive_run.proofs.ordering.run_get.Goals as goal

pub returns-in_err-policy-clause-runs : goal.returns-in_err-policy-clause-runs
returns-in_err-policy-clause-runs g c =
    let old = c.args.world.now in
    let order = c.args.order.now in
    let refusal = c.in_err-policy.field-0.0 in
    let named : c.order-inside.inside.0.0.policy.now ≡ order.ask.policy = ap (λ i. i.asked.policy) c.order-inside.view_is ∙ ap (λ (o : GetValues). o.ask.policy) c.order.view_is in
    let P : List ℕ → Type 0 = λ p. IsCommandErrorWith (IsPolicyErrorCause g.Y.Files.ReadFiles old.files (Some p)) refusal in
    err_at (RunsGet old old g.Y.Output.Sink g.Y.Output.BufferedSink g.Y.Archive.ArchiveState g.Y.Databases.Databases g.Y.Clock.DayClock g.Y.Files.ReadFiles order)
    c.from_residual.result refusal c.from_residual.ensures.1 (inl (subst P named c.in_err-policy.ensures.refused, refl))

pub returns-clause-runs : goal.returns-clause-runs
returns-clause-runs g c =
    let old = c.args.world.now in
    let new = c.get_by.new.world in
    let order = c.args.order.now in
    let rules = c.in_ok-policy.policy in
    let named : c.order-inside.inside.0.0.policy.now ≡ order.ask.policy = ap (λ i. i.asked.policy) c.order-inside.view_is ∙ ap (λ (o : GetValues). o.ask.policy) c.order.view_is in
    let P : List ℕ → Type 0 = λ p. AreRulesOfPolicyFile g.Y.Files.ReadFiles old.files (Some p) rules in
    by_policy old new g.Y.Files.ReadFiles (Some order.ask.policy)
    (RunGetsMessageOnDay old new g.Y.Output.Sink g.Y.Output.BufferedSink g.Y.Archive.ArchiveState g.Y.Databases.Databases g.Y.Clock.DayClock order)
    rules (subst P named c.in_ok-policy.ensures.ok) c.get_by.result c.get_by.ensures.runs
