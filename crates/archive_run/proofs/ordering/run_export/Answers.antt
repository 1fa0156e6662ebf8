use Rattle.std.proofs.Common.{◌≡◌, ap, inl, refl, subst, ℕ, List, Some}
use Rattle.archive_args.specs.Values.{AskValues}
use Rattle.archive_run.specs.Orders.{RunsExport, RunExportsListOnDay}
use Rattle.sift_run.specs.Running.{IsPolicyErrorCause, AreRulesOfPolicyFile}
use Rattle.archive_run.specs.Refusals.{IsCommandErrorWith}
use Rattle.archive_run.proofs.OrderLemmas.{by_policy}
use Rattle.sift_run.proofs.ResultLemmas.{err_at}
use Rattle.archive_run.proofs.ordering.run_export.Goals as goal

pub returns-in_err-policy-clause-runs : goal.returns-in_err-policy-clause-runs
returns-in_err-policy-clause-runs g c =
    let old = c.args.world.now in
    let order = c.args.order.now in
    let refusal = c.in_err-policy.field-0.0 in
    let named : c.order.inside.policy.now ≡ order.policy = ap (λ (o : AskValues). o.policy) c.order.view_is in
    let P : List ℕ → Type 0 = λ p. IsCommandErrorWith (IsPolicyErrorCause g.Y.Files.ReadFiles old.files (Some p)) refusal in
    err_at (RunsExport old old g.Y.Output.Sink g.Y.Output.BufferedSink g.Y.Archive.ArchiveState g.Y.Databases.Databases g.Y.Clock.DayClock g.Y.Files.ReadFiles order)
    c.from_residual.result refusal c.from_residual.ensures.1 (inl (subst P named c.in_err-policy.ensures.refused, refl))

pub returns-clause-runs : goal.returns-clause-runs
returns-clause-runs g c =
    let old = c.args.world.now in
    let new = c.export_by.new.world in
    let order = c.args.order.now in
    let rules = c.in_ok-policy.policy in
    let named : c.order.inside.policy.now ≡ order.policy = ap (λ (o : AskValues). o.policy) c.order.view_is in
    let P : List ℕ → Type 0 = λ p. AreRulesOfPolicyFile g.Y.Files.ReadFiles old.files (Some p) rules in
    by_policy old new g.Y.Files.ReadFiles (Some order.policy)
    (RunExportsListOnDay old new g.Y.Output.Sink g.Y.Output.BufferedSink g.Y.Archive.ArchiveState g.Y.Databases.Databases g.Y.Clock.DayClock order)
    rules (subst P named c.in_ok-policy.ensures.ok) c.export_by.result c.export_by.ensures.runs
