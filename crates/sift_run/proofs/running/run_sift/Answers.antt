use Rattle.std.proofs.Common.{ap, inl, refl, subst, ℕ, List, Option}
use Rattle.archive_args.specs.Values.{SiftValues}
use Rattle.sift_run.specs.Running.{IsPolicyErrorCause, AreRulesOfPolicyFile, SiftEndsByPolicy}
use Rattle.sift_run.proofs.ResultLemmas.{err_at}
use Rattle.sift_run.proofs.RunLemmas.{run_by_policy}
use Rattle.sift_run.proofs.running.run_sift.Goals as goal

pub returns-in_err-policy : goal.returns-in_err-policy
returns-in_err-policy g c =
    let files = c.args.files.now in
    let order = c.args.asked.now in
    let fault = c.in_err-policy.field-0.0 in
    let P : Option (List ℕ) → Type 0 = λ p. IsPolicyErrorCause g.F.ReadFiles files p fault in
    err_at (SiftEndsByPolicy g.C.DayClock g.R.Source g.O.Sink g.O.BufferedSink c.args.clock.now c.args.clock.now c.args.input.now c.args.input.now
    c.args.output.now c.args.output.now g.F.ReadFiles files order)
    c.from_residual.result fault c.from_residual.ensures.1
    (inl (subst P (ap (λ (o : SiftValues). o.policy) c.asked.view_is) c.in_err-policy.ensures.refused, refl, refl, refl))

pub returns : goal.returns
returns g c =
    let files = c.args.files.now in
    let order = c.args.asked.now in
    let rules = c.in_ok-policy.policy in
    let P : Option (List ℕ) → Type 0 = λ p. AreRulesOfPolicyFile g.F.ReadFiles files p rules in
    run_by_policy g.C.DayClock g.R.Source g.O.Sink g.O.BufferedSink c.args.clock.now c.sift_by.new.clock c.args.input.now c.sift_by.new.input
    c.args.output.now c.sift_by.new.output g.F.ReadFiles files order rules (subst P (ap (λ (o : SiftValues). o.policy) c.asked.view_is) c.in_ok-policy.ensures.ok)
    c.sift_by.result c.sift_by.ensures
