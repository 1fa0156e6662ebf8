use Rattle.std.proofs.Common.{◌≡◌, ◌≢◌, ◌∙◌, ap, Err}
use Rattle.std.proofs.lemmas.Result.{err_from_is_err_and}
use Rattle.policy_core.specs.declared.faults.PolicyFault.TheVariants.{NotToml, Memory}
use Rattle.policy_core.proofs.FaultLemmas.{no_tree}
use Rattle.policy_core.proofs.rules.Policy.read.Goals as goal

pub returns-in_err-rules-clause-not_toml : goal.returns-in_err-rules-clause-not_toml
returns-in_err-rules-clause-not_toml c = λ is.
    let p = err_from_is_err_and c.from_residual.result c.from_residual.ensures.1 in
    let same : c.in_err-rules.field-0.0 ≡ NotToml = cc (is, p.1, p.2) in
    let real : c.in_err-rules.field-0.0 ≢ Memory = λ memory. absurd (cc (same, memory)) in
    no_tree _ (c.in_err-rules.ensures.refused real ∙ ap Err same)
