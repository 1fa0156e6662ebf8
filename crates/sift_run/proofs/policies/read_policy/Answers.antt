use Rattle.std.proofs.Common.{◌≡◌, Ok}
use Rattle.policy_core.specs.Written.{written_policy}
use Rattle.sift_run.specs.declared.faults.CommandError.TheVariants.{Policy}
use Rattle.sift_run.proofs.ResultLemmas.{ok_as}
use Rattle.sift_run.proofs.policies.read_policy.Goals as goal

pub returns-clause-ok : goal.returns-clause-ok
returns-clause-ok c = ok_as (λ rules. written_policy c.args.text.now ≡ Ok rules) Policy c.read.result c.handed_on.result c.handed_on.ensures c.read.ensures.ok
