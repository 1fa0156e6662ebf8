use Rattle.std.proofs.Common.{refl}
use Rattle.policy_core.specs.Written.{value_refusal}
use Rattle.policy_core.proofs.rule_reading.read_flag.Goals as goal

pub returns-in-Some : goal.returns-in-Some
unfolding value_refusal
returns-in-Some c = rw (← c.in-Some.ensures) (refl, refl)

pub returns-in-None : goal.returns-in-None
unfolding value_refusal
returns-in-None c = rw (← c.in-None.ensures) refl
