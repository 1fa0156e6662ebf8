use Rattle.subject_core.proofs.Again.{base_again, base_plain, lower_base}
use Rattle.subject_core.proofs.laws.a_base_is_its_own_base.Goals as goal

pub returns : goal.returns
returns c = record { base = base_again; no_reply = base_plain; lower_case = lower_base }
