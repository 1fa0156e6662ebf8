use Rattle.subject_core.proofs.Again.{base-lower, reply-lower}
use Rattle.subject_core.proofs.laws.ascii_case_makes_no_difference.Goals as goal

pub returns : goal.returns
returns c = record { base = base-lower; reply = reply-lower }
