use Rattle.subject_core.proofs.Rests.{goes_shorter}
use Rattle.subject_core.proofs.OneBase.{base_found, one_base}
use Rattle.subject_core.proofs.laws.removals_end_at_one_base.Goals as goal

pub returns : goal.returns
returns c = record { shortens = goes_shorter; ends = base_found; one = one_base }
