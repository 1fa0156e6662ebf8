use Rattle.subject_core.proofs.OneBase.{trailer_stays}
use Rattle.subject_core.proofs.laws.removing_a_front_uncovers_no_trailer.Goals as goal

pub returns : goal.returns
returns c = trailer_stays
