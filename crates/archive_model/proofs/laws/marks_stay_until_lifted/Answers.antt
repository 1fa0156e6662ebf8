use Rattle.archive_model.proofs.LastingLemmas as lasting
use Rattle.archive_model.proofs.laws.marks_stay_until_lifted.Goals as goal

pub returns-clause-withdrawn : goal.returns-clause-withdrawn
returns-clause-withdrawn c = lasting.withdrawn_stays

pub returns-clause-held_back : goal.returns-clause-held_back
returns-clause-held_back c = lasting.embargo_stays
