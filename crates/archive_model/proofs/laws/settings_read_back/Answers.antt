use Rattle.archive_model.proofs.LastingLemmas as lasting
use Rattle.archive_model.proofs.laws.settings_read_back.Goals as goal

pub returns-clause-merged : goal.returns-clause-merged
returns-clause-merged c = lasting.merged

pub returns-clause-merge_stays : goal.returns-clause-merge_stays
returns-clause-merge_stays c = lasting.merge_stays

pub returns-clause-at_first : goal.returns-clause-at_first
returns-clause-at_first c = lasting.at_first

pub returns-clause-addressed : goal.returns-clause-addressed
returns-clause-addressed c = lasting.addressed

pub returns-clause-address_stays : goal.returns-clause-address_stays
returns-clause-address_stays c = lasting.address_stays
