use Rattle.archive_results.proofs.OwnLemmas as lemmas
use Rattle.archive_results.proofs.laws.an_own_message_has_the_readers_address.Goals as goal

pub returns-clause-exactly : goal.returns-clause-exactly
returns-clause-exactly c = lemmas.exactly

pub returns-clause-nobody : goal.returns-clause-nobody
returns-clause-nobody c = lemmas.nobody

pub returns-clause-unaddressed : goal.returns-clause-unaddressed
returns-clause-unaddressed c = lemmas.unaddressed

pub returns-clause-authored : goal.returns-clause-authored
returns-clause-authored c = lemmas.authored
