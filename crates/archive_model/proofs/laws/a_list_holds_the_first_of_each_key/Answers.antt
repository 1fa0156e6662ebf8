use Rattle.archive_model.proofs.FirstLemmas as firsts
use Rattle.archive_model.proofs.RepeatLemmas as again
use Rattle.archive_model.proofs.laws.a_list_holds_the_first_of_each_key.Goals as goal

pub returns-clause-holds : goal.returns-clause-holds
returns-clause-holds c = λ a list items room there fits. firsts.holds list items a room there fits

pub returns-clause-repeats : goal.returns-clause-repeats
returns-clause-repeats c = λ a list items n room there fits. again.repeats list items n a room there fits
