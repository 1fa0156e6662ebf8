use Rattle.archive_model.specs.Messages.{withdrawal_number}
use Rattle.archive_results.proofs.PromiseLemmas as lemmas
use Rattle.archive_results.proofs.HistoryLemmas as history
use Rattle.archive_results.proofs.laws.a_withheld_message_might_never_have_arrived.Goals as goal

pub returns-clause-beside : goal.returns-clause-beside
returns-clause-beside c = λ a list key by. lemmas.all_else_alike a list key (withdrawal_number by)

pub returns-clause-never : goal.returns-clause-never
returns-clause-never c = lemmas.before_it_came

pub returns-clause-withheld : goal.returns-clause-withheld
returns-clause-withheld c = lemmas.leaves_no_trace

pub returns-clause-withdrawn : goal.returns-clause-withdrawn
returns-clause-withdrawn c = λ a ask list key by some. lemmas.as_if_it_never_came a ask list key by

pub returns-clause-history : goal.returns-clause-history
returns-clause-history c = history.as_if_unsaid
