use Rattle.archive_results.proofs.PromiseLemmas as lemmas
use Rattle.archive_results.proofs.laws.a_withheld_message_stays_withheld.Goals as goal

pub returns-clause-withdrawn : goal.returns-clause-withdrawn
returns-clause-withdrawn c = lemmas.withdrawn_later c.marks_stay_until_lifted.ensures.withdrawn

pub returns-clause-held_back : goal.returns-clause-held_back
returns-clause-held_back c = lemmas.held_back_later c.marks_stay_until_lifted.ensures.held_back

pub returns-clause-by_any : goal.returns-clause-by_any
returns-clause-by_any c = lemmas.by_any
