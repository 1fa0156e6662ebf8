use Rattle.archive_pages.proofs.PromiseLaws.{no_trace, stays_withdrawn, stays_held_back}
use Rattle.archive_pages.proofs.laws.a_withheld_message_leaves_no_trace.Goals as goal

pub returns-clause-always : goal.returns-clause-always
returns-clause-always c = no_trace

pub returns-clause-withdrawn : goal.returns-clause-withdrawn
returns-clause-withdrawn c = stays_withdrawn c.a_withheld_message_stays_withheld.ensures.withdrawn

pub returns-clause-held_back : goal.returns-clause-held_back
returns-clause-held_back c = stays_held_back c.a_withheld_message_stays_withheld.ensures.held_back
