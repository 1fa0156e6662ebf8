use Rattle.archive_life.proofs.HistoryLemmas.{is_history, outlasts}
use Rattle.archive_life.proofs.laws.runs_in_turn_have_a_history.Goals as goal

pub returns-clause-history : goal.returns-clause-history
returns-clause-history c = is_history

pub returns-clause-withdrawn : goal.returns-clause-withdrawn
returns-clause-withdrawn c = outlasts c.a_withheld_message_leaves_no_trace.ensures.withdrawn
