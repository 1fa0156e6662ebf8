use Rattle.archive_results.proofs.HoldLemmas.{thread_missing}
use Rattle.archive_results.proofs.laws.a_thread_is_absent_iff_its_message_is.Goals as goal

pub returns : goal.returns
returns c = λ merge key view. thread_missing c.each_message_is_in_one_row.ensures.step_one merge key view
