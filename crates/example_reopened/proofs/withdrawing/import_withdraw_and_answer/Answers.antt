use Rattle.std.proofs.Common.{arith}
use Rattle.archive_port.specs.Told.{archive_in}
use Rattle.archive_store.specs.State.{state_of}
use Rattle.example_reopened.proofs.withdrawing.import_withdraw_and_answer.Goals as goal

pub returns-clause-answered : goal.returns-clause-answered
returns-clause-answered g c = λ returned ready.
    let found = c.import_and_withdraw.new.store in
    let ends = c.answer_both-answered.ensures.ends in
    let was = ends.first_ends.stays.archive_is_same.0.disk_was_clean (ends.second_ends.stays.archive_is_same.0.disk_was_clean returned) in
    let it = c.in_ok-report.ensures.done.1 was ready in
    record {
      archive = archive_in (state_of g.S.Store) found;
      made = it.1;
      first_sent = c.answer_both-answered.ensures.first returned it.0.is_archive_at_rest;
      second_sent = c.answer_both-answered.ensures.second returned it.0.is_archive_at_rest;
    }

pub returns-clause-ends : goal.returns-clause-ends
returns-clause-ends g c = record {
  found = c.import_and_withdraw.new.store;
  withdrawn = c.in_ok-report.ensures.done;
  ends = c.answer_both-answered.ensures.ends;
}

pub returns-clause-counted : goal.returns-clause-counted
returns-clause-counted g c =
    let first = c.in_ok-report.ensures.counted.0 in
    let then = c.answer_both-answered.ensures.ends.first_error_cause.0 in
    let last = c.answer_both-answered.ensures.ends.second_error_cause.0 in (omega (arith, first, then, last), tt)
