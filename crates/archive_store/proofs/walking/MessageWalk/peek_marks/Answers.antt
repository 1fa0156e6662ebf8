use Rattle.std.proofs.Common.{◌∙◌, ap, Err, inr, rules}
use Rattle.archive_tables.specs.Rows.{decoded_dated_marks}
use Rattle.archive_tables.proofs.RunLemmas.{on_fault}
use Rattle.archive_store.specs.Walking.{remaining_count, walk_over_store}
use Rattle.archive_store.proofs.FindLemmas.{passed_on, blames_read}
use Rattle.archive_store.proofs.WalkingLemmas.{with_row}
use Rattle.archive_store.proofs.walking.MessageWalk.peek_marks.Goals as goal

pub returns-in_default-clause-shown : goal.returns-in_default-clause-shown
returns-in_default-clause-shown g c = record {
  gives_next_marks = λ returned list all a given w. rw c.in_default.is at (c.in_ok-row.ensures.given returned list all a given w);
  remaining_is_same = ap remaining_count c.in_ok-row.ensures.left.0;
  some_means_remaining = tt;
  fault_is_no_refusal = tt;
}

pub returns-in_err-pass_fault-clause-shown : goal.returns-in_err-pass_fault-clause-shown
returns-in_err-pass_fault-clause-shown g c = record {
  gives_next_marks = λ returned list all a given w.
      let next = rw c.in-Some.is at (c.in_ok-row.ensures.given returned list all a given w) in
      on_fault _ _ c.from_residual-in_err-pass_fault.result c.from_residual-in_err-pass_fault.ensures.1
      (λ up. with_row g.S.Store list all a given (walk_over_store c.take_row.new.store c.take_row.new.self) c.in-Some.row next.0 next.1);
  remaining_is_same = ap remaining_count c.in_ok-row.ensures.left.0;
  some_means_remaining = search rules;
  fault_is_no_refusal = search rules;
}

pub returns-clause-shown : goal.returns-clause-shown
returns-clause-shown g c = record {
  gives_next_marks = λ returned list all a given w.
      let next = rw c.in-Some.is at (c.in_ok-row.ensures.given returned list all a given w) in
      let read = rw c.in_ok-pass_fault.ensures.passed at c.checked_dated_marks-marks.ensures.read in (
        with_row g.S.Store list all a given (walk_over_store c.take_row.new.store c.take_row.new.self) c.in-Some.row next.0 next.1,
        (next.1.0, next.1.1, next.1.2, read next.1.0 (c.marks_in.ensures list ∙ ap decoded_dated_marks next.1.3)),
      );
  remaining_is_same = ap remaining_count c.in_ok-row.ensures.left.0;
  some_means_remaining = rw c.in-Some.is at c.in_ok-row.ensures.left.1;
  fault_is_no_refusal = tt;
}

pub returns-in_err-row-clause-caused : goal.returns-in_err-row-clause-caused
returns-in_err-row-clause-caused g c = λ returned list all a given w free.
    passed_on c.from_residual.result c.in_err-row.field-0.0 _ c.from_residual.ensures.1 (c.in_err-row.ensures.caused returned list all a given w free)

pub returns-in_err-pass_fault-clause-caused : goal.returns-in_err-pass_fault-clause-caused
returns-in_err-pass_fault-clause-caused g c = λ returned list all a given w free.
    let next = rw c.in-Some.is at (c.in_ok-row.ensures.given returned list all a given w) in
    passed_on c.from_residual-in_err-pass_fault.result c.in_err-pass_fault.field-0.0 _ c.from_residual-in_err-pass_fault.ensures.1
    (blames_read c.checked_dated_marks-marks.result (Err c.in_err-pass_fault.field-0.0) _ c.in_err-pass_fault.ensures.passed c.checked_dated_marks-marks.ensures.unread
    (λ e unread is. inr (next.1.0, next.1.1, next.1.2, unread.1 next.1.0 (c.marks_in.ensures list ∙ ap decoded_dated_marks next.1.3))))
