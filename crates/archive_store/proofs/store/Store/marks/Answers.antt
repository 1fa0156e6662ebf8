use Rattle.std.proofs.Common.{rules, Err, sym, ap, ◌∙◌, inl, inr, subst}
use Rattle.std.specs.Prelude.{option_map}
use Rattle.std.specs.Option.{IsSomeAnd}
use Rattle.sqlite.specs.Held.{state}
use Rattle.archive_model.specs.Questions.{message_of}
use Rattle.archive_tables.specs.Rows.{decoded_dated_marks}
use Rattle.archive_tables.specs.Tables.{archive_of}
use Rattle.archive_port.specs.Messages.{AreDatedMarksOf, IsReadable}
use Rattle.archive_store.proofs.AskLemmas.{asks, counts_later, asks_list, begins, fails, fails_answer, fails_at, fails_ends, fails_list}
use Rattle.archive_store.proofs.FindLemmas.{blames_read, not_there, is_there}
use Rattle.archive_store.proofs.WalkingLemmas.{marks_held, no_marks_held}
use Rattle.archive_store.proofs.store.Store.marks.Goals as goal

pub returns-in_err-has_list : goal.returns-in_err-has_list
returns-in_err-has_list g c =
    let stop = fails_list g.S.Store c.args.list.now c.in_err-has_list.field-0.0 c.in_err-has_list.ensures.ends c.in_err-has_list.ensures.answer (begins g.S.Store c.args.self.now.conn) in record {
      answer = fails_answer g.S.Store stop c.from_residual.result c.from_residual.ensures.1 _ _;
      ends = fails_ends g.S.Store stop c.in_err-has_list.ensures.ends.refusals_counted c.from_residual.result c.from_residual.ensures.1 inl _;
      was_open = search rules;
      writes_nothing = search rules;
    }

pub returns-then-not-branch-clause-answer : goal.returns-then-not-branch-clause-answer
returns-then-not-branch-clause-answer g c = λ clean kept.
    let has = c.in_ok-has_list.ensures.answer clean kept in
    (has.0, not_there c.args.list.now (archive_of (state g.S.Store c.args.self.now.conn)) (sym c.if-not-branch.true ∙ has.2))

pub returns-in_err-row : goal.returns-in_err-row
returns-in_err-row g c =
    let listed = asks_list g.S.Store (begins g.S.Store c.args.self.now.conn) c.has_list.new.self.conn c.args.list.now _ c.in_ok-has_list.ensures.answer c.has_list.ensures.ends.remains_open in
    let stop = fails g.S.Store listed c.in_err-row.field-0.0 c.marks-found.ensures c.in_err-row.ensures.passed c.in_err-row.ensures.kind in record {
      answer = fails_answer g.S.Store stop c.from_residual-in_err-row.result c.from_residual-in_err-row.ensures.1 _ _;
      ends = fails_ends g.S.Store stop (counts_later c.in_ok-has_list.ensures.ends.refusals_counted.0 c.in_err-row.ensures.counted.0)
          c.from_residual-in_err-row.result c.from_residual-in_err-row.ensures.1 inl _;
      was_open = search rules;
      writes_nothing = search rules;
    }

pub returns-in_default-clause-answer : goal.returns-in_default-clause-answer
returns-in_default-clause-answer g c = λ clean kept.
    let list = c.args.list.now in
    let a = archive_of (state g.S.Store c.args.self.now.conn) in
    let listed = asks_list g.S.Store (begins g.S.Store c.args.self.now.conn) c.has_list.new.self.conn list _ c.in_ok-has_list.ensures.answer c.has_list.ensures.ends.remains_open in
    let it = (asks g.S.Store listed c.marks-found.ensures c.in_ok-row.ensures.passed).over clean kept in (
      it.1,
      is_there list a (sym c.if-not-branch.false ∙ it.0.0.1),
      no_marks_held (message_of a list c.args.key.now) (sym c.in_default.is ∙ it.0.1 ∙ ap (λ k. option_map decoded_dated_marks (message_of a list k)) c.as_str.ensures),
    )

pub returns-clause-answer : goal.returns-clause-answer
returns-clause-answer g c = λ clean kept.
    let list = c.args.list.now in
    let a = archive_of (state g.S.Store c.args.self.now.conn) in
    let listed = asks_list g.S.Store (begins g.S.Store c.args.self.now.conn) c.has_list.new.self.conn list _ c.in_ok-has_list.ensures.answer c.has_list.ensures.ends.remains_open in
    let it = (asks g.S.Store listed c.marks-found.ensures c.in_ok-row.ensures.passed).over clean kept in
    let read = rw c.in_ok-pass_fault.ensures.passed at c.checked_dated_marks.ensures.read in
    let held = marks_held (message_of a list c.args.key.now) c.in-Some.row (sym c.in-Some.is ∙ it.0.1 ∙ ap (λ k. option_map decoded_dated_marks (message_of a list k)) c.as_str.ensures) in (
      it.1,
      is_there list a (sym c.if-not-branch.false ∙ it.0.0.1),
      subst (λ o. IsSomeAnd o (AreDatedMarksOf c.in_ok-pass_fault.field-0)) (sym held.1) (read held.0 held.2),
    )

pub returns-in_err-pass_fault : goal.returns-in_err-pass_fault
returns-in_err-pass_fault g c =
    let list = c.args.list.now in
    let a = archive_of (state g.S.Store c.args.self.now.conn) in
    let listed = asks_list g.S.Store (begins g.S.Store c.args.self.now.conn) c.has_list.new.self.conn list _ c.in_ok-has_list.ensures.answer c.has_list.ensures.ends.remains_open in
    let stop = fails_at g.S.Store (asks g.S.Store listed c.marks-found.ensures c.in_ok-row.ensures.passed) c.in_err-pass_fault.field-0.0 c.in_err-pass_fault.ensures.kind in record {
      answer = fails_answer g.S.Store stop c.from_residual-in_err-pass_fault.result c.from_residual-in_err-pass_fault.ensures.1 _ _;
      ends = fails_ends g.S.Store stop (counts_later c.in_ok-has_list.ensures.ends.refusals_counted.0 (counts_later c.in_ok-row.ensures.counted.0.0 c.in_err-pass_fault.ensures.counted.0))
          c.from_residual-in_err-pass_fault.result c.from_residual-in_err-pass_fault.ensures.1 (λ why.
          let held = marks_held (message_of a list c.args.key.now) c.in-Some.row
          (sym c.in-Some.is ∙ why.0.1 ∙ ap (λ k. option_map decoded_dated_marks (message_of a list k)) c.as_str.ensures) in
          inr (blames_read c.checked_dated_marks.result (Err c.in_err-pass_fault.field-0.0) _ c.in_err-pass_fault.ensures.passed c.checked_dated_marks.ensures.unread
          (λ e unread is. subst (λ o. IsSomeAnd o (λ m. ¬ IsReadable m)) (sym held.1) (unread.1 held.0 held.2)) why.1)) _;
      was_open = search rules;
      writes_nothing = search rules;
    }
