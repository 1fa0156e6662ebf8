use Rattle.std.proofs.Common.{rules, Some, Err, refl, sym, ap, ◌∙◌, inl, inr, subst}
use Rattle.std.specs.Prelude.{option_map}
use Rattle.std.specs.Option.{IsSomeAnd}
use Rattle.sqlite.specs.Held.{state}
use Rattle.archive_model.specs.Questions.{message_of}
use Rattle.archive_tables.specs.Rows.{message_from_result_row}
use Rattle.archive_tables.specs.Tables.{archive_of}
use Rattle.archive_port.specs.Messages.{IsReadable}
use Rattle.archive_store.proofs.AskLemmas.{asks, counts_later, begins, fails, fails_answer, fails_at, fails_ends}
use Rattle.archive_store.proofs.FindLemmas.{blames_read}
use Rattle.archive_store.proofs.store.Store.find.Goals as goal

pub returns-in_err-row : goal.returns-in_err-row
returns-in_err-row g c =
    let stop = fails g.S.Store (begins g.S.Store c.args.self.now.conn) c.in_err-row.field-0.0 c.message-found.ensures c.in_err-row.ensures.passed c.in_err-row.ensures.kind in record {
      answer = fails_answer g.S.Store stop c.from_residual.result c.from_residual.ensures.1 _ _;
      ends = fails_ends g.S.Store stop c.in_err-row.ensures.counted.0 c.from_residual.result c.from_residual.ensures.1 inl _;
      writes_nothing = search rules;
    }

pub returns-in_ok-pass_fault-in-Some-clause-answer : goal.returns-in_ok-pass_fault-in-Some-clause-answer
returns-in_ok-pass_fault-in-Some-clause-answer g c = λ clean kept.
    let list = c.args.list.now in
    let a = archive_of (state g.S.Store c.args.self.now.conn) in
    let it = (asks g.S.Store (begins g.S.Store c.args.self.now.conn) c.message-found.ensures c.in_ok-row.ensures.passed).over clean kept in
    let read = rw c.in_ok-pass_fault-in-Some.ensures.passed at c.checked_message.ensures.read in
    (it.1, refl, ap Some (read list) ∙ ap (option_map (message_from_result_row list)) (sym c.in-Some.is) ∙ it.0.1 ∙ ap (message_of a list) c.as_str.ensures)

pub returns-in-None-clause-answer : goal.returns-in-None-clause-answer
returns-in-None-clause-answer g c = λ clean kept.
    let list = c.args.list.now in
    let a = archive_of (state g.S.Store c.args.self.now.conn) in
    let it = (asks g.S.Store (begins g.S.Store c.args.self.now.conn) c.message-found.ensures c.in_ok-row.ensures.passed).over clean kept in
    (it.1, refl, ap (option_map (message_from_result_row list)) (sym c.in-None.is) ∙ it.0.1 ∙ ap (message_of a list) c.as_str.ensures)

pub returns-in_err-pass_fault-in-Some : goal.returns-in_err-pass_fault-in-Some
returns-in_err-pass_fault-in-Some g c =
    let list = c.args.list.now in
    let a = archive_of (state g.S.Store c.args.self.now.conn) in
    let found = asks g.S.Store (begins g.S.Store c.args.self.now.conn) c.message-found.ensures c.in_ok-row.ensures.passed in
    let stop = fails_at g.S.Store found c.in_err-pass_fault-in-Some.field-0.0 c.in_err-pass_fault-in-Some.ensures.kind in record {
      answer = fails_answer g.S.Store stop c.from_residual-in_err-pass_fault-in-Some.result c.from_residual-in_err-pass_fault-in-Some.ensures.1 _ _;
      ends = fails_ends g.S.Store stop (counts_later c.in_ok-row.ensures.counted.0.0 c.in_err-pass_fault-in-Some.ensures.counted.0)
          c.from_residual-in_err-pass_fault-in-Some.result c.from_residual-in_err-pass_fault-in-Some.ensures.1 (λ why.
          inr (blames_read c.checked_message.result (Err c.in_err-pass_fault-in-Some.field-0.0) _ c.in_err-pass_fault-in-Some.ensures.passed c.checked_message.ensures.unread
          (λ e unread is. subst (λ o. IsSomeAnd o (λ m. ¬ IsReadable m))
          (ap (option_map (message_from_result_row list)) (sym c.in-Some.is) ∙ why.0.1 ∙ ap (message_of a list) c.as_str.ensures) (unread.1 list)) why.1)) _;
      writes_nothing = search rules;
    }
