use Rattle.std.proofs.Common.{rules, refl, ◌∙◌, inl, inr}
use Rattle.std.specs.Prelude.{IsUtf8}
use Rattle.sqlite.specs.Held.{state}
use Rattle.archive_model.proofs.OrderLemmas.{names_are}
use Rattle.archive_tables.specs.Tables.{archive_of}
use Rattle.std.proofs.lemmas.List.Sorted.{All-permutation}
use Rattle.archive_store.proofs.AskLemmas.{asks, begins, fails, fails_answer, fails_ends}
use Rattle.archive_store.proofs.FindLemmas.{answers_read, blames_read}
use Rattle.archive_store.proofs.store.Store.lists.Goals as goal

pub returns-in_err-shown : goal.returns-in_err-shown
returns-in_err-shown g c =
    let stop = fails g.S.Store (begins g.S.Store c.args.self.now.conn) c.in_err-shown.field-0.0 c.list_names.ensures c.in_err-shown.ensures.passed c.in_err-shown.ensures.kind in record {
      answer = fails_answer g.S.Store stop c.from_residual.result c.from_residual.ensures.1 _ _;
      ends = fails_ends g.S.Store stop c.in_err-shown.ensures.counted.0 c.from_residual.result c.from_residual.ensures.1 inl _;
      writes_nothing = search rules;
    }

pub returns-clause-answer : goal.returns-clause-answer
returns-clause-answer g c = λ clean kept.
    let it = (asks g.S.Store (begins g.S.Store c.args.self.now.conn) c.list_names.ensures c.in_ok-shown.ensures.passed).over clean kept in
    let q = it.0.1 in
    answers_read c.read_names-names.result c.pass_fault.result _ _ _ c.pass_fault.ensures.passed c.pass_fault.ensures.kind c.read_names-names.ensures.read
    (λ names read. (
      it.1,
      refl,
      read q.0 (c.deref.ensures.value ∙ q.1) ∙ names_are (archive_of (state g.S.Store c.args.self.now.conn)) q.0 (record { is_permutation = q.2; is_sorted = q.3 }),
    ))
    (λ up. it.1)

pub returns-clause-ends : goal.returns-clause-ends
returns-clause-ends g c = record {
  remains_open = search rules;
  was_open = search rules;
  refusal_is_possible = search rules;
  refusals_counted = search rules;
  fault_has_cause = λ clean kept free.
      let q = ((asks g.S.Store (begins g.S.Store c.args.self.now.conn) c.list_names.ensures c.in_ok-shown.ensures.passed).over clean kept).0.1 in
      blames_read c.read_names-names.result c.pass_fault.result _ c.pass_fault.ensures.passed c.read_names-names.ensures.unread
      (λ e unread is. inr (λ all. unread is q.0 (c.deref.ensures.value ∙ q.1) (All-permutation IsUtf8 _ _ q.2 all)));
}
