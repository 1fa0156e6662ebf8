use Rattle.std.proofs.Common.{rules, sym, ◌∙◌}
use Rattle.sqlite.specs.Held.{state}
use Rattle.archive_model.specs.Questions.{list_refusal}
use Rattle.archive_tables.specs.Tables.{archive_of}
use Rattle.archive_tables.proofs.RunLemmas.{on_fault}
use Rattle.archive_port.specs.Wanting.{IsMemoryRefusal}
use Rattle.archive_port.proofs.WantLemmas.{raises_after}
use Rattle.archive_store.proofs.AskLemmas.{asks_list, begins, fails_answer, fails_ends, fails_list, last_answer, last_ends}
use Rattle.archive_store.proofs.FindLemmas.{passes_to, rows_asked, not_there, is_there}
use Rattle.archive_store.proofs.store.Store.count.Goals as goal

pub returns-in_err-has_list : goal.returns-in_err-has_list
returns-in_err-has_list g c =
    let stop = fails_list g.S.Store c.args.list.now c.in_err-has_list.field-0.0 c.in_err-has_list.ensures.ends c.in_err-has_list.ensures.answer (begins g.S.Store c.args.self.now.conn) in record {
      answer = fails_answer g.S.Store stop c.from_residual.result c.from_residual.ensures.1 _ _;
      same = λ clean. on_fault _ _ c.from_residual.result c.from_residual.ensures.1 (c.in_err-has_list.ensures.same clean);
      writes_nothing = search rules;
      ends = fails_ends g.S.Store stop c.in_err-has_list.ensures.ends.refusals_counted c.from_residual.result c.from_residual.ensures.1 (λ more. more) _;
    }

pub returns-then-not-branch-clause-answer : goal.returns-then-not-branch-clause-answer
returns-then-not-branch-clause-answer g c = λ clean kept.
    let has = c.in_ok-has_list.ensures.answer clean kept in
    (has.0, not_there c.args.list.now (archive_of (state g.S.Store c.args.self.now.conn)) (sym c.if-not-branch.true ∙ has.2))

pub returns-then-not-branch-clause-same : goal.returns-then-not-branch-clause-same
returns-then-not-branch-clause-same g c = λ clean kept up. ((c.in_ok-has_list.ensures.answer clean kept).0.0, c.in_ok-has_list.ensures.same clean)

pub returns : goal.returns
returns g c =
    let list = c.args.list.now in
    let listed = asks_list g.S.Store (begins g.S.Store c.args.self.now.conn) c.has_list.new.self.conn list _ c.in_ok-has_list.ensures.answer c.has_list.ensures.ends.remains_open in record {
      answer = last_answer g.S.Store listed c.pass.result c.pass.ensures.passed c.pass.ensures.kind c.count_messages-count.ensures (λ a. list_refusal a list)
          (λ a it. is_there list a (sym c.if-not-branch.false ∙ it.1));
      same = λ clean.
          let was = c.count_messages-count.ensures.ends_call.remains_open.disk_was_clean clean in
          passes_to _ _ c.count_messages-count.result c.pass.result c.pass.ensures.passed
          (rows_asked (state g.S.Store c.args.self.now.conn) c.count_messages-count.result c.count_messages-count.ensures clean (c.in_ok-has_list.ensures.same was)
          (λ kept. (c.in_ok-has_list.ensures.answer was kept).0.0));
      writes_nothing = search rules;
      ends = last_ends g.S.Store listed c.pass.result c.pass.ensures.passed c.pass.ensures.kind c.count_messages-count.ensures
          (raises_after IsMemoryRefusal _ _ _ c.pass.result c.in_ok-has_list.ensures.ends.refusals_counted.0 c.pass.ensures.counted.0) (λ more. more) (λ same bad. absurd bad) _;
    }
