use Rattle.std.proofs.Common.{sym, ◌∙◌, rules}
use Rattle.std.specs.Prelude.{find}
use Rattle.sqlite.specs.Held.{state}
use Rattle.archive_model.specs.Questions.{is_option_of}
use Rattle.archive_tables.specs.Tables.{archive_of}
use Rattle.archive_store.proofs.AskLemmas.{asks, counts_later, begins, fails, fails_answer, fails_ends}
use Rattle.archive_store.proofs.FindLemmas.{passed_answer, is_there, merge_is}
use Rattle.archive_store.proofs.store.Store.merge_of.Goals as goal

pub returns-in_err-pass : goal.returns-in_err-pass
returns-in_err-pass g c =
    let stop = fails g.S.Store (begins g.S.Store c.args.self.now.conn) c.in_err-pass.field-0.0 c.has_list-listed.ensures c.in_err-pass.ensures.passed c.in_err-pass.ensures.kind in record {
      answer = fails_answer g.S.Store stop c.from_residual.result c.from_residual.ensures.1 _ _;
      ends = fails_ends g.S.Store stop c.in_err-pass.ensures.counted.0 c.from_residual.result c.from_residual.ensures.1 (λ more. more) _;
      writes_nothing = search rules;
    }

pub returns-then-not-branch-clause-answer : goal.returns-then-not-branch-clause-answer
returns-then-not-branch-clause-answer g c = λ clean kept.
    let it_1 = passed_answer c.has_list-listed.ensures c.in_ok-pass.ensures.passed clean kept in
    search rules

pub returns-in_err-pass-2 : goal.returns-in_err-pass-2
returns-in_err-pass-2 g c =
    let listed = asks g.S.Store (begins g.S.Store c.args.self.now.conn) c.has_list-listed.ensures c.in_ok-pass.ensures.passed in
    let stop = fails g.S.Store listed c.in_err-pass-2.field-0.0 c.find_option-found.ensures c.in_err-pass-2.ensures.passed c.in_err-pass-2.ensures.kind in record {
      answer = fails_answer g.S.Store stop c.from_residual-in_err-pass-2.result c.from_residual-in_err-pass-2.ensures.1 _ _;
      ends = fails_ends g.S.Store stop (counts_later c.in_ok-pass.ensures.counted.0.0 c.in_err-pass-2.ensures.counted.0)
          c.from_residual-in_err-pass-2.result c.from_residual-in_err-pass-2.ensures.1 (λ more. more) _;
      writes_nothing = search rules;
    }

pub returns-clause-answer : goal.returns-clause-answer
returns-clause-answer g c = λ clean kept.
    let list = c.args.list.now in
    let a = archive_of (state g.S.Store c.args.self.now.conn) in
    let listed = asks g.S.Store (begins g.S.Store c.args.self.now.conn) c.has_list-listed.ensures c.in_ok-pass.ensures.passed in
    let it = (asks g.S.Store listed c.find_option-found.ensures c.in_ok-pass-2.ensures.passed).over clean kept in
    (it.1, is_there list a (sym c.if-not-branch.false ∙ it.0.0.1), c.or_merged.ensures ∙ merge_is c.in_ok-pass-2.field-0 (find (is_option_of list) a.options) it.0.1)
