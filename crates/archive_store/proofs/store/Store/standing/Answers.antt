use Rattle.std.proofs.Common.{rules, Err, refl, sym, ◌∙◌, to_z, of_z, w64, inl, inr}
use Rattle.std.specs.Prelude.{filter}
use Rattle.std.proofs.lemmas.Int.{to_z-of_z}
use Rattle.sqlite.specs.Held.{state}
use Rattle.archive_model.specs.Questions.{is_grant_of}
use Rattle.archive_tables.specs.Tables.{archive_of}
use Rattle.archive_port.specs.declared.faults.StoreFault.TheVariants as faults
use Rattle.archive_store.proofs.AskLemmas.{asks, counts_later, counts_store, asks_list, begins, fails, fails_answer, fails_at, fails_ends, fails_list}
use Rattle.archive_store.proofs.FindLemmas.{want_is_not, no_such_person, no_such_list, blamed_last}
use Rattle.archive_store.proofs.RankLemmas.{standing_is, is_answered}
use Rattle.archive_store.proofs.store.Store.standing.Goals as goal

pub returns-in_err-pass : goal.returns-in_err-pass
returns-in_err-pass g c =
    let stop = fails g.S.Store (begins g.S.Store c.args.self.now.conn) c.in_err-pass.field-0.0 c.has_person-known.ensures c.in_err-pass.ensures.passed c.in_err-pass.ensures.kind in record {
      answer = fails_answer g.S.Store stop c.from_residual.result c.from_residual.ensures.1 _ _;
      ends = fails_ends g.S.Store stop c.in_err-pass.ensures.counted.0 c.from_residual.result c.from_residual.ensures.1 inl _;
      writes_nothing = search rules;
    }

pub returns-then-not-branch-clause-answer : goal.returns-then-not-branch-clause-answer
returns-then-not-branch-clause-answer g c = λ clean kept.
    let it = (asks g.S.Store (begins g.S.Store c.args.self.now.conn) c.has_person-known.ensures c.in_ok-pass.ensures.passed).over clean kept in
    (it.1, no_such_person c.args.person.now c.args.list.now (archive_of (state g.S.Store c.args.self.now.conn)) (sym c.if-not-branch.true ∙ it.0.1))

pub returns-in_err-has_list : goal.returns-in_err-has_list
returns-in_err-has_list g c =
    let known = asks g.S.Store (begins g.S.Store c.args.self.now.conn) c.has_person-known.ensures c.in_ok-pass.ensures.passed in
    let stop = fails_list g.S.Store c.args.list.now c.in_err-has_list.field-0.0 c.in_err-has_list.ensures.ends c.in_err-has_list.ensures.answer known in record {
      answer = fails_answer g.S.Store stop c.from_residual-in_err-has_list.result c.from_residual-in_err-has_list.ensures.1 _ _;
      ends = fails_ends g.S.Store stop (counts_later c.in_ok-pass.ensures.counted.0.0 c.in_err-has_list.ensures.ends.refusals_counted)
          c.from_residual-in_err-has_list.result c.from_residual-in_err-has_list.ensures.1 inl _;
      writes_nothing = search rules;
    }

pub returns-then-not-branch-2-clause-answer : goal.returns-then-not-branch-2-clause-answer
returns-then-not-branch-2-clause-answer g c = λ clean kept.
    let known = asks g.S.Store (begins g.S.Store c.args.self.now.conn) c.has_person-known.ensures c.in_ok-pass.ensures.passed in
    let it = (asks_list g.S.Store known c.has_list.new.self.conn c.args.list.now _ c.in_ok-has_list.ensures.answer c.has_list.ensures.ends.remains_open).over clean kept in (
      it.1,
      no_such_list c.args.person.now c.args.list.now (archive_of (state g.S.Store c.args.self.now.conn)) (sym c.if-not-branch.false ∙ it.0.0.1) (sym c.if-not-branch-2.true ∙ it.0.1),
    )

pub returns-in_err-grants : goal.returns-in_err-grants
returns-in_err-grants g c =
    let known = asks g.S.Store (begins g.S.Store c.args.self.now.conn) c.has_person-known.ensures c.in_ok-pass.ensures.passed in
    let listed = asks_list g.S.Store known c.has_list.new.self.conn c.args.list.now _ c.in_ok-has_list.ensures.answer c.has_list.ensures.ends.remains_open in
    let stop = fails g.S.Store listed c.in_err-grants.field-0.0 c.grants_of-grants.ensures c.in_err-grants.ensures.passed c.in_err-grants.ensures.kind in record {
      answer = fails_answer g.S.Store stop c.from_residual-in_err-grants.result c.from_residual-in_err-grants.ensures.1 _ _;
      ends = fails_ends g.S.Store stop (counts_later c.in_ok-pass.ensures.counted.0.0 (counts_later c.in_ok-has_list.ensures.ends.refusals_counted.0 c.in_err-grants.ensures.counted.0))
          c.from_residual-in_err-grants.result c.from_residual-in_err-grants.ensures.1 inl _;
      writes_nothing = search rules;
    }

pub returns-in_err-rank : goal.returns-in_err-rank
returns-in_err-rank g c =
    let fault = c.in_err-rank.field-0.0 in
    let grants = filter (is_grant_of c.args.person.now c.args.list.now) (archive_of (state g.S.Store c.args.self.now.conn)).grants in
    let known = asks g.S.Store (begins g.S.Store c.args.self.now.conn) c.has_person-known.ensures c.in_ok-pass.ensures.passed in
    let listed = asks_list g.S.Store known c.has_list.new.self.conn c.args.list.now _ c.in_ok-has_list.ensures.answer c.has_list.ensures.ends.remains_open in
    let counted = counts_later c.in_ok-pass.ensures.counted.0.0 (counts_later c.in_ok-has_list.ensures.ends.refusals_counted.0
    (counts_later c.in_ok-grants.ensures.counted.0.0 c.in_err-rank.ensures.counted.0)) in
    let stop = fails_at g.S.Store (asks g.S.Store listed c.grants_of-grants.ensures c.in_ok-grants.ensures.passed) fault c.in_err-rank.ensures.kind in record {
      answer = fails_answer g.S.Store stop c.from_residual-in_err-rank.result c.from_residual-in_err-rank.ensures.1 _ _;
      ends = fails_ends g.S.Store stop counted c.from_residual-in_err-rank.result c.from_residual-in_err-rank.ensures.1 (λ why.
          blamed_last c.highest_rank.result (Err fault) _ _ c.in_err-rank.ensures.passed c.highest_rank.ensures.fault
          (λ e wants. want_is_not e (wants grants (c.deref.ensures.value ∙ why.0.1))) why.1) _;
      writes_nothing = search rules;
    }

pub returns-in-Some-clause-answer : goal.returns-in-Some-clause-answer
returns-in-Some-clause-answer g c = λ clean kept.
    let person = c.args.person.now in
    let list = c.args.list.now in
    let a = archive_of (state g.S.Store c.args.self.now.conn) in
    let known = asks g.S.Store (begins g.S.Store c.args.self.now.conn) c.has_person-known.ensures c.in_ok-pass.ensures.passed in
    let listed = asks_list g.S.Store known c.has_list.new.self.conn list _ c.in_ok-has_list.ensures.answer c.has_list.ensures.ends.remains_open in
    let it = (asks g.S.Store listed c.grants_of-grants.ensures c.in_ok-grants.ensures.passed).over clean kept in
    let fits = rw c.in_ok-rank.ensures.passed at c.highest_rank.type_inv in
    let ranked = rw c.in_ok-rank.ensures.passed at c.highest_rank.ensures.found in
    let day = to_z w64 (of_z w64 c.day_number.result) in (
      it.1,
      is_answered person list a (sym c.if-not-branch.false ∙ it.0.0.0.1) (sym c.if-not-branch-2.false ∙ it.0.0.1),
      c.in-Some.ensures.some ∙ to_z-of_z w64 c.in_ok-rank.rank (record { sfits = assumption fits }) ∙ standing_is person list c.args.day day c.in_ok-rank.rank a
          (to_z-of_z w64 c.day_number.result (record { sfits = c.day_number.type_inv }) ∙ c.day_number.ensures)
          (ranked (filter (is_grant_of person list) a.grants) (c.deref.ensures.value ∙ it.0.1)),
    )

pub returns : goal.returns
returns g c =
    let person = c.args.person.now in
    let list = c.args.list.now in
    let a = archive_of (state g.S.Store c.args.self.now.conn) in
    let known = asks g.S.Store (begins g.S.Store c.args.self.now.conn) c.has_person-known.ensures c.in_ok-pass.ensures.passed in
    let listed = asks_list g.S.Store known c.has_list.new.self.conn list _ c.in_ok-has_list.ensures.answer c.has_list.ensures.ends.remains_open in
    let fits = rw c.in_ok-rank.ensures.passed at c.highest_rank.type_inv in
    let ranked = rw c.in_ok-rank.ensures.passed at c.highest_rank.ensures.found in
    let day = to_z w64 (of_z w64 c.day_number.result) in
    let counted = counts_later c.in_ok-pass.ensures.counted.0.0 (counts_later c.in_ok-has_list.ensures.ends.refusals_counted.0
    (counts_later c.in_ok-grants.ensures.counted.0.0 (counts_store c.in_ok-rank.ensures.counted.0.0))) in
    let found = asks g.S.Store listed c.grants_of-grants.ensures c.in_ok-grants.ensures.passed in record {
      answer = λ clean kept up. (found.over clean kept).1;
      ends = fails_ends g.S.Store (fails_at g.S.Store found faults.Store refl) counted (Err faults.Store) refl (λ why. inr (λ standing same. c.in-None.ensures.none refl standing
          (same ∙ sym (to_z-of_z w64 c.in_ok-rank.rank (record { sfits = assumption fits }) ∙ standing_is person list c.args.day day c.in_ok-rank.rank a
          (to_z-of_z w64 c.day_number.result (record { sfits = c.day_number.type_inv }) ∙ c.day_number.ensures)
          (ranked (filter (is_grant_of person list) a.grants) (c.deref.ensures.value ∙ why.0.1)))))) _;
      writes_nothing = search rules;
    }
