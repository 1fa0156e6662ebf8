use Rattle.std.proofs.Common.{rules, ◌∙◌, sym, ap}
use Rattle.sqlite.specs.Effect.{Database}
use Rattle.sqlite.specs.Held.{state}
use Rattle.archive_tables.specs.Tables.{archive_in_trees, archive_of}
use Rattle.archive_store.specs.Walking.{selected_numbers}
use Rattle.archive_store.proofs.AskLemmas.{asks, asks_list, begins, counts_later, fails, fails_ends, fails_list, of_rows}
use Rattle.archive_store.proofs.FindLemmas.{answers_read, blames_read, finds_read, not_both, not_there, passed_rows, stops, when_ok, is_there}
use Rattle.archive_store.proofs.walking.find_places.Goals as goal

-- ---- where it finds none

pub returns-in_err-has_list : goal.returns-in_err-has_list
returns-in_err-has_list g c =
    let stop = fails_list g.S.Store c.args.list.now c.in_err-has_list.field-0.0 c.in_err-has_list.ensures.ends c.in_err-has_list.ensures.answer (begins g.S.Store c.args.store.now.conn) in record {
      refused = stops c.from_residual.result c.in_err-has_list.field-0.0 c.from_residual.ensures.1 stop.none _ _ (stop.lasts, stop.over);
      found = search rules;
      ends = fails_ends g.S.Store stop c.in_err-has_list.ensures.ends.refusals_counted c.from_residual.result c.from_residual.ensures.1 (λ more. more) _;
      writes_nothing = search rules;
    }

pub returns-then-not-branch-clause-refused : goal.returns-then-not-branch-clause-refused
returns-then-not-branch-clause-refused g c = (
  c.has_list.ensures.ends.remains_open,
  (λ returned kept.
      let has = c.in_ok-has_list.ensures.answer returned kept in
      (has.0.0, (has.0.1, not_there c.args.list.now (archive_of (state g.S.Store c.args.store.now.conn)) (sym c.if-not-branch.true ∙ has.2)))),
)

pub returns-in_err-shown : goal.returns-in_err-shown
returns-in_err-shown g c =
    let listed = asks_list g.S.Store (begins g.S.Store c.args.store.now.conn) c.has_list.new.self.conn c.args.list.now _ c.in_ok-has_list.ensures.answer c.has_list.ensures.ends.remains_open in
    let stop = fails g.S.Store listed c.in_err-shown.field-0.0 (of_rows g.S.Store c.show_places.ensures) c.in_err-shown.ensures.passed c.in_err-shown.ensures.kind in record {
      refused = stops c.from_residual-in_err-shown.result c.in_err-shown.field-0.0 c.from_residual-in_err-shown.ensures.1 stop.none _ _ (stop.lasts, stop.over);
      found = search rules;
      ends = fails_ends g.S.Store stop (counts_later c.in_ok-has_list.ensures.ends.refusals_counted.0 c.in_err-shown.ensures.counted.0)
          c.from_residual-in_err-shown.result c.from_residual-in_err-shown.ensures.1 (λ more. more) _;
      writes_nothing = search rules;
    }

pub returns-clause-refused : goal.returns-clause-refused
returns-clause-refused g c =
    let listed = asks_list g.S.Store (begins g.S.Store c.args.store.now.conn) c.has_list.new.self.conn c.args.list.now _ c.in_ok-has_list.ensures.answer c.has_list.ensures.ends.remains_open in
    let shown = asks g.S.Store listed (of_rows g.S.Store c.show_places.ensures) c.in_ok-shown.ensures.passed in
    answers_read c.read_rowids.result c.pass_fault.result _ _ _ c.pass_fault.ensures.passed c.pass_fault.ensures.kind c.read_rowids.ensures.read (λ places read. tt)
    (shown.lasts, (λ returned kept up. (shown.over returned kept).1))

-- ---- what it finds

pub returns-clause-found : goal.returns-clause-found
returns-clause-found g c = λ returned kept.
    let has = c.in_ok-has_list.ensures.answer (c.show_places.ensures.ends_call.remains_open.disk_was_clean returned) kept in
    let shown = passed_rows c.show_places.ensures c.in_ok-shown.ensures.passed returned has.0.0 in
    finds_read c.read_rowids.result c.pass_fault.result _ _ c.pass_fault.ensures.passed c.read_rowids.ensures.read
    (λ places read. (
      is_there c.args.list.now (archive_of (state g.S.Store c.args.store.now.conn)) (sym c.if-not-branch.false ∙ has.2),
      shown.2,
      ap (λ (d : Database). archive_in_trees d.trees) shown.1 ∙ has.0.1,
      read _ (c.deref.ensures.value ∙ shown.0) ∙ ap (λ (d : Database). selected_numbers d.trees c.args.list.now c.args.which.now) (sym shown.1),
    ))
    tt

pub returns-clause-ends : goal.returns-clause-ends
returns-clause-ends g c = record {
  remains_open = search rules;
  was_open = λ returned. when_ok c.pass_fault.result _ (c.in_ok-has_list.ensures.was_open (c.show_places.ensures.ends_call.remains_open.disk_was_clean returned));
  refusal_is_possible = search rules;
  refusals_counted = search rules;
  fault_has_cause = λ returned kept free.
      let has = c.in_ok-has_list.ensures.answer (c.show_places.ensures.ends_call.remains_open.disk_was_clean returned) kept in
      let shown = passed_rows c.show_places.ensures c.in_ok-shown.ensures.passed returned has.0.0 in
      blames_read c.read_rowids.result c.pass_fault.result _ c.pass_fault.ensures.passed c.read_rowids.ensures.unread
      (λ e unread is. not_both e (unread _ (c.deref.ensures.value ∙ shown.0)) is);
}
