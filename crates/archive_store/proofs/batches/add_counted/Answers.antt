use Rattle.std.proofs.Common.{sym, ◌∙◌, ap, subst, inl, inr, refl}
use Rattle.std.proofs.lemmas.Result.{err_from_is_err_and}
use Rattle.sqlite.specs.Held.{state}
use Rattle.archive_tables.proofs.EndLemmas.{rests_behind}
use Rattle.archive_tables.proofs.RunLemmas.{on_fault}
use Rattle.archive_store.proofs.BatchLemmas.{known_over, full_over, new_over, none_of, new_is, new_crash}
use Rattle.archive_model.specs.Keys.{item_key}
use Rattle.archive_tables.specs.Statements.{IsStatementRefused, StatementExecutesTo}
use Rattle.archive_database.specs.Taking.{insert_item_statement}
use Rattle.archive_store.proofs.FindLemmas.{more_since, saw_same}
use Rattle.archive_store.proofs.StopLemmas.{blame_disk, carried_as, stopped_by, blame_fault, same_statement}
use Rattle.archive_store.proofs.batches.add_counted.Goals as goal

pub returns-in_err-pass-clause-step : goal.returns-in_err-pass-clause-step
returns-in_err-pass-clause-step g c = λ clean behind k n.
    let error = err_from_is_err_and c.has_message-known.result c.in_err-pass.ensures.passed in
    on_fault _ _ c.from_residual.result c.from_residual.ensures.1 (rw error.1 at (c.has_message-known.ensures.answer_holds clean behind k))

pub returns-then-branch-clause-step : goal.returns-then-branch-clause-step
returns-then-branch-clause-step g c = λ clean behind k n.
    let asked = rw c.in_ok-pass.ensures.passed at (c.has_message-known.ensures.answer_holds clean behind k) in
    known_over behind (state g.S.Store c.args.store.now.conn) (state g.S.Store c.has_message-known.new.conn) c.args.list.now c.args.item.now c.args.count.now n
    c.as_str.result.now c.if-is_too_large.ensures
    (c.as_str.ensures ∙ c.of-key.ensures) (sym c.if-branch.true ∙ asked.0) asked.1

pub returns-then-count-clause-step : goal.returns-then-count-clause-step
returns-then-count-clause-step g c = λ clean behind k n.
    let asked = rw c.in_ok-pass.ensures.passed at (c.has_message-known.ensures.answer_holds clean behind k) in
    full_over behind (state g.S.Store c.args.store.now.conn) (state g.S.Store c.has_message-known.new.conn) c.args.list.now c.args.item.now c.args.count.now n
    c.as_str.result.now c.if-is_too_large.ensures
    (c.as_str.ensures ∙ c.of-key.ensures) (sym c.if-branch.false ∙ asked.0) c.if-count.true asked.1

pub returns-in_err-pass_fault-clause-step : goal.returns-in_err-pass_fault-clause-step
returns-in_err-pass_fault-clause-step g c = λ clean behind k n.
    let asked = rw c.in_ok-pass.ensures.passed at (c.has_message-known.ensures.answer_holds (c.insert_message-taken.ensures.ends.remains_open.disk_was_clean clean) behind k) in
    let error = err_from_is_err_and c.insert_message-taken.result c.in_err-pass_fault.ensures.passed in
    on_fault _ _ c.from_residual-in_err-pass_fault.result c.from_residual-in_err-pass_fault.ensures.1
    (rests_behind behind (state g.S.Store c.args.store.now.conn) (state g.S.Store c.has_message-known.new.conn) (state g.S.Store c.insert_message-taken.new.conn) asked.1.1
    (rw error.1 at (c.insert_message-taken.ensures.taken clean behind asked.1.0)))

pub returns-clause-step : goal.returns-clause-step
returns-clause-step g c = λ clean behind k n.
    let list = c.args.list.now in
    let old = state g.S.Store c.args.store.now.conn in
    let mid = state g.S.Store c.has_message-known.new.conn in
    let asked = rw c.in_ok-pass.ensures.passed at (c.has_message-known.ensures.answer_holds (c.insert_message-taken.ensures.ends.remains_open.disk_was_clean clean) behind k) in
    let none = sym c.if-branch.false ∙ asked.0 in
    let written = (rw c.in_ok-pass_fault.ensures.passed at (c.insert_message-taken.ensures.taken clean behind asked.1.0))
    (none_of old mid list c.as_str.result.now c.of-key.result c.as_str.ensures none asked.1.1) in
    new_over behind old (state g.S.Store c.insert_message-taken.new.conn) list c.args.item.now c.args.count.now n c.as_str.result.now c.if-is_too_large.ensures
    c.of-key.result mid c.as_str.ensures c.of-key.ensures none c.if-count.false asked.1 written

-- ---- what it makes of the rows, and why it fails

pub returns-then-is_too_large-clause-rows : goal.returns-then-is_too_large-clause-rows
returns-then-is_too_large-clause-rows g c = λ clean behind held free. refl

pub returns-then-branch-clause-rows : goal.returns-then-branch-clause-rows
returns-then-branch-clause-rows g c = λ clean behind held free.
    saw_same (state g.S.Store c.args.store.now.conn) (state g.S.Store c.has_message-known.new.conn) c.in_ok-pass.ensures.passed (c.has_message-known.ensures.same_database clean)

pub returns-then-count-clause-rows : goal.returns-then-count-clause-rows
returns-then-count-clause-rows g c = λ clean behind held free.
    saw_same (state g.S.Store c.args.store.now.conn) (state g.S.Store c.has_message-known.new.conn) c.in_ok-pass.ensures.passed (c.has_message-known.ensures.same_database clean)

pub returns-in_err-pass-clause-rows : goal.returns-in_err-pass-clause-rows
returns-in_err-pass-clause-rows g c = λ clean behind held free.
    stopped_by _ c.from_residual.result c.in_err-pass.field-0.0 _ c.from_residual.ensures.1
    (λ it. inl (blame_disk (state g.S.Store c.args.store.now.conn) (state g.S.Store c.has_message-known.new.conn) c.has_message-known.result c.in_err-pass.field-0.0 c.in_err-pass.ensures.passed
    (c.has_message-known.ensures.fault_has_cause clean behind held free) it))

pub returns-in_err-pass_fault-clause-rows : goal.returns-in_err-pass_fault-clause-rows
returns-in_err-pass_fault-clause-rows g c = λ clean behind held free.
    let list = c.args.list.now in
    let item = c.args.item.now in
    let old = state g.S.Store c.args.store.now.conn in
    let mid = state g.S.Store c.has_message-known.new.conn in
    let new = state g.S.Store c.insert_message-taken.new.conn in
    let was = c.insert_message-taken.ensures.ends.remains_open.disk_was_clean clean in
    let k = c.as_str.result.now in
    let same = saw_same old mid c.in_ok-pass.ensures.passed (c.has_message-known.ensures.same_database was) in
    let asked = rw c.in_ok-pass.ensures.passed at (c.has_message-known.ensures.answer_holds was behind held) in
    let none = sym c.if-branch.false ∙ asked.0 in
    let statement = insert_item_statement list c.of-key.result item in
    stopped_by _ c.from_residual-in_err-pass_fault.result c.in_err-pass_fault.field-0.0 _ c.from_residual-in_err-pass_fault.ensures.1
    (λ it. elim (blame_fault mid new (IsStatementRefused statement mid.now) c.insert_message-taken.result c.in_err-pass_fault.field-0.0 c.in_err-pass_fault.ensures.passed
    (c.insert_message-taken.ensures.caused clean behind asked.1.0 (c.has_message-known.ensures.ends_call.remains_open.step_limit_is_same ∙ free)) it) [
      | inl more ↦ inl (more_since old mid new c.has_message-known.ensures.ends_call.remains_open more)
      | inr refused ↦ inr (
        same_statement old.now (ap (λ key. insert_item_statement list key item) c.of-key.ensures) (subst (IsStatementRefused statement) same refused),
        (λ n. carried_as _ _ (new_is behind old new list item c.args.count.now n k c.if-is_too_large.ensures c.of-key.result c.as_str.ensures c.of-key.ensures none c.if-count.false) tt),
      )
    ])

pub returns-clause-rows : goal.returns-clause-rows
returns-clause-rows g c = λ clean behind held free.
    let list = c.args.list.now in
    let item = c.args.item.now in
    let old = state g.S.Store c.args.store.now.conn in
    let mid = state g.S.Store c.has_message-known.new.conn in
    let new = state g.S.Store c.insert_message-taken.new.conn in
    let was = c.insert_message-taken.ensures.ends.remains_open.disk_was_clean clean in
    let same = saw_same old mid c.in_ok-pass.ensures.passed (c.has_message-known.ensures.same_database was) in
    let asked = rw c.in_ok-pass.ensures.passed at (c.has_message-known.ensures.answer_holds was behind held) in
    let made = (rw c.in_ok-pass_fault.ensures.passed at (c.insert_message-taken.ensures.made clean behind asked.1.0 (c.has_message-known.ensures.ends_call.remains_open.step_limit_is_same ∙ free))) in
    subst (λ db. StatementExecutesTo (insert_item_statement list (item_key item) item) db new.now) same
    (subst (λ key. StatementExecutesTo (insert_item_statement list key item) mid.now new.now) c.of-key.ensures made)

-- ---- what a stop leaves

pub returns-then-is_too_large-clause-crash : goal.returns-then-is_too_large-clause-crash
returns-then-is_too_large-clause-crash g c = λ behind held n clean db may. inl may

pub returns-in_err-pass-clause-crash : goal.returns-in_err-pass-clause-crash
returns-in_err-pass-clause-crash g c = λ behind held n clean db may. inl (c.has_message-known.ensures.crash_adds_nothing clean db may)

pub returns-then-branch-clause-crash : goal.returns-then-branch-clause-crash
returns-then-branch-clause-crash g c = λ behind held n clean db may. inl (c.has_message-known.ensures.crash_adds_nothing clean db may)

pub returns-then-count-clause-crash : goal.returns-then-count-clause-crash
returns-then-count-clause-crash g c = λ behind held n clean db may. inl (c.has_message-known.ensures.crash_adds_nothing clean db may)

pub returns-in_err-pass_fault-clause-crash : goal.returns-in_err-pass_fault-clause-crash
returns-in_err-pass_fault-clause-crash g c = λ behind held n clean db may.
    let was = c.insert_message-taken.ensures.ends.remains_open.disk_was_clean in
    let asked = rw c.in_ok-pass.ensures.passed at (c.has_message-known.ensures.answer_holds (was clean) behind held) in
    new_crash g.S.Store c.args.store.now.conn c.has_message-known.new.conn c.insert_message-taken.new.conn behind c.args.list.now c.args.item.now c.args.count.now n
    c.as_str.result.now c.of-key.result c.if-is_too_large.ensures c.as_str.ensures c.of-key.ensures (sym c.if-branch.false ∙ asked.0) c.if-count.false asked.1
    c.has_message-known.ensures.crash_adds_nothing was c.insert_message-taken.ensures.crash clean db may

pub returns-clause-crash : goal.returns-clause-crash
returns-clause-crash g c = λ behind held n clean db may.
    let was = c.insert_message-taken.ensures.ends.remains_open.disk_was_clean in
    let asked = rw c.in_ok-pass.ensures.passed at (c.has_message-known.ensures.answer_holds (was clean) behind held) in
    new_crash g.S.Store c.args.store.now.conn c.has_message-known.new.conn c.insert_message-taken.new.conn behind c.args.list.now c.args.item.now c.args.count.now n
    c.as_str.result.now c.of-key.result c.if-is_too_large.ensures c.as_str.ensures c.of-key.ensures (sym c.if-branch.false ∙ asked.0) c.if-count.false asked.1
    c.has_message-known.ensures.crash_adds_nothing was c.insert_message-taken.ensures.crash clean db may
