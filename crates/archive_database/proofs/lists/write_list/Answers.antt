use Rattle.std.proofs.Common.{◌⊎◌, Some, inl, inr, ◌∙◌}
use Rattle.sqlite.specs.Held.{state}
use Rattle.archive_tables.specs.Calls.{IsMemoryOrDiskError}
use Rattle.archive_tables.proofs.CauseLemmas.{carried}
use Rattle.archive_tables.proofs.CrashLemmas.{never_adds}
use Rattle.archive_tables.proofs.EndLemmas.{archive_stays}
use Rattle.archive_tables.proofs.LastLemmas.{lasts_then}
use Rattle.archive_tables.proofs.RunLemmas.{on_fault}
use Rattle.archive_database.specs.Lists.{IsListRefused}
use Rattle.archive_database.proofs.CauseLemmas.{caused_since, held_or_back, both_held, both_quiet, both_stored}
use Rattle.archive_database.proofs.lists.write_list.Goals as goal

pub returns-clause-written : goal.returns-clause-written
returns-clause-written g c = λ clean db held.
    let said = both_held c.in_ok-add_list.ensures c.in_ok-add_option.ensures db held (c.in_ok-commit.ensures.ends.remains_open.disk_was_clean clean) in
    let kept = c.in_ok-commit.ensures.held clean db said.0 in
    (kept.0, archive_stays kept.1 ∙ said.1)

pub returns-in_err-add_list-clause-written : goal.returns-in_err-add_list-clause-written
returns-in_err-add_list-clause-written g c = λ clean db held.
    on_fault _ _ c.from_residual.result c.from_residual.ensures.1
    (held_or_back db (state g.S.Store c.args.conn.now) (state g.S.Store c.add_list.new.conn) (c.in_err-add_list.ensures.answer_holds clean (Some db) held))

pub returns-in_err-add_option-clause-written : goal.returns-in_err-add_option-clause-written
returns-in_err-add_option-clause-written g c = λ clean db held.
    let listed = c.in_ok-add_list.ensures.answer_holds (c.in_err-add_option.ensures.ends_call.remains_open.disk_was_clean clean) (Some db) held tt in
    on_fault _ _ c.from_residual-in_err-add_option.result c.from_residual-in_err-add_option.ensures.1
    (held_or_back db (state g.S.Store c.add_list.new.conn) (state g.S.Store c.add_option.new.conn) (c.in_err-add_option.ensures.answer_holds clean (Some db) listed.0))

pub returns-in_err-commit-clause-written : goal.returns-in_err-commit-clause-written
returns-in_err-commit-clause-written g c = λ clean db held.
    let said = both_held c.in_ok-add_list.ensures c.in_ok-add_option.ensures db held (c.in_err-commit.ensures.ends.remains_open.disk_was_clean clean) in
    on_fault _ _ c.from_residual-in_err-commit.result c.from_residual-in_err-commit.ensures.1
    (held_or_back db (state g.S.Store c.add_option.new.conn) (state g.S.Store c.commit.new.conn) (c.in_err-commit.ensures.held clean db said.0))

-- ---- why it fails

pub returns-in_err-add_list-clause-caused : goal.returns-in_err-add_list-clause-caused
returns-in_err-add_list-clause-caused g c = λ clean db held free.
    let old = state g.S.Store c.args.conn.now in
    let new = state g.S.Store c.add_list.new.conn in
    carried c.from_residual.result c.in_err-add_list.field-0.0 (λ e. IsMemoryOrDiskError old new e ⊎ IsListRefused c.args.name.now old.now) c.from_residual.ensures.1
    (elim (c.in_err-add_list.ensures.fault_has_cause clean (Some db) held free) [ inl why ↦ inl why | inr refused ↦ inr (inl refused) ])

pub returns-in_err-add_option-clause-caused : goal.returns-in_err-add_option-clause-caused
returns-in_err-add_option-clause-caused g c = λ clean db held free.
    let old = state g.S.Store c.args.conn.now in
    let mid = state g.S.Store c.add_list.new.conn in
    let new = state g.S.Store c.add_option.new.conn in
    let error = c.in_err-add_option.field-0.0 in
    let clean_1 = c.in_err-add_option.ensures.ends_call.remains_open.disk_was_clean clean in
    let first = c.in_ok-add_list.ensures.ends_call.remains_open in
    let listed = c.in_ok-add_list.ensures.answer_holds clean_1 (Some db) held tt in
    let made = c.in_ok-add_list.ensures.executes_statement clean_1 (Some db) held free in
    let why = c.in_err-add_option.ensures.fault_has_cause clean (Some db) listed.0 (first.step_limit_is_same ∙ free) in
    carried c.from_residual-in_err-add_option.result error (λ e. IsMemoryOrDiskError old new e ⊎ IsListRefused c.args.name.now old.now) c.from_residual-in_err-add_option.ensures.1
    (elim why [ inl cause ↦ inl (caused_since old mid new error first cause) | inr refused ↦ inr (inr (mid.now, made, refused)) ])

pub returns-in_err-commit-clause-caused : goal.returns-in_err-commit-clause-caused
returns-in_err-commit-clause-caused g c = λ clean db held free.
    let old = state g.S.Store c.args.conn.now in
    let mid = state g.S.Store c.add_option.new.conn in
    let new = state g.S.Store c.commit.new.conn in
    let error = c.in_err-commit.field-0.0 in
    let said = both_held c.in_ok-add_list.ensures c.in_ok-add_option.ensures db held (c.in_err-commit.ensures.ends.remains_open.disk_was_clean clean) in
    let first = lasts_then _ _ _ c.add_list.ensures.ends_call.remains_open c.add_option.ensures.ends_call.remains_open in
    carried c.from_residual-in_err-commit.result error (λ e. IsMemoryOrDiskError old new e ⊎ IsListRefused c.args.name.now old.now) c.from_residual-in_err-commit.ensures.1
    (inl (caused_since old mid new error first (c.in_err-commit.ensures.ends.fault_has_cause clean said.0.is_open said.0.autocommit)))

-- ---- what a stop of the machine leaves

pub returns-in_err-add_list-clause-crash : goal.returns-in_err-add_list-clause-crash
returns-in_err-add_list-clause-crash g c = λ db held clean x may.
    inl (never_adds g.S.Store c.args.conn.now c.add_list.new.conn db _ (c.add_list.ensures.crash (Some db) held tt) clean x may)

pub returns-in_err-add_option-clause-crash : goal.returns-in_err-add_option-clause-crash
returns-in_err-add_option-clause-crash g c = λ db held clean x may. inl (both_quiet c.in_ok-add_list.ensures c.in_err-add_option.ensures db held clean x may)

pub returns-in_err-commit-clause-crash : goal.returns-in_err-commit-clause-crash
returns-in_err-commit-clause-crash g c = λ db held. both_stored c.in_ok-add_list.ensures c.in_ok-add_option.ensures db held c.commit.ensures.ends

pub returns-clause-crash : goal.returns-clause-crash
returns-clause-crash g c = λ db held. both_stored c.in_ok-add_list.ensures c.in_ok-add_option.ensures db held c.commit.ensures.ends
