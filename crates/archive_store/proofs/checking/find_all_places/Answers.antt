use Rattle.std.proofs.Common.{Err, ◌∙◌}
use Rattle.archive_tables.proofs.RunLemmas.{on_fault}
use Rattle.archive_store.proofs.FindLemmas.{passed_on, blames_disk, blames_read, finds_read, not_both, passed_rows, passed_no_rows}
use Rattle.archive_store.proofs.checking.find_all_places.Goals as goal

pub returns-in_err-shown-clause-found : goal.returns-in_err-shown-clause-found
returns-in_err-shown-clause-found g c = λ returned held.
    on_fault _ _ c.from_residual.result c.from_residual.ensures.1 (passed_no_rows _ _ c.all_rowids-shown.ensures c.in_err-shown.ensures.passed returned held)

pub returns-clause-found : goal.returns-clause-found
returns-clause-found g c = λ returned held.
    let shown = passed_rows c.all_rowids-shown.ensures c.in_ok-shown.ensures.passed returned held in
    finds_read c.read_rowids.result c.pass_fault.result _ _ c.pass_fault.ensures.passed c.read_rowids.ensures.read
    (λ places read. (read _ (c.deref.ensures.value ∙ shown.0), (shown.1, shown.2))) (λ up. (shown.1, shown.2))

pub returns-in_err-shown-clause-caused : goal.returns-in_err-shown-clause-caused
returns-in_err-shown-clause-caused g c = λ returned held free.
    passed_on c.from_residual.result c.in_err-shown.field-0.0 _ c.from_residual.ensures.1
    (blames_disk g.S.Store c.args.store.now.conn c.all_rowids-shown.new.conn c.all_rowids-shown.result (Err c.in_err-shown.field-0.0) c.in_err-shown.ensures.passed
    c.all_rowids-shown.ensures.fault_has_cause returned held free)

pub returns-clause-caused : goal.returns-clause-caused
returns-clause-caused g c = λ returned held free.
    let shown = passed_rows c.all_rowids-shown.ensures c.in_ok-shown.ensures.passed returned held in
    blames_read c.read_rowids.result c.pass_fault.result _ c.pass_fault.ensures.passed c.read_rowids.ensures.unread
    (λ e unread is. not_both e (unread _ (c.deref.ensures.value ∙ shown.0)) is)
