use Rattle.std.proofs.Common.{pos, subst}
use Rattle.archive_model.specs.Commands.{restore}
use Rattle.archive_model.specs.Machine.{archive_changed_by}
use Rattle.archive_tables.specs.Statements.{set_withdrawn_statement, IsStatementRefused}
use Rattle.archive_store.proofs.CarryLemmas.{puts_passed}
use Rattle.archive_store.proofs.store.Store.clear_withdrawal.Goals as goal

pub returns : goal.returns
returns g c = λ found.
    let list = c.args.list.now in
    let key = c.as_str.ensures in
    puts_passed g.S.Store c.set_withdrawn-set.ensures c.pass.ensures.passed c.pass.ensures.kind c.pass.ensures.counted.0
    (λ a need. (tt, λ i. archive_changed_by (restore list (key i)) a))
    (λ db need refused. subst (λ s. IsStatementRefused s db) (λ i. set_withdrawn_statement list (key i) (pos 0)) refused)
