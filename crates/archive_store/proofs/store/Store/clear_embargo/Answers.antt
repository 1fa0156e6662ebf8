use Rattle.std.proofs.Common.{subst}
use Rattle.archive_model.specs.Commands.{lift}
use Rattle.archive_model.specs.Machine.{archive_changed_by}
use Rattle.archive_tables.specs.Statements.{clear_embargo_statement, IsStatementRefused}
use Rattle.archive_store.proofs.CarryLemmas.{puts_passed}
use Rattle.archive_store.proofs.store.Store.clear_embargo.Goals as goal

pub returns : goal.returns
returns g c = λ found.
    let list = c.args.list.now in
    let key = c.as_str.ensures in
    puts_passed g.S.Store c.clear_embargo-freed.ensures c.pass.ensures.passed c.pass.ensures.kind c.pass.ensures.counted.0
    (λ a need. (tt, λ i. archive_changed_by (lift list (key i)) a))
    (λ db need refused. subst (λ s. IsStatementRefused s db) (λ i. clear_embargo_statement list (key i)) refused)
