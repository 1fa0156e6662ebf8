use Rattle.std.proofs.Common.{◌∙◌, subst, w64}
use Rattle.std.proofs.lemmas.Int.{to_z-of_z}
use Rattle.archive_model.specs.Commands.{withdraw}
use Rattle.archive_model.specs.Machine.{archive_changed_by}
use Rattle.archive_tables.specs.Statements.{set_withdrawn_statement, IsStatementRefused}
use Rattle.archive_store.proofs.CarryLemmas.{puts_passed}
use Rattle.archive_store.proofs.store.Store.write_withdrawal.Goals as goal

pub returns : goal.returns
returns g c = λ found.
    let list = c.args.list.now in
    let key = c.as_str-key.ensures in
    let party = to_z-of_z w64 c.number.result (record { sfits = c.number.type_inv }) ∙ c.number.ensures in
    puts_passed g.S.Store c.set_withdrawn-set.ensures c.pass.ensures.passed c.pass.ensures.kind c.pass.ensures.counted.0
    (λ a need. (tt, λ i. archive_changed_by (withdraw list (key i) (party i)) a))
    (λ db need refused. subst (λ s. IsStatementRefused s db) (λ i. set_withdrawn_statement list (key i) (party i)) refused)
