use Rattle.std.proofs.Common.{◌∙◌, subst, w64}
use Rattle.std.proofs.lemmas.Int.{to_z-of_z}
use Rattle.archive_model.specs.Commands.{embargo}
use Rattle.archive_model.specs.Machine.{archive_changed_by}
use Rattle.archive_tables.specs.Statements.{set_embargo_statement, IsStatementRefused}
use Rattle.archive_store.proofs.CarryLemmas.{puts_passed}
use Rattle.archive_store.proofs.store.Store.write_embargo.Goals as goal

pub returns : goal.returns
returns g c = λ found.
    let list = c.args.list.now in
    let key = c.as_str-key.ensures in
    let day = to_z-of_z w64 c.day_number-day.result (record { sfits = c.day_number-day.type_inv }) ∙ c.day_number-day.ensures in
    puts_passed g.S.Store c.set_embargo-held.ensures c.pass.ensures.passed c.pass.ensures.kind c.pass.ensures.counted.0
    (λ a need. (tt, λ i. archive_changed_by (embargo list (key i) (day i)) a))
    (λ db need refused. subst (λ s. IsStatementRefused s db) (λ i. set_embargo_statement list (key i) (day i)) refused)
