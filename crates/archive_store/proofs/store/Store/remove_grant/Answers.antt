use Rattle.std.proofs.Common.{◌∙◌, subst, w64}
use Rattle.std.proofs.lemmas.Int.{to_z-of_z}
use Rattle.archive_model.specs.Commands.{revoke}
use Rattle.archive_model.specs.Machine.{archive_changed_by}
use Rattle.archive_tables.specs.Statements.{delete_grant_statement, IsStatementRefused}
use Rattle.archive_store.proofs.CarryLemmas.{puts_passed}
use Rattle.archive_store.proofs.store.Store.remove_grant.Goals as goal

pub returns : goal.returns
returns g c = λ found.
    let person = c.args.person.now in
    let list = c.args.list.now in
    let rank = to_z-of_z w64 c.rank-rank.result (record { sfits = c.rank-rank.type_inv }) ∙ c.rank-rank.ensures in
    puts_passed g.S.Store c.remove_grant-removed.ensures c.pass.ensures.passed c.pass.ensures.kind c.pass.ensures.counted.0
    (λ a need. (tt, λ i. archive_changed_by (revoke person list (rank i)) a))
    (λ db need refused. subst (λ s. IsStatementRefused s db) (λ i. delete_grant_statement person list (rank i)) refused)
