use Rattle.std.proofs.Common.{◌∙◌, ◌++◌, ◌∷◌, [], ap, sym, subst, w64}
use Rattle.std.specs.Prelude.{map, if◌then◌else◌}
use Rattle.std.proofs.lemmas.Int.{to_z-of_z}
use Rattle.policy_core.specs.Numbers.{grant_kind_rank}
use Rattle.archive_model.specs.Machine.{with_grant_days_of}
use Rattle.archive_model.specs.Questions.{has_grant}
use Rattle.archive_model.specs.Records.{Grant}
use Rattle.archive_tables.specs.Statements.{update_grant_statement, insert_grant_statement, IsStatementRefused}
use Rattle.archive_store.proofs.CarryLemmas.{puts_passed}
use Rattle.archive_store.proofs.store.Store.write_grant.Goals as goal

pub returns-then-found : goal.returns-then-found
returns-then-found g c =
    let rank = to_z-of_z w64 c.rank-rank.result (record { sfits = c.rank-rank.type_inv }) ∙ c.rank-rank.ensures in
    let from = to_z-of_z w64 c.day_number-first.result (record { sfits = c.day_number-first.type_inv }) ∙ c.day_number-first.ensures in
    let until = to_z-of_z w64 c.day_number-last.result (record { sfits = c.day_number-last.type_inv }) ∙ c.day_number-last.ensures in
    let given : Grant = record { person = c.args.person.now; list = c.args.list.now; rank = grant_kind_rank c.args.kind; from_day = c.args.from; until_day = c.args.until } in
    puts_passed g.S.Store c.change_grant-put.ensures c.pass.ensures.passed c.pass.ensures.kind c.pass.ensures.counted.0
    (λ a need. (
      tt,
      (λ i. record a { grants = map (with_grant_days_of (record given { rank = rank i; from_day = from i; until_day = until i })) a.grants })
          ∙ ap (λ b. record a { grants = if b then map (with_grant_days_of given) a.grants else a.grants ++ given ∷ [] }) (sym c.if-found.true ∙ ap (λ f. f.grant) need.1),
    ))
    (λ db need refused. subst (λ s. IsStatementRefused s db) ((λ i. update_grant_statement (record given { rank = rank i; from_day = from i; until_day = until i }))
    ∙ ap (λ b. if b then update_grant_statement given else insert_grant_statement given) (sym c.if-found.true ∙ ap (λ f. f.grant) need.1)) refused)

pub returns-else-found : goal.returns-else-found
returns-else-found g c =
    let person = c.args.person.now in
    let list = c.args.list.now in
    let rank = to_z-of_z w64 c.rank-rank.result (record { sfits = c.rank-rank.type_inv }) ∙ c.rank-rank.ensures in
    let from = to_z-of_z w64 c.day_number-first.result (record { sfits = c.day_number-first.type_inv }) ∙ c.day_number-first.ensures in
    let until = to_z-of_z w64 c.day_number-last.result (record { sfits = c.day_number-last.type_inv }) ∙ c.day_number-last.ensures in
    let given : Grant = record { person = person; list = list; rank = grant_kind_rank c.args.kind; from_day = c.args.from; until_day = c.args.until } in
    puts_passed g.S.Store c.add_grant-put.ensures c.pass-else-found.ensures.passed c.pass-else-found.ensures.kind c.pass-else-found.ensures.counted.0
    (λ a need. (
      ap (has_grant a person list) rank ∙ sym (ap (λ f. f.grant) need.1) ∙ c.if-found.false,
      (λ i. record a { grants = a.grants ++ record given { rank = rank i; from_day = from i; until_day = until i } ∷ [] })
          ∙ ap (λ b. record a { grants = if b then map (with_grant_days_of given) a.grants else a.grants ++ given ∷ [] }) (sym c.if-found.false ∙ ap (λ f. f.grant) need.1),
    ))
    (λ db need refused. subst (λ s. IsStatementRefused s db) ((λ i. insert_grant_statement (record given { rank = rank i; from_day = from i; until_day = until i }))
    ∙ ap (λ b. if b then update_grant_statement given else insert_grant_statement given) (sym c.if-found.false ∙ ap (λ f. f.grant) need.1)) refused)
