use Rattle.std.proofs.Common.{◌∙◌, ◌++◌, ◌∷◌, [], ap, sym, subst}
use Rattle.std.specs.Prelude.{map, if◌then◌else◌}
use Rattle.archive_model.specs.Addresses.{normalize_address}
use Rattle.archive_model.specs.Machine.{with_replaced_address}
use Rattle.archive_model.specs.Records.{Address}
use Rattle.archive_tables.specs.Statements.{update_address_statement, insert_address_statement, IsStatementRefused}
use Rattle.archive_store.proofs.CarryLemmas.{puts_passed}
use Rattle.archive_store.proofs.store.Store.write_address.Goals as goal

pub returns-then-found : goal.returns-then-found
returns-then-found g c =
    let kept = c.deref.ensures ∙ c.in-Ok.ensures in
    let given : Address = record { person = c.args.person.now; address = normalize_address c.args.address.now } in
    puts_passed g.S.Store c.change_address-put.ensures c.pass.ensures.passed c.pass.ensures.kind c.pass.ensures.counted.0
    (λ a need. (
      tt,
      (λ i. record a { addresses = map (with_replaced_address (record given { address = kept i })) a.addresses })
          ∙ ap (λ b. record a { addresses = if b then map (with_replaced_address given) a.addresses else a.addresses ++ given ∷ [] }) (sym c.if-found.true ∙ ap (λ f. f.address) need.1),
    ))
    (λ db need refused. subst (λ s. IsStatementRefused s db) ((λ i. update_address_statement (record given { address = kept i }))
    ∙ ap (λ b. if b then update_address_statement given else insert_address_statement given) (sym c.if-found.true ∙ ap (λ f. f.address) need.1)) refused)

pub returns : goal.returns
returns g c =
    let kept = c.deref-else-found.ensures ∙ c.in-Ok.ensures in
    let given : Address = record { person = c.args.person.now; address = normalize_address c.args.address.now } in
    puts_passed g.S.Store c.add_address-put.ensures c.pass-else-found.ensures.passed c.pass-else-found.ensures.kind c.pass-else-found.ensures.counted.0
    (λ a need. (
      tt,
      (λ i. record a { addresses = a.addresses ++ record given { address = kept i } ∷ [] })
          ∙ ap (λ b. record a { addresses = if b then map (with_replaced_address given) a.addresses else a.addresses ++ given ∷ [] }) (sym c.if-found.false ∙ ap (λ f. f.address) need.1),
    ))
    (λ db need refused. subst (λ s. IsStatementRefused s db) ((λ i. insert_address_statement (record given { address = kept i }))
    ∙ ap (λ b. if b then update_address_statement given else insert_address_statement given) (sym c.if-found.false ∙ ap (λ f. f.address) need.1)) refused)
