use Rattle.std.proofs.Common.{rules}
use Rattle.archive_desk.specs.Causes.{IsAddressUnreadable}
use Rattle.archive_desk.proofs.EndLemmas.{handed_on}
use Rattle.archive_desk.proofs.viewing.find_address.Goals as goal

pub returns-in_err-address-clause-ends : goal.returns-in_err-address-clause-ends
returns-in_err-address-clause-ends g c =
    let name = c.args.name.now in
    handed_on g.S.ArchiveState c.args.store.now c.address.new.self (λ a. IsAddressUnreadable a name) c.in_err-address.field-0.0 (search rules) (λ cause. cause) c.in_err-address.ensures.ends
    c.from_residual.result c.from_residual.ensures.1
