use Rattle.std.proofs.Common.{◌≡◌, rules}
use Rattle.archive_desk.specs.Causes.{IsRankUnknown}
use Rattle.archive_desk.proofs.EndLemmas.{handed_on}
use Rattle.archive_desk.proofs.viewing.find_standing.Goals as goal

pub returns-in_err-standing-clause-ends : goal.returns-in_err-standing-clause-ends
returns-in_err-standing-clause-ends g c =
    let ask = c.args.ask.now in
    let name = c.args.name.now in
    let list : c.ask.inside.list.now ≡ ask.list = search rules in
    let day : c.ask.inside.day ≡ ask.day = search rules in
    handed_on g.S.ArchiveState c.args.store.now c.standing.new.self (λ a. IsRankUnknown a ask name) c.in_err-standing.field-0.0 (search rules) (λ cause. cause)
    (rw (list, day) at c.in_err-standing.ensures.ends) c.from_residual.result c.from_residual.ensures.1
