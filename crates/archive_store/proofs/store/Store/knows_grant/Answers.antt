use Rattle.std.proofs.Common.{◌≡◌, ◌∙◌, subst, w64}
use Rattle.std.proofs.lemmas.Int.{to_z-of_z}
use Rattle.archive_model.specs.Questions.{has_grant}
use Rattle.archive_store.specs.Carrying.{ReadsArchive}
use Rattle.archive_store.proofs.CarryLemmas.{looks_passed}
use Rattle.archive_store.proofs.store.Store.knows_grant.Goals as goal

pub returns : goal.returns
returns g c = subst (λ rank. ReadsArchive g.S.Store c.args.self.now (record { conn = c.has_grant-had.new.conn; wants = c.pass.new.self }) c.pass.result
    (λ a is. is ≡ has_grant a c.args.person.now c.args.list.now rank))
    (to_z-of_z w64 c.rank.result (record { sfits = c.rank.type_inv }) ∙ c.rank.ensures)
    (looks_passed g.S.Store c.pass.ensures.passed c.pass.ensures.kind c.pass.ensures.counted.0 c.has_grant-had.ensures)
