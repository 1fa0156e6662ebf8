use Rattle.std.proofs.Common.{◌≡◌, ◌∙◌, subst, sym}
use Rattle.archive_model.specs.Questions.{has_message, is_message_at_key}
use Rattle.archive_store.specs.Carrying.{ReadsArchive}
use Rattle.archive_store.proofs.CarryLemmas.{looks_passed}
use Rattle.archive_store.proofs.StepEquations.{is_some-find}
use Rattle.archive_store.proofs.StopLemmas.{outside}
use Rattle.archive_store.proofs.store.Store.knows_message.Goals as goal

pub returns : goal.returns
returns g c =
    let list = c.args.list.now in
    subst (λ key. ReadsArchive g.S.Store c.args.self.now (record { conn = c.has_message-known.new.conn; wants = c.pass.new.self }) c.pass.result (λ a is. is ≡ has_message a list key))
    c.as_str.ensures (looks_passed g.S.Store c.pass.ensures.passed c.pass.ensures.kind c.pass.ensures.counted.0
    (outside c.has_message-known.ensures (λ a is it. it ∙ sym (is_some-find (is_message_at_key list c.as_str.result.now) a.messages))))
