use Rattle.std.proofs.Common.{◌≡◌, ◌∙◌, ap, refl}
use Rattle.std.specs.Prelude.{None, option_copied, option_map}
use Rattle.std.proofs.lemmas.Result.{IfOk-weaker}
use Rattle.archive_model.specs.Messages.{archived_message}
use Rattle.archive_model.specs.Questions.{message_of}
use Rattle.archive_memory.specs.Entries.{message_in}
use Rattle.archive_memory.specs.State.{archive_in_memory, refusal_count}
use Rattle.archive_memory.proofs.StateLemmas.{answers, found_is}
use Rattle.archive_memory.proofs.state.MemoryArchiveArchiveStore.find.Goals as goal

pub returns-clause-answer : goal.returns-clause-answer
returns-clause-answer c =
    let a = archive_in_memory c.args.self.now in
    let found : option_map message_in (option_copied c.find_message.result) ≡ message_of a c.args.list.now c.args.key.now = cc in
    answers c.args.self.now (record c.args.self.now { refusals = c.pass.new.self }) (refusal_count c.args.self.now) c.pass.new.self c.copy_found-found.result c.pass.result (λ _. None)
    (λ b copy. option_map (archived_message c.args.list.now) copy ≡ message_of b c.args.list.now c.args.key.now) refl c.pass.ensures refl
    (IfOk-weaker c.copy_found-found.result _ _
    (λ copy is. ap (option_map (archived_message c.args.list.now)) is ∙ found_is c.args.list.now c.args.key.now a.messages (option_copied c.find_message.result) found) c.copy_found-found.ensures)
