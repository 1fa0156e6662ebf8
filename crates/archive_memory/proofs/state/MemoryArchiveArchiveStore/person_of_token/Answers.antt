use Rattle.std.proofs.Common.{◌≡◌, ◌∙◌, refl}
use Rattle.std.specs.Prelude.{None, option_copied, option_map, string_bytes}
use Rattle.std.proofs.lemmas.Result.{IfOk-weaker}
use Rattle.archive_model.specs.Questions.{person_of_token}
use Rattle.archive_memory.specs.State.{archive_in_memory, refusal_count}
use Rattle.archive_memory.proofs.StateLemmas.{answers}
use Rattle.archive_memory.proofs.state.MemoryArchiveArchiveStore.person_of_token.Goals as goal

pub returns-clause-answer : goal.returns-clause-answer
returns-clause-answer c =
    let a = archive_in_memory c.args.self.now in
    let found : option_copied c.name_of_token.result ≡ person_of_token a c.args.token.now = cc in
    answers c.args.self.now (record c.args.self.now { refusals = c.pass.new.self }) (refusal_count c.args.self.now) c.pass.new.self c.copy_text-name.result c.pass.result (λ _. None)
    (λ b copy. option_map string_bytes copy ≡ person_of_token b c.args.token.now) refl c.pass.ensures refl
    (IfOk-weaker c.copy_text-name.result _ _ (λ copy is. is ∙ found) c.copy_text-name.ensures)
