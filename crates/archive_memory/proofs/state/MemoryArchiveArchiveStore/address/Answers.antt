use Rattle.std.proofs.Common.{◌≡◌, ◌∙◌, ap, sym, refl, not, if◌then◌else◌}
use Rattle.std.specs.Prelude.{None, Some, option_copied, option_map, string_bytes}
use Rattle.std.proofs.lemmas.Result.{IfOk-weaker}
use Rattle.archive_model.specs.Commands.{no_person}
use Rattle.archive_model.specs.Questions.{address_of, has_person, person_refusal}
use Rattle.archive_memory.specs.State.{archive_in_memory, refusal_count}
use Rattle.archive_memory.proofs.StateLemmas.{answers}
use Rattle.archive_memory.proofs.state.MemoryArchiveArchiveStore.address.Goals as goal

pub returns-clause-answer : goal.returns-clause-answer
returns-clause-answer c =
    let a = archive_in_memory c.args.self.now in
    let found : option_copied c.address_of.result ≡ address_of a c.args.person.now = cc in
    let known : c.has_person.result ≡ has_person a c.args.person.now = cc in
    let free : person_refusal a c.args.person.now ≡ None = ap (λ b. if not b then Some no_person else None) (sym known ∙ c.if-not-has_person.false) in
    answers c.args.self.now (record c.args.self.now { refusals = c.pass.new.self }) (refusal_count c.args.self.now) c.pass.new.self c.copy_text-address.result c.pass.result
    (λ b. person_refusal b c.args.person.now) (λ b copy. option_map string_bytes copy ≡ address_of b c.args.person.now) refl c.pass.ensures free
    (IfOk-weaker c.copy_text-address.result _ _ (λ copy is. is ∙ found) c.copy_text-address.ensures)
