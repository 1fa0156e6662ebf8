use Rattle.std.proofs.Common.{◌≡◌, ◌∙◌, ap, map, filter, sym, refl, not, if◌then◌else◌, bytes_eq}
use Rattle.std.specs.Prelude.{None, Some}
use Rattle.std.proofs.lemmas.Result.{IfOk-weaker}
use Rattle.archive_model.specs.Commands.{no_list}
use Rattle.archive_model.specs.Messages.{archived_message}
use Rattle.archive_model.specs.Questions.{has_list, list_refusal, messages_in}
use Rattle.archive_model.specs.Records.{Message}
use Rattle.archive_memory.specs.Entries.{message_in}
use Rattle.archive_memory.specs.State.{archive_in_memory, refusal_count}
use Rattle.archive_memory.proofs.StateLemmas.{answers}
use Rattle.archive_memory.proofs.state.MemoryArchiveArchiveStore.rows.Goals as goal

pub returns-clause-answer : goal.returns-clause-answer
returns-clause-answer c =
    let a = archive_in_memory c.args.self.now in
    let known : c.has_list.result ≡ has_list a c.args.list.now = cc in
    let free : list_refusal a c.args.list.now ≡ None = ap (λ b. if not b then Some no_list else None) (sym known ∙ c.if-not-has_list.false) in
    answers c.args.self.now (record c.args.self.now { refusals = c.pass.new.self }) (refusal_count c.args.self.now) c.pass.new.self c.messages_of.result c.pass.result
    (λ b. list_refusal b c.args.list.now) (λ b found. map (archived_message c.args.list.now) found.items ≡ messages_in b c.args.list.now) refl c.pass.ensures free
    (IfOk-weaker c.messages_of.result _ _ (λ found is. is ∙ ap (λ es. filter (λ (m : Message). bytes_eq m.list c.args.list.now) (map message_in es)) c.deref-2.ensures.value) c.messages_of.ensures)
