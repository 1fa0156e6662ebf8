use Rattle.std.proofs.Common.{◌≡◌}
use Rattle.archive_model.specs.Machine.{no_command_facts}
use Rattle.archive_model.specs.Questions.{has_person, has_token}
use Rattle.archive_memory.specs.State.{archive_in_memory}
use Rattle.archive_memory.proofs.archive.MemoryArchive.look_person.Goals as goal

pub returns : goal.returns
returns c =
    let person : c.has_person.result ≡ has_person (archive_in_memory c.args.self.now) c.args.name.now = cc in
    let token : c.has_token.result ≡ has_token (archive_in_memory c.args.self.now) c.args.token.now = cc in
    λ i. record no_command_facts { person = person i; token = token i }
