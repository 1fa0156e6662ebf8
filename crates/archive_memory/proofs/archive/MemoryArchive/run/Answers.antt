use Rattle.std.proofs.Common.{◌∙◌, ap, sym}
use Rattle.archive_model.specs.Commands.{refused}
use Rattle.archive_model.specs.Machine.{archive_changed_by, command_facts_of, guarded_replies_of, reply_if_carried_out}
use Rattle.archive_port.specs.Commands.{spec_command}
use Rattle.archive_memory.specs.Deciding.{first_passing_reply}
use Rattle.archive_memory.specs.State.{archive_in_memory}
use Rattle.archive_memory.proofs.RunLemmas.{answered, is_reason, reason_told}
use Rattle.archive_memory.proofs.archive.MemoryArchive.run.Goals as goal

pub returns-in-Some-Refused-clause-stepped : goal.returns-in-Some-Refused-clause-stepped
returns-in-Some-Refused-clause-stepped c =
    let command = spec_command c.args.command.now in
    let a = archive_in_memory c.args.self.now in
    let told = reason_told c.in-Some-Refused.fault (first_passing_reply (guarded_replies_of command c.look-found.result)) (rw c.in-Some-Refused.field-0-is at c.in-Some-Refused.ensures) in
    let facts = command_facts_of a command in
    rw told.1 (sym (answered a (guarded_replies_of command facts) (archive_changed_by command a, reply_if_carried_out command facts) (refused told.0)
    (ap (λ f. first_passing_reply (guarded_replies_of command f)) (sym c.look-found.ensures) ∙ told.2)))

pub returns-in-Some-Refused-clause-possible : goal.returns-in-Some-Refused-clause-possible
returns-in-Some-Refused-clause-possible c =
    let command = spec_command c.args.command.now in
    let told = reason_told c.in-Some-Refused.fault (first_passing_reply (guarded_replies_of command c.look-found.result)) (rw c.in-Some-Refused.field-0-is at c.in-Some-Refused.ensures) in
    rw told.1 (is_reason command c.look-found.result told.0 told.2)
