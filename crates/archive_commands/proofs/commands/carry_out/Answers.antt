use Rattle.std.proofs.Common.{subst, inl, Err, Ok}
use Rattle.archive_model.specs.Machine.{step}
use Rattle.archive_port.specs.Commands.{ExecutesCommand}
use Rattle.archive_port.specs.Crashes.{CrashSteps}
use Rattle.archive_args.specs.Values.{store_command_of}
use Rattle.archive_commands.proofs.CarryLemmas.{carries_fault, carries_found, crash_carries}
use Rattle.archive_commands.proofs.commands.carry_out.Goals as goal

pub returns-in-Ok-clause-carried : goal.returns-in-Ok-clause-carried
returns-in-Ok-clause-carried g c =
    let stands = c.in-Some.ensures c.read_key-key.ensures in
    let old = c.args.store.now in
    let new = c.carry.new.self in
    carries_found g.S.ArchiveState old new (store_command_of c.args.words.now) stands.0 c.in-Ok.ensures.ends_write.remains_open c.in-Ok.found c.answer_to.result c.answer_to.ensures
    (subst (λ told. ExecutesCommand g.S.ArchiveState old new told (Ok c.in-Ok.found)) stands.1 c.in-Ok.ensures)

pub returns-in-Err-clause-carried : goal.returns-in-Err-clause-carried
returns-in-Err-clause-carried g c =
    let stands = c.in-Some.ensures c.read_key-key.ensures in
    let old = c.args.store.now in
    let new = c.carry.new.self in
    carries_fault g.S.ArchiveState old new (store_command_of c.args.words.now) stands.0 c.in-Err.ensures.ends_write.remains_open c.in-Err.fault
    (subst (λ told. ExecutesCommand g.S.ArchiveState old new told (Err c.in-Err.fault)) stands.1 c.in-Err.ensures)

pub returns-in-Ok-clause-crash : goal.returns-in-Ok-clause-crash
returns-in-Ok-clause-crash g c =
    let stands = c.in-Some.ensures c.read_key-key.ensures in
    let old = c.args.store.now in
    let new = c.carry.new.self in
    crash_carries g.S.ArchiveState old new (store_command_of c.args.words.now) stands.0 c.in-Ok.ensures.ends_write.remains_open
    (subst (λ told. CrashSteps g.S.ArchiveState old new (λ a. step a told)) stands.1 c.in-Ok.ensures.crash)

pub returns-in-Err-clause-crash : goal.returns-in-Err-clause-crash
returns-in-Err-clause-crash g c =
    let stands = c.in-Some.ensures c.read_key-key.ensures in
    let old = c.args.store.now in
    let new = c.carry.new.self in
    crash_carries g.S.ArchiveState old new (store_command_of c.args.words.now) stands.0 c.in-Err.ensures.ends_write.remains_open
    (subst (λ told. CrashSteps g.S.ArchiveState old new (λ a. step a told)) stands.1 c.in-Err.ensures.crash)

pub returns-in_default-clause-crash : goal.returns-in_default-clause-crash
returns-in_default-clause-crash g c = λ rest clean db leaves. inl leaves
