use Rattle.std.proofs.Common.{subst, Err}
use Rattle.archive_commands.specs.Working.{EndsGet, GetsMessage}
use Rattle.archive_commands.specs.declared.getting.GetError.{GetError}
use Rattle.archive_run.proofs.working.get_text.Goals as goal

pub returns-in-Err-Fault : goal.returns-in-Err-Fault
returns-in-Err-Fault g c =
    let old = c.args.store.now in
    let new = c.get.new.store in
    let arm = c.in-Err-Fault in
    let P : GetError → Type 0 =
    λ s. GetsMessage g.S.ArchiveState old new c.args.ask.now c.args.key.now (Err s) × EndsGet g.S.ArchiveState old new c.args.ask.now c.args.key.now (Err s) in
    let it = subst P arm.field-0-is (arm.ensures.got, arm.ensures.ends) in
    record { got = (it.0, (it.1.refusals_counted.1, it.1.fault_has_cause)); writes_nothing = c.get.ensures.writes_nothing }
