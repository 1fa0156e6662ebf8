use Rattle.std.proofs.Common.{arith}
use Rattle.archive_port.proofs.LastLemmas.{leaves_same}
use Rattle.archive_import.proofs.intake.Intake.hold.Goals as goal

pub returns-in-Ok-clause-leaves : goal.returns-in-Ok-clause-leaves
returns-in-Ok-clause-leaves g c = (leaves_same g.S.ArchiveState c.args.store.now, λ left may. may)

pub returns-in-Err-clause-counted : goal.returns-in-Err-clause-counted
returns-in-Err-clause-counted g c = (omega (arith, c.count_refusal.ensures.counted.refusals_are), (λ want. omega (arith, c.count_refusal.ensures.counted.refusals_are)))
