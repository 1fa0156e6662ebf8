use Rattle.std.proofs.Common.{ap, arith, subst}
use Rattle.archive_port.proofs.LastLemmas.{leaves_same}
use Rattle.archive_desk.specs.declared.importing.ImportStop.{ImportStop}
use Rattle.archive_import.specs.Streaming.{IsImportMemoryRefusal}
use Rattle.archive_import.proofs.WantLemmas.{uncut_want}
use Rattle.archive_import.proofs.intake.Intake.stop_uncut.Goals as goal

pub returns-in-Memory-clause-counted : goal.returns-in-Memory-clause-counted
returns-in-Memory-clause-counted g c = (omega (arith, c.count_refusal.ensures.counted.refusals_are), (λ want. omega (arith, c.count_refusal.ensures.counted.refusals_are)))

pub returns-in_default-clause-counted : goal.returns-in_default-clause-counted
returns-in_default-clause-counted g c =
    (omega arith, (λ want. absurd (c.in_default.not-Memory (uncut_want c.args.fault (subst IsImportMemoryRefusal (ap (λ (s : ImportStop). s.fault) c.stop-in_default.ensures) want)))))

pub returns-in_default-clause-leaves : goal.returns-in_default-clause-leaves
returns-in_default-clause-leaves g c = leaves_same g.S.ArchiveState c.args.store.now
