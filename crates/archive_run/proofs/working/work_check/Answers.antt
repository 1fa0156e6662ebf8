use Rattle.std.proofs.Common.{inr, Ok}
use Rattle.archive_port.specs.Crashes.{WritesNothing}
use Rattle.archive_port.specs.Checking.{ChecksArchive}
use Rattle.archive_run.specs.Working.{RefusesCheck, RefusesOpening}
use Rattle.archive_run.proofs.WorkLemmas.{worked, works}
use Rattle.archive_run.proofs.working.work_check.Goals as goal

pub returns-clause-worked : goal.returns-clause-worked
returns-clause-worked g c =
    let done = c.check_store-checked in
    rw (← c.order.view_is) (worked g.D.Databases c.args.databases.now c.open.new.self c.close.new.self c.order.inside.file.now c.in-Ok.store
    done.new.store c.in-Ok.ensures.opened c.close.ensures done.result
    (λ _ o x. ChecksArchive g.S.ArchiveState o x (Ok tt))
    (λ refusal o x. RefusesCheck g.S.ArchiveState o x refusal)
    (λ refusal. RefusesOpening g.D.Databases c.args.databases.now c.close.new.self c.order.inside.file.now refusal)
    done.ensures.checked)

pub returns-clause-crash : goal.returns-clause-crash
returns-clause-crash g c =
    let done = c.check_store-checked in
    rw (← c.order.view_is) (inr (works g.D.Databases c.args.databases.now c.open.new.self c.close.new.self c.order.inside.file.now c.in-Ok.store done.new.store
    c.in-Ok.ensures.opened c.close.ensures (λ o x. WritesNothing g.S.ArchiveState o x) done.ensures.writes_nothing))
