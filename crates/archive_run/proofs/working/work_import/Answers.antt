use Rattle.std.proofs.Common.{inr}
use Rattle.archive_run.specs.Crashing.{CrashImportsFile}
use Rattle.archive_run.specs.Working.{ImportsFile, RefusesImport, RefusesOpening}
use Rattle.archive_run.proofs.WorkLemmas.{worked, works}
use Rattle.archive_run.proofs.working.work_import.Goals as goal

pub returns-clause-worked : goal.returns-clause-worked
returns-clause-worked g c =
    let order = c.order.inside in
    let done = c.import_file-imported in
    rw (← c.order.view_is) (worked g.D.Databases c.args.databases.now c.open.new.self c.close.new.self order.file.now c.in-Ok.store
    done.new.store c.in-Ok.ensures.opened c.close.ensures done.result
    (λ report o x. ImportsFile g.S.ArchiveState o x g.F.StreamedFiles g.F.Input.Source c.args.files.now order.list.now order.mbox.now report)
    (λ refusal o x. RefusesImport g.S.ArchiveState o x g.F.StreamedFiles g.F.Input.Source c.args.files.now order.list.now order.mbox.now refusal)
    (λ refusal. RefusesOpening g.D.Databases c.args.databases.now c.close.new.self order.file.now refusal)
    done.ensures.imported)

pub returns-clause-crash : goal.returns-clause-crash
returns-clause-crash g c =
    let order = c.order.inside in
    let done = c.import_file-imported in
    rw (← c.order.view_is) (inr (works g.D.Databases c.args.databases.now c.open.new.self c.close.new.self order.file.now c.in-Ok.store done.new.store
    c.in-Ok.ensures.opened c.close.ensures (λ o x. CrashImportsFile g.S.ArchiveState o x g.F.StreamedFiles g.F.Input.Source c.args.files.now order.list.now order.mbox.now)
    done.ensures.crash))
