use Rattle.std.proofs.Common.{inl}
use Rattle.archive_run.proofs.CrashLemmas.{crash_leaves_same, crash_of_import}
use Rattle.archive_run.proofs.working.import_file.Goals as goal

pub returns-in-Err-Read-clause-crash : goal.returns-in-Err-Read-clause-crash
returns-in-Err-Read-clause-crash g c = inl (_, c.in-Err-Read.ensures, crash_leaves_same g.S.ArchiveState c.args.store.now)

pub returns-in-Err-Memory-clause-crash : goal.returns-in-Err-Memory-clause-crash
returns-in-Err-Memory-clause-crash g c = inl (_, c.in-Err-Memory.ensures, crash_leaves_same g.S.ArchiveState c.args.store.now)

pub returns-in-Ok-import_from-clause-crash : goal.returns-in-Ok-import_from-clause-crash
returns-in-Ok-import_from-clause-crash g c =
    let it = c.in-Ok-import_from.ensures in
    crash_of_import g.S.ArchiveState g.F.StreamedFiles g.F.Input.Source c.args.files.now c.args.list.now c.args.name.now c.args.store.now c.import_from.new.store
    c.in-Ok.input c.import_from.new.input _ c.in-Ok.ensures it.imports it.failures it.crash

pub returns-clause-crash : goal.returns-clause-crash
returns-clause-crash g c =
    let it = c.import_from.ensures in
    crash_of_import g.S.ArchiveState g.F.StreamedFiles g.F.Input.Source c.args.files.now c.args.list.now c.args.name.now c.args.store.now c.import_from.new.store
    c.in-Ok.input c.import_from.new.input _ c.in-Ok.ensures it.imports it.failures it.crash
