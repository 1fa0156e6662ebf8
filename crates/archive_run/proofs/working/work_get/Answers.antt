use Rattle.std.proofs.Common.{inr, Ok}
use Rattle.archive_port.specs.Crashes.{WritesNothing}
use Rattle.archive_commands.specs.Working.{GetsMessage}
use Rattle.archive_run.specs.Working.{RefusesGet, RefusesOpening}
use Rattle.archive_run.proofs.WorkLemmas.{worked, works}
use Rattle.archive_run.proofs.working.work_get.Goals as goal

pub returns-clause-worked : goal.returns-clause-worked
returns-clause-worked g c =
    let done = c.get_text-text in
    worked g.D.Databases c.args.databases.now c.open.new.self c.close.new.self c.args.file.now c.in-Ok.store
    done.new.store c.in-Ok.ensures.opened c.close.ensures done.result
    (λ text o x. GetsMessage g.S.ArchiveState o x c.args.ask.now c.args.key.now (Ok text))
    (λ refusal o x. RefusesGet g.S.ArchiveState o x c.args.ask.now c.args.key.now refusal)
    (λ refusal. RefusesOpening g.D.Databases c.args.databases.now c.close.new.self c.args.file.now refusal)
    done.ensures.got

pub returns-clause-crash : goal.returns-clause-crash
returns-clause-crash g c =
    let done = c.get_text-text in
    inr (works g.D.Databases c.args.databases.now c.open.new.self c.close.new.self c.args.file.now c.in-Ok.store done.new.store c.in-Ok.ensures.opened c.close.ensures
    (λ o x. WritesNothing g.S.ArchiveState o x) done.ensures.writes_nothing)
