use Rattle.std.proofs.Common.{inr, Ok, Err}
use Rattle.archive_args.specs.Values.{store_command_of}
use Rattle.archive_commands.specs.Working.{CarriesOutCommand}
use Rattle.archive_run.specs.Crashing.{CrashCarriesOutCommand}
use Rattle.archive_run.specs.Working.{RefusesCommand}
use Rattle.archive_run.specs.declared.faults.RunError.TheVariants.{Store}
use Rattle.archive_run.proofs.CrashLemmas.{crash_of_command}
use Rattle.archive_run.proofs.WorkLemmas.{carried, worked, works}
use Rattle.archive_run.proofs.working.work_table.Goals as goal

pub returns-clause-worked : goal.returns-clause-worked
returns-clause-worked g c =
    let command = store_command_of c.order.inside.command in
    let done = c.carry_out-answer in
    rw (← c.order.view_is) (worked g.D.Databases c.args.databases.now c.open.new.self c.close.new.self c.order.inside.file.now c.in_ok-store.store
    done.new.store c.in_ok-store.ensures.opened c.close.ensures done.result (λ answer o x. CarriesOutCommand g.S.ArchiveState o x command (Ok answer))
    (λ fault o x. RefusesCommand g.S.ArchiveState o x command (Store fault))
    (λ fault. g.D.Databases.opens c.args.databases.now c.close.new.self c.order.inside.file.now (Err fault))
    (carried g.S.ArchiveState c.in_ok-store.store done.new.store command done.result done.ensures.carried done.ensures.ends))

pub returns-clause-crash : goal.returns-clause-crash
returns-clause-crash g c =
    let command = store_command_of c.order.inside.command in
    let done = c.carry_out-answer in
    rw (← c.order.view_is) (inr (works g.D.Databases c.args.databases.now c.open.new.self c.close.new.self c.order.inside.file.now c.in_ok-store.store done.new.store
    c.in_ok-store.ensures.opened c.close.ensures (λ o x. CrashCarriesOutCommand g.S.ArchiveState o x command)
    (crash_of_command g.S.ArchiveState c.in_ok-store.store done.new.store command done.ensures.crash)))
