use Rattle.std.proofs.Common.{◌≡◌, inr}
use Rattle.archive_port.specs.Crashes.{WritesNothing}
use Rattle.archive_run.specs.Working.{RefusesExport, ExportsWholeList, RefusesOpening}
use Rattle.sift_run.specs.Streams.{output_stream_state}
use Rattle.archive_run.proofs.WorkLemmas.{worked, works}
use Rattle.archive_run.proofs.working.work_export.Goals as goal

pub returns-clause-worked : goal.returns-clause-worked
returns-clause-worked g c =
    let done = c.export_text-exported in
    let before = output_stream_state g.O.Sink g.O.BufferedSink c.args.output.now in
    let after = output_stream_state g.O.Sink g.O.BufferedSink done.new.output in
    worked g.D.Databases c.args.databases.now c.open.new.self c.close.new.self c.args.file.now c.in-Ok.store
    done.new.store c.in-Ok.ensures.opened c.close.ensures done.result
    (λ _ o x. ExportsWholeList g.S.ArchiveState o x c.args.ask.now before after)
    (λ refusal o x. RefusesExport g.S.ArchiveState o x c.args.ask.now before after refusal)
    (λ refusal. RefusesOpening g.D.Databases c.args.databases.now c.close.new.self c.args.file.now refusal × (done.new.output ≡ c.args.output.now))
    done.ensures.exported

pub returns-clause-crash : goal.returns-clause-crash
returns-clause-crash g c =
    let done = c.export_text-exported in
    inr (works g.D.Databases c.args.databases.now c.open.new.self c.close.new.self c.args.file.now c.in-Ok.store done.new.store c.in-Ok.ensures.opened c.close.ensures
    (λ o x. WritesNothing g.S.ArchiveState o x) done.ensures.writes_nothing)
