use Rattle.archive_run.specs.Environments.{devices}
use Rattle.archive_life.proofs.SequenceLemmas.{withdrawal_done}
use Rattle.archive_life.proofs.RestartLemmas.{answers_found, leaves_archive}
use Rattle.archive_life.proofs.laws.a_run_leaves_what_it_carried_out.Goals as goal

pub returns-clause-leaves : goal.returns-clause-leaves
returns-clause-leaves g c =
    let dev = devices g.Y.Archive.ArchiveState g.Y.Files.ReadFiles g.Y.Files.StreamedFiles g.Y.Files.Input.Source g.Y.Databases.Databases g.Y.Clock.DayClock
    g.Y.Ports.Ports.listens g.Y.Ports.Listener.Listener.accepts g.Y.Ports.Listener.Listener.closes g.Y.Ports.Listener.Listener.over g.Y.Ports.Ports.went
    g.Y.Threaders.Threaders.makes g.Y.Input.Source g.Y.Output.Sink g.Y.Output.BufferedSink g.Y.Faults.Sink in
    λ file archive order mbox ending ends held right trusted finds.
    leaves_archive dev g.met.Y.Platform.opens_held g.met.Y.Platform.closes_held g.met.Y.Platform.unopened_held
    c.args.before.now c.args.after.now archive _ file ending order mbox ends trusted.is_over_database held right trusted.store_is_sound trusted.server_stays_open trusted.mbox_is_read finds

pub returns-clause-answers : goal.returns-clause-answers
returns-clause-answers g c =
    let dev = devices g.Y.Archive.ArchiveState g.Y.Files.ReadFiles g.Y.Files.StreamedFiles g.Y.Files.Input.Source g.Y.Databases.Databases g.Y.Clock.DayClock
    g.Y.Ports.Ports.listens g.Y.Ports.Listener.Listener.accepts g.Y.Ports.Listener.Listener.closes g.Y.Ports.Listener.Listener.over g.Y.Ports.Ports.went
    g.Y.Threaders.Threaders.makes g.Y.Input.Source g.Y.Output.Sink g.Y.Output.BufferedSink g.Y.Faults.Sink in
    λ file archive order mbox ending ends held right trusted.
    answers_found dev g.met.Y.Platform.opens_held g.met.Y.Platform.closes_held g.met.Y.Platform.unopened_held g.met.Y.Ports.Ports.listens_none
    c.args.before.now c.args.after.now archive file ending order ends trusted.is_over_database held right trusted.store_is_sound
    trusted.store_was_sound

pub returns-clause-withdrawn : goal.returns-clause-withdrawn
returns-clause-withdrawn g c = λ file list key by mbox archive ends told. withdrawal_done list key by archive ends.runs_on_archive.0 told
