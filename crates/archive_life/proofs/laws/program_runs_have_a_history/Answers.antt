use Rattle.archive_run.specs.Environments.{devices}
use Rattle.archive_life.proofs.SequenceLemmas.{has_history, withdrawal_lasts}
use Rattle.archive_life.proofs.laws.program_runs_have_a_history.Goals as goal

pub returns-clause-history : goal.returns-clause-history
returns-clause-history g c =
    let dev = devices g.Y.Archive.ArchiveState g.Y.Files.ReadFiles g.Y.Files.StreamedFiles g.Y.Files.Input.Source g.Y.Databases.Databases g.Y.Clock.DayClock
    g.Y.Ports.Ports.listens g.Y.Ports.Listener.Listener.accepts g.Y.Ports.Listener.Listener.closes g.Y.Ports.Listener.Listener.over g.Y.Ports.Ports.went
    g.Y.Threaders.Threaders.makes g.Y.Input.Source g.Y.Output.Sink g.Y.Output.BufferedSink g.Y.Faults.Sink in
    has_history dev g.met.Y.Platform.opens_held g.met.Y.Platform.closes_held g.met.Y.Platform.unopened_held g.met.Y.Ports.Ports.listens_none
    c.commands_keep_index_columns_correct.ensures.run c.args.first_environment.now

pub returns-clause-withdrawn : goal.returns-clause-withdrawn
returns-clause-withdrawn g c =
    let dev = devices g.Y.Archive.ArchiveState g.Y.Files.ReadFiles g.Y.Files.StreamedFiles g.Y.Files.Input.Source g.Y.Databases.Databases g.Y.Clock.DayClock
    g.Y.Ports.Ports.listens g.Y.Ports.Listener.Listener.accepts g.Y.Ports.Listener.Listener.closes g.Y.Ports.Listener.Listener.over g.Y.Ports.Ports.went
    g.Y.Threaders.Threaders.makes g.Y.Input.Source g.Y.Output.Sink g.Y.Output.BufferedSink g.Y.Faults.Sink in
    withdrawal_lasts dev g.met.Y.Platform.opens_held g.met.Y.Platform.closes_held g.met.Y.Platform.unopened_held g.met.Y.Ports.Ports.listens_none
    c.commands_keep_index_columns_correct.ensures.run c.args.first_environment.now c.a_withheld_message_leaves_no_trace.ensures.withdrawn
