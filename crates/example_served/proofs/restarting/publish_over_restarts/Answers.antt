use Rattle.std.proofs.Common.{inl, inr, map}
use Rattle.archive_run.specs.Environments.{devices}
use Rattle.archive_args.specs.declared.orders.Order.TheVariants.{Table, Import}
use Rattle.example_served.specs.Publishing.{import_args_of, serve_args_of, withdraw_args_of}
use Rattle.example_served.specs.Restarting.{second_serve_args_of}
use Rattle.example_served.proofs.PublishLemmas.{is_done, not_done}
use Rattle.example_served.proofs.RestartLemmas.{published_over_restarts}
use Rattle.example_served.proofs.ServerLemmas.{leaves_files, line_ends, server_ends}
use Rattle.example_served.proofs.restarting.publish_over_restarts.Goals as goal

pub returns-clause-published : goal.returns-clause-published
returns-clause-published g c =
    λ it words.
    let dev = devices g.Y.Archive.ArchiveState g.Y.Files.ReadFiles g.Y.Files.StreamedFiles g.Y.Files.Input.Source g.Y.Databases.Databases g.Y.Clock.DayClock
    g.Y.Ports.Ports.listens g.Y.Ports.Listener.Listener.accepts g.Y.Ports.Listener.Listener.closes g.Y.Ports.Listener.Listener.over g.Y.Ports.Ports.went
    g.Y.Threaders.Threaders.makes g.Y.Input.Source g.Y.Output.Sink g.Y.Output.BufferedSink g.Y.Faults.Sink in
    let opens = g.met.Y.Platform.opens_held in
    let closes = g.met.Y.Platform.closes_held in
    let accepts_none = g.met.Y.Ports.Listener.Listener.accepts_none in
    let shuts_one = g.met.Y.Ports.Listener.Listener.closes_one in
    let listens_none = g.met.Y.Ports.Ports.listens_none in
    let one = c.run-imported.ensures in
    let two = c.run-withdrawn.ensures in
    let three = c.run-first.ensures in
    let four = c.run-second.ensures in
    let after_two = c.run-withdrawn.new.world in
    let after_three = c.run-first.new.world in
    let after_four = c.run-second.new.world in
    let first_words = map (λ w. w.now) c.args.first_service.now in
    let second_words = map (λ w. w.now) c.args.second_service.now in
    let first_args = serve_args_of it.publishing in
    let second_args = second_serve_args_of it in
    let imports = one.done (Import (import_args_of it.publishing)) words.publish.imports c.if-imported-ne0.false in
    let withdraws = two.done (Table (withdraw_args_of it.publishing)) words.publish.withdraws c.if-withdrawn-ne0.false in
    let first = server_ends dev opens closes accepts_none shuts_one listens_none g.met.Y.Archive.ArchiveStore.at_rest_is_open after_two after_three first_words first_args c.run-first.result
    words.publish.serves three.done three.refused three.bad three.stopped in
    let second = server_ends dev opens closes accepts_none shuts_one listens_none g.met.Y.Archive.ArchiveStore.at_rest_is_open after_three after_four second_words second_args c.run-second.result
    words.serves_again four.done four.refused four.bad four.stopped in
    published_over_restarts dev c.a_hidden_message_reaches_no_peer.ensures c.a_withheld_message_leaves_no_trace.ensures.withdrawn opens closes g.met.Y.Platform.unopened_held
    c.args.world.now c.run-imported.new.world after_two after_three after_four it c.run-first.result c.run-second.result
    imports.runs_order imports.runs_on_archive withdraws.runs_order withdraws.runs_on_archive
    (leaves_files dev opens closes accepts_none shuts_one listens_none g.met.Y.Archive.ArchiveStore.at_rest_is_open after_two after_three first_args c.run-first.result first) first second

pub returns-clause-ended : goal.returns-clause-ended
returns-clause-ended g c =
    let dev = devices g.Y.Archive.ArchiveState g.Y.Files.ReadFiles g.Y.Files.StreamedFiles g.Y.Files.Input.Source g.Y.Databases.Databases g.Y.Clock.DayClock
    g.Y.Ports.Ports.listens g.Y.Ports.Listener.Listener.accepts g.Y.Ports.Listener.Listener.closes g.Y.Ports.Listener.Listener.over g.Y.Ports.Ports.went
    g.Y.Threaders.Threaders.makes g.Y.Input.Source g.Y.Output.Sink g.Y.Output.BufferedSink g.Y.Faults.Sink in
    let one = c.run-imported.ensures in
    let two = c.run-withdrawn.ensures in
    let three = c.run-first.ensures in
    let four = c.run-second.ensures in
    let after_one = c.run-imported.new.world in
    let after_two = c.run-withdrawn.new.world in
    let after_three = c.run-first.new.world in
    record {
      after_one = after_one;
      after_two = after_two;
      after_three = after_three;
      one_succeeds = is_done dev c.args.world.now after_one _ c.run-imported.result c.if-imported-ne0.false one.done one.stopped;
      two_succeeds = is_done dev after_one after_two _ c.run-withdrawn.result c.if-withdrawn-ne0.false two.done two.stopped;
      three_ends = line_ends dev after_two after_three _ c.run-first.result three.done three.refused three.stopped;
      four_ends = line_ends dev after_three c.run-second.new.world _ c.run-second.result four.done four.refused four.stopped;
    }

pub returns-then-imported-ne0-clause-stopped : goal.returns-then-imported-ne0-clause-stopped
returns-then-imported-ne0-clause-stopped g c =
    let dev = devices g.Y.Archive.ArchiveState g.Y.Files.ReadFiles g.Y.Files.StreamedFiles g.Y.Files.Input.Source g.Y.Databases.Databases g.Y.Clock.DayClock
    g.Y.Ports.Ports.listens g.Y.Ports.Listener.Listener.accepts g.Y.Ports.Listener.Listener.closes g.Y.Ports.Listener.Listener.over g.Y.Ports.Ports.went
    g.Y.Threaders.Threaders.makes g.Y.Input.Source g.Y.Output.Sink g.Y.Output.BufferedSink g.Y.Faults.Sink in
    let one = c.run-imported.ensures in
    (c.if-imported-ne0.true, inl (not_done dev c.args.world.now c.run-imported.new.world _ c.run-imported.result c.if-imported-ne0.true one.refused one.stopped))

pub returns-then-withdrawn-ne0-clause-stopped : goal.returns-then-withdrawn-ne0-clause-stopped
returns-then-withdrawn-ne0-clause-stopped g c =
    let dev = devices g.Y.Archive.ArchiveState g.Y.Files.ReadFiles g.Y.Files.StreamedFiles g.Y.Files.Input.Source g.Y.Databases.Databases g.Y.Clock.DayClock
    g.Y.Ports.Ports.listens g.Y.Ports.Listener.Listener.accepts g.Y.Ports.Listener.Listener.closes g.Y.Ports.Listener.Listener.over g.Y.Ports.Ports.went
    g.Y.Threaders.Threaders.makes g.Y.Input.Source g.Y.Output.Sink g.Y.Output.BufferedSink g.Y.Faults.Sink in
    let first = c.run-imported.new.world in
    let one = c.run-imported.ensures in
    let two = c.run-withdrawn.ensures in (
      c.if-withdrawn-ne0.true,
      inr (
        first,
        is_done dev c.args.world.now first _ c.run-imported.result c.if-imported-ne0.false one.done one.stopped,
        inl (not_done dev first c.run-withdrawn.new.world _ c.run-withdrawn.result c.if-withdrawn-ne0.true two.refused two.stopped),
      ),
    )
