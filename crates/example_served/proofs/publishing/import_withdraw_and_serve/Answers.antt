use Rattle.std.proofs.Common.{inl, inr}
use Rattle.archive_run.specs.Environments.{devices}
use Rattle.archive_args.specs.declared.orders.Order.TheVariants.{Table, Import, Serve}
use Rattle.example_served.specs.Publishing.{import_args_of, serve_args_of, withdraw_args_of}
use Rattle.example_served.proofs.PublishLemmas.{is_done, not_done, published}
use Rattle.example_served.proofs.publishing.import_withdraw_and_serve.Goals as goal

pub returns-clause-published : goal.returns-clause-published
returns-clause-published g c =
    λ zero it words.
    let dev = devices g.Y.Archive.ArchiveState g.Y.Files.ReadFiles g.Y.Files.StreamedFiles g.Y.Files.Input.Source g.Y.Databases.Databases g.Y.Clock.DayClock
    g.Y.Ports.Ports.listens g.Y.Ports.Listener.Listener.accepts g.Y.Ports.Listener.Listener.closes g.Y.Ports.Listener.Listener.over g.Y.Ports.Ports.went
    g.Y.Threaders.Threaders.makes g.Y.Input.Source g.Y.Output.Sink g.Y.Output.BufferedSink g.Y.Faults.Sink in
    let one = c.run-imported.ensures in
    let two = c.run-withdrawn.ensures in
    let three = c.run.ensures in
    let imports = one.done (Import (import_args_of it)) words.imports c.if-imported-ne0.false in
    let withdraws = two.done (Table (withdraw_args_of it)) words.withdraws c.if-withdrawn-ne0.false in
    let serves = three.done (Serve (serve_args_of it)) words.serves zero in
    published dev c.args.world.now c.run-imported.new.world c.run-withdrawn.new.world c.run.new.world it
    imports.runs_order imports.runs_on_archive withdraws.runs_order withdraws.runs_on_archive serves.runs_order serves.runs_on_archive

pub returns-then-withdrawn-ne0-clause-stopped : goal.returns-then-withdrawn-ne0-clause-stopped
returns-then-withdrawn-ne0-clause-stopped g c =
    λ some.
    let dev = devices g.Y.Archive.ArchiveState g.Y.Files.ReadFiles g.Y.Files.StreamedFiles g.Y.Files.Input.Source g.Y.Databases.Databases g.Y.Clock.DayClock
    g.Y.Ports.Ports.listens g.Y.Ports.Listener.Listener.accepts g.Y.Ports.Listener.Listener.closes g.Y.Ports.Listener.Listener.over g.Y.Ports.Ports.went
    g.Y.Threaders.Threaders.makes g.Y.Input.Source g.Y.Output.Sink g.Y.Output.BufferedSink g.Y.Faults.Sink in
    let first = c.run-imported.new.world in
    let one = c.run-imported.ensures in
    let two = c.run-withdrawn.ensures in
    inr (
      first,
      is_done dev c.args.world.now first _ c.run-imported.result c.if-imported-ne0.false one.done one.stopped,
      inl (not_done dev first c.run-withdrawn.new.world _ c.run-withdrawn.result some two.refused two.stopped),
    )

pub returns-clause-stopped : goal.returns-clause-stopped
returns-clause-stopped g c =
    λ some.
    let dev = devices g.Y.Archive.ArchiveState g.Y.Files.ReadFiles g.Y.Files.StreamedFiles g.Y.Files.Input.Source g.Y.Databases.Databases g.Y.Clock.DayClock
    g.Y.Ports.Ports.listens g.Y.Ports.Listener.Listener.accepts g.Y.Ports.Listener.Listener.closes g.Y.Ports.Listener.Listener.over g.Y.Ports.Ports.went
    g.Y.Threaders.Threaders.makes g.Y.Input.Source g.Y.Output.Sink g.Y.Output.BufferedSink g.Y.Faults.Sink in
    let first = c.run-imported.new.world in
    let second = c.run-withdrawn.new.world in
    let one = c.run-imported.ensures in
    let two = c.run-withdrawn.ensures in
    let three = c.run.ensures in
    inr (
      first,
      is_done dev c.args.world.now first _ c.run-imported.result c.if-imported-ne0.false one.done one.stopped,
      inr (
        second,
        is_done dev first second _ c.run-withdrawn.result c.if-withdrawn-ne0.false two.done two.stopped,
        inl (not_done dev second c.run.new.world _ c.run.result some three.refused three.stopped),
      ),
    )
