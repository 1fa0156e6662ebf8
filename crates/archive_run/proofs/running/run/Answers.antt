use Rattle.std.proofs.Common.{ap, inl, inr, refl, sym, subst, arith, Ok, Err}
use Rattle.archive_args.specs.declared.orders.Order.{Order}
use Rattle.archive_run.specs.Crashing.{CrashRunsOrder}
use Rattle.archive_run.specs.Refusals.{refusal_text}
use Rattle.archive_run.specs.Runs.{RunsOrder}
use Rattle.archive_run.specs.Environments.{devices}
use Rattle.archive_run.specs.declared.faults.RunError.TheVariants.{Run}
use Rattle.sift_run.specs.declared.faults.CommandError.TheVariants.{Memory}
use Rattle.sift_run.proofs.StatusLemmas.{at_most_one, at_one, at_zero, memory_alone, memory_said, same_order, words_bad}
use Rattle.archive_run.proofs.CrashLemmas.{crash_of_finished, crash_of_unread}
use Rattle.archive_run.proofs.OverLemmas.{ends_over, ends_unread, runs_over}
use Rattle.archive_run.proofs.running.run.Goals as goal

pub returns-in-Ok-clause-done : goal.returns-in-Ok-clause-done
returns-in-Ok-clause-done g c =
    λ order given zero.
    let dev = devices g.Y.Archive.ArchiveState g.Y.Files.ReadFiles g.Y.Files.StreamedFiles g.Y.Files.Input.Source g.Y.Databases.Databases g.Y.Clock.DayClock
    g.Y.Ports.Ports.listens g.Y.Ports.Listener.Listener.accepts g.Y.Ports.Listener.Listener.closes g.Y.Ports.Listener.Listener.over g.Y.Ports.Ports.went
    g.Y.Threaders.Threaders.makes g.Y.Input.Source g.Y.Output.Sink g.Y.Output.BufferedSink g.Y.Faults.Sink in
    let old = c.args.world.now in
    let mid = c.run_order-done.new.world in
    let it = at_zero _ _ (RunsOrder dev old mid c.in-Ok.asked) c.run_order-done.result c.finish.result c.finish.ensures c.run_order-done.ensures.runs zero in
    let P : Order → Type 0 = λ o. RunsOrder dev old mid o (Ok tt) in
    let Q : g.row.Y-Faults.Denot → Type 0 = λ f. RunsOrder dev old (record mid { faults = f }) order (Ok tt) in
    let runs = subst Q (sym it.2) (subst P (same_order _ _ _ c.in-Ok.ensures.ok given.1) it.1) in
    record {
      runs_order = runs;
      runs_on_archive = runs_over dev g.met.Y.Platform.opens_held g.met.Y.Platform.closes_held g.met.Y.Archive.ArchiveStore.at_rest_is_open
          g.met.Y.Ports.Listener.Listener.accepts_none g.met.Y.Ports.Listener.Listener.closes_one g.met.Y.Ports.Ports.listens_none
          old (record c.run_order-done.new.world { faults = c.finish.new.faults }) order runs;
    }

pub returns-in-Ok-clause-refused : goal.returns-in-Ok-clause-refused
returns-in-Ok-clause-refused g c =
    λ order given one.
    let dev = devices g.Y.Archive.ArchiveState g.Y.Files.ReadFiles g.Y.Files.StreamedFiles g.Y.Files.Input.Source g.Y.Databases.Databases g.Y.Clock.DayClock
    g.Y.Ports.Ports.listens g.Y.Ports.Listener.Listener.accepts g.Y.Ports.Listener.Listener.closes g.Y.Ports.Listener.Listener.over g.Y.Ports.Ports.went
    g.Y.Threaders.Threaders.makes g.Y.Input.Source g.Y.Output.Sink g.Y.Output.BufferedSink g.Y.Faults.Sink in
    let old = c.args.world.now in
    let mid = c.run_order-done.new.world in
    let it = at_one _ _ (RunsOrder dev old mid c.in-Ok.asked) c.run_order-done.result c.finish.result c.finish.ensures c.run_order-done.ensures.runs one in
    let P : Order → Type 0 = λ o. RunsOrder dev old mid o (Err it.0) in
    let cause = subst P (same_order _ _ _ c.in-Ok.ensures.ok given.1) it.1 in
    record {
      refusal = it.0;
      stopped = mid;
      cause = inr cause;
      reports_refusal = (it.2, refl);
      served_until_f4 = ends_over dev g.met.Y.Platform.opens_held g.met.Y.Platform.closes_held g.met.Y.Archive.ArchiveStore.at_rest_is_open
          g.met.Y.Ports.Listener.Listener.accepts_none g.met.Y.Ports.Listener.Listener.closes_one g.met.Y.Ports.Ports.listens_none old mid order it.0 cause;
    }

pub returns-in-Ok-clause-crash : goal.returns-in-Ok-clause-crash
returns-in-Ok-clause-crash g c =
    λ order given.
    let dev = devices g.Y.Archive.ArchiveState g.Y.Files.ReadFiles g.Y.Files.StreamedFiles g.Y.Files.Input.Source g.Y.Databases.Databases g.Y.Clock.DayClock
    g.Y.Ports.Ports.listens g.Y.Ports.Listener.Listener.accepts g.Y.Ports.Listener.Listener.closes g.Y.Ports.Listener.Listener.over g.Y.Ports.Ports.went
    g.Y.Threaders.Threaders.makes g.Y.Input.Source g.Y.Output.Sink g.Y.Output.BufferedSink g.Y.Faults.Sink in
    let old = c.args.world.now in
    let mid = c.run_order-done.new.world in
    let P : Order → Type 0 = λ o. CrashRunsOrder dev old mid o in
    crash_of_finished dev old mid c.finish.new.faults order (subst P (same_order _ _ _ c.in-Ok.ensures.ok given.1) c.run_order-done.ensures.crash)

pub returns-in-Ok-clause-bad : goal.returns-in-Ok-clause-bad
returns-in-Ok-clause-bad g c =
    λ two.
    let most = at_most_one _ _ c.run_order-done.result c.finish.result c.finish.ensures in
    absurd (omega (arith, most, two))

pub returns-in-Ok-clause-stopped : goal.returns-in-Ok-clause-stopped
returns-in-Ok-clause-stopped g c =
    inl (_, (inr c.in-Ok.ensures.taken, c.in-Ok.ensures.ok), at_most_one _ _ c.run_order-done.result c.finish.result c.finish.ensures)

pub returns-in-Err-clause-done : goal.returns-in-Err-clause-done
returns-in-Err-clause-done g c =
    λ order given zero.
    let old = c.args.world.now in
    let said = memory_said g.Y.Output.Sink g.Y.Output.BufferedSink g.Y.Faults.Sink old.output c.report_parse_error.new.output old.faults c.report_parse_error.new.faults c.report_parse_error.result _
    (memory_alone _ _ _ c.in-Err.ensures.refused c.in-Err.ensures.stopped given) c.report_parse_error.ensures in
    let one = said.0 in
    absurd (omega (arith, zero, one))

pub returns-in-Err-clause-refused : goal.returns-in-Err-clause-refused
returns-in-Err-clause-refused g c =
    λ order given one.
    let old = c.args.world.now in
    let dev = devices g.Y.Archive.ArchiveState g.Y.Files.ReadFiles g.Y.Files.StreamedFiles g.Y.Files.Input.Source g.Y.Databases.Databases g.Y.Clock.DayClock
    g.Y.Ports.Ports.listens g.Y.Ports.Listener.Listener.accepts g.Y.Ports.Listener.Listener.closes g.Y.Ports.Listener.Listener.over g.Y.Ports.Ports.went
    g.Y.Threaders.Threaders.makes g.Y.Input.Source g.Y.Output.Sink g.Y.Output.BufferedSink g.Y.Faults.Sink in
    let faults = c.report_parse_error.new.faults in
    let said = memory_said g.Y.Output.Sink g.Y.Output.BufferedSink g.Y.Faults.Sink old.output c.report_parse_error.new.output old.faults faults c.report_parse_error.result _
    (memory_alone _ _ _ c.in-Err.ensures.refused c.in-Err.ensures.stopped given) c.report_parse_error.ensures in
    record {
      refusal = Run Memory;
      stopped = old;
      cause = inl (refl, refl);
      reports_refusal = (said.2, ap (λ o. record old { output = o; faults = faults }) said.1);
      served_until_f4 = ends_unread dev g.met.Y.Platform.opens_held g.met.Y.Platform.closes_held g.met.Y.Archive.ArchiveStore.at_rest_is_open
          g.met.Y.Ports.Listener.Listener.accepts_none g.met.Y.Ports.Listener.Listener.closes_one g.met.Y.Ports.Ports.listens_none old old order;
    }

pub returns-in-Err-clause-crash : goal.returns-in-Err-clause-crash
returns-in-Err-clause-crash g c =
    λ order given.
    let dev = devices g.Y.Archive.ArchiveState g.Y.Files.ReadFiles g.Y.Files.StreamedFiles g.Y.Files.Input.Source g.Y.Databases.Databases g.Y.Clock.DayClock
    g.Y.Ports.Ports.listens g.Y.Ports.Listener.Listener.accepts g.Y.Ports.Listener.Listener.closes g.Y.Ports.Listener.Listener.over g.Y.Ports.Ports.went
    g.Y.Threaders.Threaders.makes g.Y.Input.Source g.Y.Output.Sink g.Y.Output.BufferedSink g.Y.Faults.Sink in
    let old = c.args.world.now in
    crash_of_unread dev old (record old { output = c.report_parse_error.new.output; faults = c.report_parse_error.new.faults }) refl order

pub returns-in-Err-clause-bad : goal.returns-in-Err-clause-bad
returns-in-Err-clause-bad g c =
    λ two.
    let old = c.args.world.now in
    words_bad g.Y.Output.Sink g.Y.Output.BufferedSink g.Y.Faults.Sink old.output c.report_parse_error.new.output old.faults c.report_parse_error.new.faults c.report_parse_error.result _ _
    c.in-Err.ensures.stopped c.in-Err.ensures.refused c.report_parse_error.ensures two

pub returns-in-Err-clause-stopped : goal.returns-in-Err-clause-stopped
returns-in-Err-clause-stopped g c = inr (_, c.in-Err.ensures.stopped, (c.report_parse_error.ensures, refl))
