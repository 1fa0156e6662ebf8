use Rattle.std.proofs.Common.{◌≡◌, ap, inl, inr, refl, subst, true, List, ℕ, Some}
use Rattle.archive_port.specs.Crashes.{WritesNothing}
use Rattle.archive_results.specs.Access.{Ask}
use Rattle.archive_args.specs.Values.{AskValues}
use Rattle.archive_run.specs.Databases.{UsesDatabase, UsesDatabaseIfOpened}
use Rattle.archive_run.specs.Orders.{RunExportsListOnDay}
use Rattle.sift_run.specs.Running.{IsReadingDay}
use Rattle.sift_run.specs.Streams.{output_stream_state}
use Rattle.archive_run.specs.Working.{RefusesExport, ExportsWholeList, RefusesOpening}
use Rattle.sift_run.proofs.ResultLemmas.{at_two, by_result}
use Rattle.archive_run.proofs.ordering.export_by.Goals as goal

pub returns-clause-runs : goal.returns-clause-runs
returns-clause-runs g c =
    let old = c.args.world.now in
    let order = c.args.order.now in
    let clock = c.asking_day.new.clock in
    let day = c.in-Some.day in
    let end = c.work_export.new.output in
    let new = record old { clock = clock; databases = c.work_export.new.databases; output = end } in
    let before = output_stream_state g.Y.Output.Sink g.Y.Output.BufferedSink old.output in
    let after = output_stream_state g.Y.Output.Sink g.Y.Output.BufferedSink end in
    let is_file : c.order.inside.file.now ≡ order.file = ap (λ (o : AskValues). o.file) c.order.view_is in
    let is_day : c.order.inside.day ≡ order.day = ap (λ (o : AskValues). o.day) c.order.view_is in
    let is_ask = c.ask_of-ask.ensures in
    let given : IsReadingDay g.Y.Clock.DayClock order.day true old.clock clock (Some day) = rw is_day at c.in-Some.ensures in
    by_result (RunExportsListOnDay old new g.Y.Output.Sink g.Y.Output.BufferedSink g.Y.Archive.ArchiveState g.Y.Databases.Databases g.Y.Clock.DayClock order c.args.policy.now) _ _
    c.work_export.result c.work_export.ensures.worked
    (λ u done. (
      clock,
      day,
      given,
      (
        at_two (λ (f : List ℕ) (a : Ask). UsesDatabase g.Y.Databases.Databases old.databases new.databases f (λ o x. ExportsWholeList g.Y.Archive.ArchiveState o x a before after))
            _ _ _ _ is_file is_ask done,
        refl,
      ),
    ))
    (λ e failed. inr (
      clock,
      day,
      given,
      elim failed [
        | inl closed ↦ inl (
          at_two (λ (f : List ℕ) (a : Ask). RefusesOpening g.Y.Databases.Databases old.databases new.databases f e) _ _ _ _ is_file is_ask closed.0,
          ap (λ o. record new { output = o }) closed.1,
        )
        | inr stopped ↦ inr (
          at_two (λ (f : List ℕ) (a : Ask). UsesDatabase g.Y.Databases.Databases old.databases new.databases f (λ o x. RefusesExport g.Y.Archive.ArchiveState o x a before after e))
              _ _ _ _ is_file is_ask stopped,
          refl,
        )
      ],
    ))

pub returns-clause-crash : goal.returns-clause-crash
returns-clause-crash g c =
    let old = c.args.world.now in
    inr (subst (λ f. UsesDatabaseIfOpened g.Y.Databases.Databases old.databases c.work_export.new.databases f (WritesNothing g.Y.Archive.ArchiveState))
    (ap (λ (o : AskValues). o.file) c.order.view_is) c.work_export.ensures.crash)
