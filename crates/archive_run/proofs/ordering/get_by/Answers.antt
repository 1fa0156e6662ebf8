use Rattle.std.proofs.Common.{◌≡◌, ◌∙◌, ap, inl, inr, refl, subst, true, List, ℕ, Some, Ok}
use Rattle.archive_port.specs.Crashes.{WritesNothing}
use Rattle.archive_results.specs.Access.{Ask}
use Rattle.archive_args.specs.Values.{GetValues}
use Rattle.archive_commands.specs.Working.{GetsMessage}
use Rattle.archive_run.specs.Databases.{UsesDatabase, UsesDatabaseIfOpened}
use Rattle.archive_run.specs.Orders.{RunGetsMessageOnDay}
use Rattle.sift_run.specs.Running.{IsReadingDay}
use Rattle.sift_run.specs.Streams.{output_stream_state}
use Rattle.archive_run.specs.Working.{FailsOnDatabase, RefusesGet}
use Rattle.sift_run.proofs.ResultLemmas.{at_three, by_result, err_at, sent_as}
use Rattle.archive_run.proofs.ordering.get_by.Goals as goal

pub returns-in_err-text-clause-runs : goal.returns-in_err-text-clause-runs
returns-in_err-text-clause-runs g c =
    let old = c.args.world.now in
    let order = c.args.order.now in
    let asked = c.order-inside.inside.0.0 in
    let key = c.order-inside.inside.0.1.0.now in
    let clock = c.asking_day.new.clock in
    let day = c.in-Some.day in
    let new = record old { clock = clock; databases = c.work_get.new.databases } in
    let refusal = c.in_err-text.field-0.0 in
    let is_file : asked.file.now ≡ order.ask.file = ap (λ i. i.asked.file) c.order-inside.view_is ∙ ap (λ (o : GetValues). o.ask.file) c.order.view_is in
    let is_day : asked.day ≡ order.ask.day = ap (λ i. i.asked.day) c.order-inside.view_is ∙ ap (λ (o : GetValues). o.ask.day) c.order.view_is in
    let is_key : key ≡ order.key = ap (λ i. i.key.now) c.order-inside.view_is ∙ ap (λ (o : GetValues). o.key) c.order.view_is in
    let is_asked : c.order.inside.asked ≡ order.ask = ap (λ (o : GetValues). o.ask) c.order.view_is in
    let is_ask = rw is_asked at c.ask_of-ask.ensures in
    let given : IsReadingDay g.Y.Clock.DayClock order.ask.day true old.clock clock (Some day) = rw is_day at c.in-Some.ensures in
    err_at (RunGetsMessageOnDay old new g.Y.Output.Sink g.Y.Output.BufferedSink g.Y.Archive.ArchiveState g.Y.Databases.Databases g.Y.Clock.DayClock order c.args.policy.now)
    c.from_residual.result refusal c.from_residual.ensures.1
    (inr (
      clock,
      day,
      given,
      inl (
        at_three (λ (f : List ℕ) (a : Ask) (k : List ℕ). FailsOnDatabase g.Y.Databases.Databases old.databases new.databases f (λ o x. RefusesGet g.Y.Archive.ArchiveState o x a k) refusal)
            _ _ _ _ _ _ is_file is_ask is_key c.in_err-text.ensures.worked,
        refl,
      ),
    ))

pub returns-clause-runs : goal.returns-clause-runs
returns-clause-runs g c =
    let old = c.args.world.now in
    let order = c.args.order.now in
    let asked = c.order-inside.inside.0.0 in
    let key = c.order-inside.inside.0.1.0.now in
    let clock = c.asking_day.new.clock in
    let day = c.in-Some.day in
    let new = record old { clock = clock; databases = c.work_get.new.databases; output = c.send.new.output } in
    let text = c.in_ok-text.text in
    let before = output_stream_state g.Y.Output.Sink g.Y.Output.BufferedSink old.output in
    let after = output_stream_state g.Y.Output.Sink g.Y.Output.BufferedSink c.send.new.output in
    let is_file : asked.file.now ≡ order.ask.file = ap (λ i. i.asked.file) c.order-inside.view_is ∙ ap (λ (o : GetValues). o.ask.file) c.order.view_is in
    let is_day : asked.day ≡ order.ask.day = ap (λ i. i.asked.day) c.order-inside.view_is ∙ ap (λ (o : GetValues). o.ask.day) c.order.view_is in
    let is_key : key ≡ order.key = ap (λ i. i.key.now) c.order-inside.view_is ∙ ap (λ (o : GetValues). o.key) c.order.view_is in
    let is_asked : c.order.inside.asked ≡ order.ask = ap (λ (o : GetValues). o.ask) c.order.view_is in
    let is_ask = rw is_asked at c.ask_of-ask.ensures in
    let given : IsReadingDay g.Y.Clock.DayClock order.ask.day true old.clock clock (Some day) = rw is_day at c.in-Some.ensures in
    let got = at_three (λ (f : List ℕ) (a : Ask) (k : List ℕ). UsesDatabase g.Y.Databases.Databases old.databases new.databases f (λ o x. GetsMessage g.Y.Archive.ArchiveState o x a k (Ok text)))
    _ _ _ _ _ _ is_file is_ask is_key c.in_ok-text.ensures.worked in
    by_result (RunGetsMessageOnDay old new g.Y.Output.Sink g.Y.Output.BufferedSink g.Y.Archive.ArchiveState g.Y.Databases.Databases g.Y.Clock.DayClock order c.args.policy.now) _ _
    c.send.result (sent_as _ before after c.deref.result.now _ c.send.result c.deref.ensures.value c.send.ensures)
    (λ u sends. (clock, day, given, (text, got, (sends, refl))))
    (λ e part. inr (clock, day, given, inr (text, got, (part.0, part.1, refl))))

pub returns-in_err-text-clause-crash : goal.returns-in_err-text-clause-crash
returns-in_err-text-clause-crash g c =
    let old = c.args.world.now in
    let is_file : c.order-inside.inside.0.0.file.now ≡ c.args.order.now.ask.file =
    ap (λ i. i.asked.file) c.order-inside.view_is ∙ ap (λ (o : GetValues). o.ask.file) c.order.view_is in
    inr (subst (λ f. UsesDatabaseIfOpened g.Y.Databases.Databases old.databases c.work_get.new.databases f (WritesNothing g.Y.Archive.ArchiveState)) is_file c.work_get.ensures.crash)

pub returns-clause-crash : goal.returns-clause-crash
returns-clause-crash g c =
    let old = c.args.world.now in
    let is_file : c.order-inside.inside.0.0.file.now ≡ c.args.order.now.ask.file =
    ap (λ i. i.asked.file) c.order-inside.view_is ∙ ap (λ (o : GetValues). o.ask.file) c.order.view_is in
    inr (subst (λ f. UsesDatabaseIfOpened g.Y.Databases.Databases old.databases c.work_get.new.databases f (WritesNothing g.Y.Archive.ArchiveState)) is_file c.work_get.ensures.crash)
