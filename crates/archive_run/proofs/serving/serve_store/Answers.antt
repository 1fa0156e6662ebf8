use Rattle.std.proofs.Common.{◌≡◌, ap, inr, refl, subst, ℕ, Result, Ok}
use Rattle.std.specs.Prelude.{MatchResult, ⊤}
use Rattle.archive_args.specs.Values.{ServeValues}
use Rattle.archive_run.specs.Serving.{AnnouncesThenServesAll, ListensAndServes, RefusesListeningOrServing, RefusesServing, server_output}
use Rattle.archive_run.specs.declared.faults.RunError.{RunError}
use Rattle.sift_run.proofs.ResultLemmas.{by_result}
use Rattle.archive_run.proofs.serving.serve_store.Goals as goal

pub returns-clause-served : goal.returns-clause-served
returns-clause-served g c =
    let old = c.args.world.now in
    let order = c.args.order.now in
    let done = c.serve_listening in
    let between = c.listen_on.new.ports in
    let ports = done.new.ports in
    let listening = c.in_ok-listening.listening in
    let before = server_output g.Y.Output.Sink g.Y.Output.BufferedSink g.Y.Faults.Sink old.output old.faults in
    let after = server_output g.Y.Output.Sink g.Y.Output.BufferedSink g.Y.Faults.Sink done.new.output done.new.faults in
    let open_old = c.args.store.now in
    let open_new = done.new.store in
    let accepts = g.Y.Ports.Listener.Listener.accepts in
    let closes = g.Y.Ports.Listener.Listener.closes in
    let over = g.Y.Ports.Listener.Listener.over in
    let went = g.Y.Ports.Ports.went in
    let is_port : c.order.inside.port ≡ order.port = ap (λ (o : ServeValues). o.port) c.order.view_is in
    let is_count : c.order.inside.count ≡ order.count = ap (λ (o : ServeValues). o.count) c.order.view_is in
    let P : ℕ → Type 0 = λ p. g.Y.Ports.Ports.listens old.ports between p (Ok listening) in
    let Q : ℕ → Type 0 = λ n. MatchResult done.result
    (λ _. AnnouncesThenServesAll g.Y.Archive.ArchiveState accepts closes over went between ports c.args.policy.now c.args.day listening open_old open_new before after n)
    (RefusesServing g.Y.Archive.ArchiveState accepts closes over went between ports c.args.policy.now c.args.day listening open_old open_new before after n) in
    let had = subst P is_port c.in_ok-listening.ensures in
    let R : Result ⊤ RunError → Type 0 = λ r. MatchResult r
    (λ _. ListensAndServes g.Y.Archive.ArchiveState accepts closes over went g.Y.Ports.Ports.listens old.ports ports order.port order.count
    c.args.policy.now c.args.day open_old open_new before after)
    (RefusesListeningOrServing g.Y.Archive.ArchiveState accepts closes over went g.Y.Ports.Ports.listens old.ports ports order.port order.count
    c.args.policy.now c.args.day open_old open_new before after) in (
      by_result R _ _ done.result (subst Q is_count done.ensures.served)
          (λ u served. (listening, between, had, served))
          (λ e why. inr (listening, between, had, why)),
      refl,
    )
