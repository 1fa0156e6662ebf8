use Rattle.std.proofs.Common.{map}
use Rattle.archive_model.specs.Runs.{run}
use Rattle.archive_port.specs.Commands.{spec_command}
use Rattle.archive_store.specs.State.{state_of}
use Rattle.archive_store.specs.Told.{archive_in}
use Rattle.archive_pages.proofs.RunningLemmas.{answers_from}
use Rattle.archive_stored.proofs.running.run_and_answer.Goals as goal

pub returns-in-Ok-clause-answered : goal.returns-in-Ok-clause-answered
returns-in-Ok-clause-answered g c = λ returned held.
    answers_from (state_of g.S.Store) c.run.new.self c.answer.new.store (run (archive_in g.S.Store c.args.store.now) (map spec_command c.args.commands.now)).archive returned
    (λ before.
    let ran = c.in-Ok.ensures.step before held in
    (ran.0, ran.1)) c.args.policy.now c.args.day c.answer.result (g.R.Source.told c.args.peer.now.input)
    (g.R.Source.told c.answer.new.input) (g.R.Source.ends c.args.peer.now.input) (g.R.Source.ends c.answer.new.input) (g.W.Sink.told c.args.peer.now.output)
    (g.W.Sink.told c.answer.new.output) c.answer.ensures.answered
