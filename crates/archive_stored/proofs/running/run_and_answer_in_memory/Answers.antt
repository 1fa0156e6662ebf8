use Rattle.std.proofs.Common.{map, subst}
use Rattle.sqlite.proofs.Callers.{memory_is_clean}
use Rattle.archive_model.specs.Runs.{run}
use Rattle.archive_store.specs.Held.{store_connection}
use Rattle.archive_port.specs.Commands.{spec_command}
use Rattle.archive_pages.specs.Headline.{AnswersRequestFromArchive}
use Rattle.archive_stored.proofs.running.run_and_answer_in_memory.Goals as goal

pub returns-in-Ok-clause-answered : goal.returns-in-Ok-clause-answered
returns-in-Ok-clause-answered g c =
    let made = c.in_ok-store.ensures.made (memory_is_clean (store_connection c.in_ok-store.store)) in
    subst
    (λ archive. AnswersRequestFromArchive (run archive (map spec_command c.args.commands.now)).archive c.args.policy.now c.args.day (g.R.Source.told c.args.peer.now.input)
    (g.R.Source.told c.run_and_answer.new.peer.input) (g.R.Source.ends c.args.peer.now.input) (g.R.Source.ends c.run_and_answer.new.peer.input) (g.W.Sink.told c.args.peer.now.output)
    (g.W.Sink.told c.run_and_answer.new.peer.output) c.in-Ok.answer)
    made.1 (c.in-Ok.ensures.answered (memory_is_clean (store_connection c.run_and_answer.new.store))
    made.0)
