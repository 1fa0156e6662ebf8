use Rattle.archive_pages.proofs.RunningLemmas.{answers_first}
use Rattle.example_memory.proofs.publishing.answer_client.Goals as goal

pub returns-clause-answered : goal.returns-clause-answered
returns-clause-answered g c = λ returned held.
    answers_first g.A.ArchiveState c.args.archive.now c.answer.new.store returned held c.args.policy.now c.args.day c.answer.result
    (g.R.Source.told c.args.client.now.input) (g.R.Source.told c.answer.new.input) (g.R.Source.ends c.args.client.now.input) (g.R.Source.ends c.answer.new.input)
    (g.W.Sink.told c.args.client.now.output) (g.W.Sink.told c.answer.new.output) c.answer.ensures.answered
