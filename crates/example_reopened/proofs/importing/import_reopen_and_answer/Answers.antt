use Rattle.sqlite.specs.Files.{over_files}
use Rattle.archive_store.specs.State.{state_of}
use Rattle.archive_desk.specs.Importing.{IsImported}
use Rattle.archive_pages.specs.Headline.{AnswersRequestFromArchive}
use Rattle.archive_pages.proofs.RunningLemmas.{answers_first}
use Rattle.example_reopened.proofs.ReopenLemmas.{leads_still}
use Rattle.example_reopened.proofs.ImportLemmas.{of_imported}
use Rattle.example_reopened.proofs.importing.import_reopen_and_answer.Goals as goal

pub returns-clause-answered : goal.returns-clause-answered
returns-clause-answered g c =
    of_imported c.args.files c.in-Ok.done.0 c.answer-answered.new.store c.args.list.now c.args.mbox.now c.in-Ok.done.1
    (λ archive. AnswersRequestFromArchive archive c.args.policy.now c.args.day (g.R.Source.told c.args.input.now) (g.R.Source.told c.answer-answered.new.input)
    (g.R.Source.ends c.args.input.now) (g.R.Source.ends c.answer-answered.new.input) (g.W.Sink.told c.args.output.now)
    (g.W.Sink.told c.answer-answered.new.output) c.answer-answered.result)
    c.in-Ok.ensures.imported c.answer-answered.ensures.ends.stays.archive_is_same
    (λ returned held. answers_first (state_of over_files) c.in-Ok.done.0 c.answer-answered.new.store returned held c.args.policy.now c.args.day c.answer-answered.result
    (g.R.Source.told c.args.input.now) (g.R.Source.told c.answer-answered.new.input) (g.R.Source.ends c.args.input.now)
    (g.R.Source.ends c.answer-answered.new.input) (g.W.Sink.told c.args.output.now) (g.W.Sink.told c.answer-answered.new.output)
    c.answer-answered.ensures.answered)

pub returns-clause-stays : goal.returns-clause-stays
returns-clause-stays g c =
    leads_still c.args.files c.in-Ok.done.0 c.answer-answered.new.store (λ a b. IsImported c.args.list.now c.args.mbox.now a b c.in-Ok.done.1)
    c.in-Ok.ensures.imported c.answer-answered.ensures.ends.stays.archive_is_same
