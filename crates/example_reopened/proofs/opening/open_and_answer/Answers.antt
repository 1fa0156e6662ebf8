use Rattle.std.proofs.Common.{◌≡◌}
use Rattle.archive_pages.specs.Headline.{AnswersRequestFromArchive}
use Rattle.archive_pages.proofs.RunningLemmas.{answers_first}
use Rattle.sqlite.specs.Files.{over_files}
use Rattle.archive_store.specs.State.{state_of}
use Rattle.example_reopened.proofs.OpenLemmas.{caused_since, serves_held_archive, of_run}
use Rattle.example_reopened.proofs.ReopenLemmas.{leads_still, leads_to}
use Rattle.example_reopened.proofs.opening.open_and_answer.Goals as goal

pub returns-clause-answered : goal.returns-clause-answered
returns-clause-answered g c =
    serves_held_archive c.args.files c.in_ok-store.store c.answer-answered.new.store c.in_ok-store.ensures.opened c.answer-answered.ensures.ends.stays.archive_is_same.0
    (λ archive. AnswersRequestFromArchive archive c.args.policy.now c.args.day (g.R.Source.told c.args.peer.now.input) (g.R.Source.told c.answer-answered.new.input)
    (g.R.Source.ends c.args.peer.now.input) (g.R.Source.ends c.answer-answered.new.input) (g.W.Sink.told c.args.peer.now.output)
    (g.W.Sink.told c.answer-answered.new.output) c.answer-answered.result)
    (λ returned held. answers_first (state_of over_files) c.in_ok-store.store c.answer-answered.new.store returned held c.args.policy.now c.args.day c.answer-answered.result
    (g.R.Source.told c.args.peer.now.input) (g.R.Source.told c.answer-answered.new.input) (g.R.Source.ends c.args.peer.now.input)
    (g.R.Source.ends c.answer-answered.new.input) (g.W.Sink.told c.args.peer.now.output) (g.W.Sink.told c.answer-answered.new.output)
    c.answer-answered.ensures.answered)

pub returns-clause-commanded : goal.returns-clause-commanded
returns-clause-commanded g c =
    of_run c.args.files c.answer-answered.new.store
    (λ archive. AnswersRequestFromArchive archive c.args.policy.now c.args.day (g.R.Source.told c.args.peer.now.input) (g.R.Source.told c.answer-answered.new.input)
    (g.R.Source.ends c.args.peer.now.input) (g.R.Source.ends c.answer-answered.new.input) (g.W.Sink.told c.args.peer.now.output)
    (g.W.Sink.told c.answer-answered.new.output) c.answer-answered.result)
    (returns-clause-answered g c)

pub returns-clause-ends : goal.returns-clause-ends
returns-clause-ends g c = record {
  archive_is_kept = leads_still c.args.files c.in_ok-store.store c.answer-answered.new.store (λ a b. b ≡ a)
      (leads_to c.args.files c.in_ok-store.store c.in_ok-store.ensures.opened) c.answer-answered.ensures.ends.stays.archive_is_same;
  no_failure_if_ok = c.answer-answered.ensures.ends.quiet;
  cause = c.answer-answered.ensures.ends.cause;
  fault_has_cause = caused_since c.args.files c.in_ok-store.store c.answer-answered.new.store c.in_ok-store.ensures.opened c.answer-answered.ensures.ends.stays.archive_is_same.0
      c.answer-answered.result (g.R.Source.told c.args.peer.now.input) (g.R.Source.told c.answer-answered.new.input) c.args.policy.now c.args.day
      c.in_ok-store.ensures.unlimited c.answer-answered.ensures.caused;
}
