use Rattle.archive_pages.proofs.RunningLemmas.{answers_first, answers_second}
use Rattle.archive_store.specs.State.{state_of}
use Rattle.example_reopened.proofs.withdrawing.answer_both.Goals as goal

pub returns-clause-first : goal.returns-clause-first
returns-clause-first g c = λ returned held.
    answers_first (state_of g.S.Store) c.args.store.now c.answer-one.new.store (c.answer-other.ensures.ends.stays.archive_is_same.0.disk_was_clean returned) held c.args.policy.now c.args.day
    c.answer-one.result
    (g.R.Source.told c.args.first.now.input) (g.R.Source.told c.answer-one.new.input) (g.R.Source.ends c.args.first.now.input) (g.R.Source.ends c.answer-one.new.input)
    (g.W.Sink.told c.args.first.now.output) (g.W.Sink.told c.answer-one.new.output) c.answer-one.ensures.answered

pub returns-clause-second : goal.returns-clause-second
returns-clause-second g c = λ returned held.
    answers_second (state_of g.S.Store) c.args.store.now c.answer-one.new.store c.answer-other.new.store c.answer-one.result c.answer-one.ensures.ends.stays c.args.policy.now c.args.day
    c.answer-other.result (g.R.Source.told c.args.second.now.input) (g.R.Source.told c.answer-other.new.input) (g.R.Source.ends c.args.second.now.input)
    (g.R.Source.ends c.answer-other.new.input) (g.W.Sink.told c.args.second.now.output) (g.W.Sink.told c.answer-other.new.output)
    (c.answer-other.ensures.ends.stays.archive_is_same.0.disk_was_clean returned) returned held c.answer-other.ensures.answered

pub returns-clause-ends : goal.returns-clause-ends
returns-clause-ends g c = record {
  store_between = c.answer-one.new.store;
  first_ends = c.answer-one.ensures.ends;
  first_error_cause = c.answer-one.ensures.caused;
  second_ends = c.answer-other.ensures.ends;
  second_error_cause = c.answer-other.ensures.caused;
}
