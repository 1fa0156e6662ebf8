use Rattle.archive_pages.specs.Answered.{IsAnsweredFromStore, Sends404IfUnrouted}
use Rattle.archive_pages.specs.Causes.{IsReadRequestDataUnreadable, IsInputDataUnreadable}
use Rattle.archive_pages.proofs.CauseLemmas.{serves_or_as}
use Rattle.archive_pages.proofs.HeadReading.{begun_by, outcome_answered, outcome_cause, outcome_quiet, said_either, unread_in}
use Rattle.archive_pages.proofs.UnroutedLemmas.{with_same}
use Rattle.archive_pages.proofs.answering.answer_cached.Goals as goal

pub returns-clause-answered : goal.returns-clause-answered
returns-clause-answered g c = λ of.
    let told = c.in-Ok.ensures.read in
    outcome_answered c.answer_read.result (g.W.Sink.told c.args.output.now) (g.W.Sink.told c.answer_read.new.output) (g.W.Sink.failures c.args.output.now)
    (g.W.Sink.failures c.answer_read.new.output) _ _ c.answer_read.ensures.ends.ends_reply.cause (
      told.0,
      told.1,
      said_either told.0 c.in-Ok.read _ _ _
          (λ all. IsAnsweredFromStore g.S.ArchiveState c.args.store.now c.answer_read.new.store c.args.pages.now.policy.now c.args.pages.now.day told.0 all (g.W.Sink.told c.args.output.now)
          (g.W.Sink.told c.answer_read.new.output) c.answer_read.result)
          (λ more is. c.answer_read.ensures.answered of told.0 more is) told.2,
    )

pub returns-clause-ends : goal.returns-clause-ends
returns-clause-ends g c = record {
  stays = c.answer_read.ensures.stays;
  writes_nothing = c.answer_read.ensures.writes_nothing;
  quiet = outcome_quiet c.answer_read.result _ _ c.in-Ok.ensures.quiet c.answer_read.ensures.ends.ends_reply.no_failure_if_ok;
  cause = outcome_cause c.answer_read.result (g.W.Sink.told c.args.output.now) (g.W.Sink.told c.answer_read.new.output) (g.R.Source.failures c.args.input.now)
      (g.R.Source.failures c.read_request.new.input) (g.W.Sink.failures c.args.output.now) (g.W.Sink.failures c.answer_read.new.output)
      c.in-Ok.ensures.quiet c.answer_read.ensures.ends.ends_reply.cause;
}

pub returns-clause-unrouted : goal.returns-clause-unrouted
returns-clause-unrouted g c = with_same c.args.pages.now.routes
    (λ says.
    let told = c.in-Ok.ensures.read in
    outcome_answered c.answer_read.result (g.W.Sink.told c.args.output.now) (g.W.Sink.told c.answer_read.new.output) (g.W.Sink.failures c.args.output.now)
    (g.W.Sink.failures c.answer_read.new.output) _ _ c.answer_read.ensures.ends.ends_reply.cause (
      told.0,
      told.1,
      said_either told.0 c.in-Ok.read _ _ _ (λ all. Sends404IfUnrouted all (g.W.Sink.told c.args.output.now) (g.W.Sink.told c.answer_read.new.output) c.answer_read.result)
          (λ more is. says told.0 more is) told.2,
    )) c.answer_read.ensures.unrouted

pub returns-clause-caused : goal.returns-clause-caused
returns-clause-caused g c =
    let rules = c.args.pages.now.policy.now in
    let day = c.args.pages.now.day in
    let before = g.R.Source.told c.args.input.now in
    let after = g.R.Source.told c.read_request.new.input in
    let told = c.in-Ok.ensures.read in
    serves_or_as g.S.ArchiveState c.args.store.now c.answer_read.new.store c.answer_read.result (IsReadRequestDataUnreadable rules day c.in-Ok.read) (IsInputDataUnreadable before after rules day)
    (λ a bad. unread_in before after told.0 rules day a c.in-Ok.read told.1 (begun_by told.0 c.in-Ok.read _ _ _ told.2) bad) c.answer_read.ensures.ends.fault_has_cause
