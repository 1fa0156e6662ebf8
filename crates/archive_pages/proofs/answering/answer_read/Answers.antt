use Rattle.std.proofs.Common.{◌≡◌, ◌++◌, subst}
use Rattle.archive_requests.specs.Asked.{model_request}
use Rattle.archive_requests.specs.Reading.{IsRequestReadOfInput}
use Rattle.archive_cache.specs.Coherence.{IsCacheCoherent}
use Rattle.archive_pages.specs.Answers.{request_reply}
use Rattle.archive_pages.proofs.HeadReading.{to_bad, to_large, to_whole}
use Rattle.archive_pages.proofs.KeptLemmas.{serves_of_remembered, stays_kept}
use Rattle.archive_pages.proofs.ServingLemmas.{stays_unasked}
use Rattle.archive_pages.proofs.UnroutedLemmas.{unrouted_bad, unrouted_large, unrouted_whole, with_any, with_same}
use Rattle.archive_pages.proofs.answering.answer_read.Goals as goal

pub returns-in-Whole-clause-answered : goal.returns-in-Whole-clause-answered
returns-in-Whole-clause-answered g c = λ of given more is.
    to_whole g.S.ArchiveState c.args.pages.now.policy.now c.args.pages.now.day given more (g.W.Sink.told c.args.output.now) (g.W.Sink.told c.answer_request.new.output)
    c.answer_request.result c.args.store.now c.answer_request.new.store c.in-Whole.request (subst (IsRequestReadOfInput given (given ++ more)) c.in-Whole.is is)
    (serves_of_remembered g.S.ArchiveState (g.W.Sink.told c.args.output.now) (g.W.Sink.told c.answer_request.new.output) c.answer_request.result c.args.store.now
    c.answer_request.new.store (λ a. IsCacheCoherent a c.args.pages.now.policy.now c.args.pages.now.day c.args.pages.now.kept)
    (λ a reply. reply ≡ request_reply a c.args.pages.now.policy.now c.args.pages.now.day (model_request c.in-Whole.request)) of c.answer_request.ensures.sent)
    c.answer_request.ensures.direct

pub returns-in-Malformed-clause-answered : goal.returns-in-Malformed-clause-answered
returns-in-Malformed-clause-answered g c = λ of given more is.
    to_bad g.S.ArchiveState c.args.pages.now.policy.now c.args.pages.now.day given (given ++ more) (g.W.Sink.told c.args.output.now) (g.W.Sink.told c.write_failure.new.output)
    c.write_failure.result c.args.store.now (subst (IsRequestReadOfInput given (given ++ more)) c.in-Malformed.is is) c.write_failure.ensures.sent

pub returns-in-TooLarge-clause-answered : goal.returns-in-TooLarge-clause-answered
returns-in-TooLarge-clause-answered g c = λ of given more is.
    to_large g.S.ArchiveState c.args.pages.now.policy.now c.args.pages.now.day given (given ++ more) (g.W.Sink.told c.args.output.now)
    (g.W.Sink.told c.write_failure-in-TooLarge.new.output) c.write_failure-in-TooLarge.result c.args.store.now (subst (IsRequestReadOfInput given (given ++ more)) c.in-TooLarge.is is)
    c.write_failure-in-TooLarge.ensures.sent

pub returns-in-Whole-clause-stays : goal.returns-in-Whole-clause-stays
returns-in-Whole-clause-stays g c =
    stays_kept g.S.ArchiveState (g.W.Sink.told c.args.output.now) (g.W.Sink.told c.answer_request.new.output) c.answer_request.result c.args.store.now
    c.answer_request.new.store (λ a. IsCacheCoherent a c.args.pages.now.policy.now c.args.pages.now.day c.args.pages.now.kept)
    (λ a reply. reply ≡ request_reply a c.args.pages.now.policy.now c.args.pages.now.day (model_request c.in-Whole.request)) c.answer_request.ensures.sent

pub returns-in-Malformed-clause-stays : goal.returns-in-Malformed-clause-stays
returns-in-Malformed-clause-stays g c = stays_unasked g.S.ArchiveState c.args.store.now c.write_failure.result

pub returns-in-TooLarge-clause-stays : goal.returns-in-TooLarge-clause-stays
returns-in-TooLarge-clause-stays g c = stays_unasked g.S.ArchiveState c.args.store.now c.write_failure-in-TooLarge.result

pub returns-in-Whole-clause-unrouted : goal.returns-in-Whole-clause-unrouted
returns-in-Whole-clause-unrouted g c = with_same c.args.pages.now.routes
    (λ sent given more is. unrouted_whole given more (g.W.Sink.told c.args.output.now) (g.W.Sink.told c.answer_request.new.output) c.answer_request.result
    c.in-Whole.request (subst (IsRequestReadOfInput given (given ++ more)) c.in-Whole.is is) sent) c.answer_request.ensures.unrouted

pub returns-in-Malformed-clause-unrouted : goal.returns-in-Malformed-clause-unrouted
returns-in-Malformed-clause-unrouted g c = with_any c.args.pages.now.routes
    (λ given more is. unrouted_bad given more (g.W.Sink.told c.args.output.now) (g.W.Sink.told c.write_failure.new.output) c.write_failure.result
    (subst (IsRequestReadOfInput given (given ++ more)) c.in-Malformed.is is))

pub returns-in-TooLarge-clause-unrouted : goal.returns-in-TooLarge-clause-unrouted
returns-in-TooLarge-clause-unrouted g c = with_any c.args.pages.now.routes
    (λ given more is. unrouted_large given more (g.W.Sink.told c.args.output.now) (g.W.Sink.told c.write_failure-in-TooLarge.new.output)
    c.write_failure-in-TooLarge.result (subst (IsRequestReadOfInput given (given ++ more)) c.in-TooLarge.is is))

pub returns-in-Whole-clause-ends : goal.returns-in-Whole-clause-ends
returns-in-Whole-clause-ends g c = rw c.in-Whole.is (
    record {
      ends_reply = c.answer_request.ensures.ends.ends_reply;
      fault_has_cause = c.answer_request.ensures.ends.fault_has_cause;
      changes_only_cache =
          c.answer_request.ensures.ends.changes_only_cache;
    })
