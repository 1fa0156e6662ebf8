use Rattle.std.proofs.Common.{◌≡◌, ◌∙◌, inl, inr, None, Some, ap, rules, subst, sym}
use Rattle.archive_requests.specs.Asked.{model_request}
use Rattle.archive_requests.specs.declared.requests.Request.{Request}
use Rattle.archive_requests.specs.declared.requests.Request.TheVariants.{Asks}
use Rattle.archive_cache.specs.Coherence.{IsCacheCoherent}
use Rattle.std.specs.Prelude.{IfSome}
use Rattle.archive_pages.specs.Answers.{request_reply, unrouted_reply}
use Rattle.archive_pages.specs.Causes.{IsPathDataUnreadable, IsRequestDataUnreadable, IsUnreadableOrReaderUnknown, ServesOr503}
use Rattle.archive_pages.specs.Replies.{SendsReply}
use Rattle.archive_pages.proofs.UnroutedLemmas.{unrouted_nobody, with_any, with_same}
use Rattle.archive_pages.specs.KeptServing.{ServesFromArchiveIf}
use Rattle.archive_pages.proofs.CauseLemmas.{serves_or_as}
use Rattle.archive_pages.proofs.paths.answer_request.Goals as goal

pub returns-in-Asks-None-default-clause-sent : goal.returns-in-Asks-None-default-clause-sent
returns-in-Asks-None-default-clause-sent g c =
    let none : c.in-Asks-None-default.token ≡ None = search rules in
    subst (λ (r : Request). ServesFromArchiveIf g.S.ArchiveState c.args.store.now c.answer_path.new.store
    (λ a. IsCacheCoherent a c.args.pages.now.policy.now c.args.pages.now.day c.args.pages.now.kept)
    (λ a reply. reply ≡ request_reply a c.args.pages.now.policy.now c.args.pages.now.day (model_request r))
    (g.W.Sink.told c.args.output.now) (g.W.Sink.told c.answer_path.new.output) c.answer_path.result)
    (sym (c.in-Asks-None-default.is ∙ ap (λ t. Asks t c.in-Asks-None-default.path) none)) c.answer_path.ensures.sent

pub returns-in-Asks-Some-default-clause-sent : goal.returns-in-Asks-Some-default-clause-sent
returns-in-Asks-Some-default-clause-sent g c =
    let held : c.in-Asks-Some-default.token' ≡ Some c.in-Asks-Some-default.token = search rules in
    subst (λ (r : Request). ServesFromArchiveIf g.S.ArchiveState c.args.store.now c.answer_holder.new.store
    (λ a. IsCacheCoherent a c.args.pages.now.policy.now c.args.pages.now.day c.args.pages.now.kept)
    (λ a reply. reply ≡ request_reply a c.args.pages.now.policy.now c.args.pages.now.day (model_request r))
    (g.W.Sink.told c.args.output.now) (g.W.Sink.told c.answer_holder.new.output) c.answer_holder.result)
    (sym (c.in-Asks-Some-default.is ∙ ap (λ t. Asks t c.in-Asks-Some-default.path) held)) c.answer_holder.ensures.sent

pub returns-in-Bad-clause-unrouted : goal.returns-in-Bad-clause-unrouted
returns-in-Bad-clause-unrouted g c = rw c.in-Bad.is (with_any c.args.pages.now.routes tt)

pub returns-in-OtherMethod-clause-unrouted : goal.returns-in-OtherMethod-clause-unrouted
returns-in-OtherMethod-clause-unrouted g c = rw c.in-OtherMethod.is (with_any c.args.pages.now.routes tt)

pub returns-in-Unauthorized-clause-unrouted : goal.returns-in-Unauthorized-clause-unrouted
returns-in-Unauthorized-clause-unrouted g c = rw c.in-Unauthorized.is (with_any c.args.pages.now.routes tt)

pub returns-in-Asks-None-default-clause-unrouted : goal.returns-in-Asks-None-default-clause-unrouted
returns-in-Asks-None-default-clause-unrouted g c =
    let none : c.in-Asks-None-default.token ≡ None = search rules in
    subst (λ (r : Request). IfSome c.args.pages.now.routes (λ _. IfSome (unrouted_reply (model_request r))
    (λ wanted. SendsReply (λ reply. reply ≡ wanted) (g.W.Sink.told c.args.output.now) (g.W.Sink.told c.answer_path.new.output) c.answer_path.result)))
    (sym (c.in-Asks-None-default.is ∙ ap (λ t. Asks t c.in-Asks-None-default.path) none))
    (with_same c.args.pages.now.routes (unrouted_nobody
    (λ wanted. SendsReply (λ reply. reply ≡ wanted) (g.W.Sink.told c.args.output.now) (g.W.Sink.told c.answer_path.new.output) c.answer_path.result)
    c.in-Asks-None-default.path.now) c.answer_path.ensures.unrouted)

pub returns-in-Asks-Some-default-clause-unrouted : goal.returns-in-Asks-Some-default-clause-unrouted
returns-in-Asks-Some-default-clause-unrouted g c =
    let held : c.in-Asks-Some-default.token' ≡ Some c.in-Asks-Some-default.token = search rules in
    subst (λ (r : Request). IfSome c.args.pages.now.routes (λ _. IfSome (unrouted_reply (model_request r))
    (λ wanted. SendsReply (λ reply. reply ≡ wanted) (g.W.Sink.told c.args.output.now) (g.W.Sink.told c.answer_holder.new.output) c.answer_holder.result)))
    (sym (c.in-Asks-Some-default.is ∙ ap (λ t. Asks t c.in-Asks-Some-default.path) held)) (with_any c.args.pages.now.routes tt)

pub returns-in-Asks-None-default-clause-ends : goal.returns-in-Asks-None-default-clause-ends
returns-in-Asks-None-default-clause-ends g c =
    let policy = c.args.pages.now.policy.now in
    let day = c.args.pages.now.day in
    let path = c.in-Asks-None-default.path.now in
    let none : c.in-Asks-None-default.token ≡ None = search rules in
    record {
      ends_reply = c.answer_path.ensures.ends.ends_reply;
      fault_has_cause = subst (λ (r : Request). ServesOr503 g.S.ArchiveState c.args.store.now c.answer_path.new.store c.answer_path.result (IsRequestDataUnreadable policy day (model_request r)))
          (sym (c.in-Asks-None-default.is ∙ ap (λ t. Asks t c.in-Asks-None-default.path) none))
          (serves_or_as g.S.ArchiveState c.args.store.now c.answer_path.new.store c.answer_path.result (IsUnreadableOrReaderUnknown (IsPathDataUnreadable policy day path None) None)
          (IsPathDataUnreadable policy day path None) (λ a bad. elim bad [ inl unread ↦ unread | inr none ↦ absurd none ]) c.answer_path.ensures.ends.fault_has_cause);
      changes_only_cache = c.answer_path.ensures.ends.changes_only_cache;
    }

pub returns-in-Asks-Some-default-clause-ends : goal.returns-in-Asks-Some-default-clause-ends
returns-in-Asks-Some-default-clause-ends g c =
    let held : c.in-Asks-Some-default.token' ≡ Some c.in-Asks-Some-default.token = search rules in
    record {
      ends_reply = c.answer_holder.ensures.ends.ends_reply;
      fault_has_cause = subst (λ (r : Request). ServesOr503 g.S.ArchiveState c.args.store.now c.answer_holder.new.store c.answer_holder.result
          (IsRequestDataUnreadable c.args.pages.now.policy.now c.args.pages.now.day (model_request r)))
          (sym (c.in-Asks-Some-default.is ∙ ap (λ t. Asks t c.in-Asks-Some-default.path) held)) c.answer_holder.ensures.ends.fault_has_cause;
      changes_only_cache = c.answer_holder.ensures.ends.changes_only_cache;
    }
