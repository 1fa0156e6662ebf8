use Rattle.std.proofs.Common.{◌≡◌, subst}
use Rattle.std.specs.Option.{IsSomeAnd, option_map_or}
use Rattle.archive_results.specs.Access.{reader_name}
use Rattle.archive_cache.specs.Coherence.{IsCacheCoherent}
use Rattle.archive_pages.specs.Answers.{ask_of_reader, route_reply}
use Rattle.archive_pages.specs.Replies.{not_found}
use Rattle.archive_pages.specs.Calls.{EndsReplyFromPages}
use Rattle.archive_pages.specs.Causes.{IsRouteDataUnreadable, IsUnreadableOrReaderUnknown}
use Rattle.archive_pages.specs.KeptServing.{ServesFromArchiveIf}
use Rattle.archive_pages.proofs.UnroutedLemmas.{with_any, with_none, with_route}
use Rattle.archive_pages.proofs.paths.answer_path.Goals as goal

pub returns-in-Ok-Some-clause-sent : goal.returns-in-Ok-Some-clause-sent
returns-in-Ok-Some-clause-sent g c = subst
    (λ route. ServesFromArchiveIf g.S.ArchiveState c.args.store.now c.answer_route.new.store (λ a. IsCacheCoherent a c.args.pages.now.policy.now c.args.pages.now.day c.args.pages.now.kept)
    (λ a reply. reply ≡ option_map_or (route_reply a (ask_of_reader c.args.pages.now.policy.now c.args.pages.now.day (reader_name c.args.reader))) route not_found)
    (g.W.Sink.told c.args.output.now) (g.W.Sink.told c.answer_route.new.output) c.answer_route.result)
    (rw c.in-Ok-Some.field-0-is at c.in-Ok-Some.ensures.route) c.answer_route.ensures.sent

pub returns-in-Ok-Some-clause-unrouted : goal.returns-in-Ok-Some-clause-unrouted
returns-in-Ok-Some-clause-unrouted g c = with_route c.args.pages.now.routes _ _ _ (rw c.in-Ok-Some.field-0-is at c.in-Ok-Some.ensures.route)

pub returns-in-Ok-None-clause-unrouted : goal.returns-in-Ok-None-clause-unrouted
returns-in-Ok-None-clause-unrouted g c = with_any c.args.pages.now.routes (λ none. c.write_failure.ensures.sent)

pub returns-in-Err-clause-unrouted : goal.returns-in-Err-clause-unrouted
returns-in-Err-clause-unrouted g c = with_none c.args.pages.now.routes _ c.in-Err.ensures.made

pub returns-in-Ok-Some-clause-ends : goal.returns-in-Ok-Some-clause-ends
returns-in-Ok-Some-clause-ends g c = subst
    (λ fits. EndsReplyFromPages g.S.ArchiveState g.W.Sink c.args.store.now c.answer_route.new.store c.args.output.now c.answer_route.new.output c.answer_route.result
    (IsUnreadableOrReaderUnknown (λ a. IsSomeAnd fits (λ route. IsRouteDataUnreadable (ask_of_reader c.args.pages.now.policy.now c.args.pages.now.day (reader_name c.args.reader)) route a))
    (reader_name c.args.reader))
    c.args.pages.now c.answer_route.new.pages)
    (rw c.in-Ok-Some.field-0-is at c.in-Ok-Some.ensures.route) c.answer_route.ensures.ends
