use Rattle.std.proofs.Common.{◌≡◌, ◌∙◌, false, refl, subst}
use Rattle.archive_requests.specs.Routes.{mbox}
use Rattle.archive_requests.specs.Routing.{model_route}
use Rattle.archive_requests.specs.declared.routes.Route.{Route}
use Rattle.archive_requests.specs.declared.routes.Route.TheVariants.{Lists, Message, Month, Threads, Thread, Author, Mbox}
use Rattle.archive_results.specs.Access.{Ask, reader_name}
use Rattle.archive_cache.specs.Coherence.{KeepsCacheCoherent}
use Rattle.archive_pages.specs.Answers.{ask_of_reader, is_mbox_route, list_reply, reply_unless_mbox, route_reply}
use Rattle.archive_pages.specs.Calls.{IsCacheCoherentForAsk, IsPagesCacheCoherent}
use Rattle.archive_pages.specs.Causes.{IsListDataUnreadable, IsRouteDataUnreadable, IsUnreadableOrReaderUnknown, ServesOr503}
use Rattle.archive_pages.specs.KeptServing.{ServesFromArchiveIf}
use Rattle.archive_pages.specs.Seen.{model_reply}
use Rattle.archive_pages.proofs.CauseLemmas.{found_served}
use Rattle.archive_pages.proofs.KeptLemmas.{coherent_left, finds_left, finds_serves}
use Rattle.archive_pages.proofs.RouteLemmas.{other_route}
use Rattle.archive_pages.proofs.routing.answer_route.Goals as goal

pub returns-in-Mbox-clause-sent : goal.returns-in-Mbox-clause-sent
returns-in-Mbox-clause-sent g c = rw c.in-Mbox.is (
    subst
    (λ (q : Ask). ServesFromArchiveIf g.S.ArchiveState c.args.store.now c.answer_mbox.new.store (IsCacheCoherentForAsk q c.args.pages.now.kept) (λ a reply. reply ≡ list_reply a q (mbox q.list))
    (g.W.Sink.told c.args.output.now) (g.W.Sink.told c.answer_mbox.new.output) c.answer_mbox.result)
    c.ask_of-ask.ensures c.answer_mbox.ensures.sent)

pub returns-in-Mbox-clause-ends : goal.returns-in-Mbox-clause-ends
returns-in-Mbox-clause-ends g c = rw c.in-Mbox.is (
    record {
      ends_reply = c.answer_mbox.ensures.ends;
      fault_has_cause = subst (λ (q : Ask). ServesOr503 g.S.ArchiveState c.args.store.now c.answer_mbox.new.store c.answer_mbox.result (IsUnreadableOrReaderUnknown (IsListDataUnreadable q) q.reader))
          c.ask_of-ask.ensures
          c.answer_mbox.ensures.caused;
      changes_only_cache = record {
        only_cache_differs = refl;
        cache_stays_coherent = subst (λ (q : Ask). KeepsCacheCoherent g.S.ArchiveState c.args.store.now c.answer_mbox.new.store q.rules q.day c.args.pages.now.kept c.answer_mbox.new.kept)
            c.ask_of-ask.ensures
            c.answer_mbox.ensures.keeps;
      };
    })

pub returns-in_default-clause-sent : goal.returns-in_default-clause-sent
returns-in_default-clause-sent g c =
    let ask_of = ask_of_reader c.args.pages.now.policy.now c.args.pages.now.day (reader_name c.args.reader) in
    let route = c.args.route.now in
    finds_serves g.S.ArchiveState (g.W.Sink.told c.args.output.now) (g.W.Sink.told c.write_found.new.output) c.write_found.result
    c.args.store.now c.write_found.new.store c.find_page-found.result model_reply (IsPagesCacheCoherent c.args.pages.now)
    (λ a reply. model_reply reply ≡ reply_unless_mbox a ask_of (model_route route)) (λ a reply. reply ≡ route_reply a ask_of (model_route route))
    (finds_left g.S.ArchiveState c.args.store.now c.find_page-found.new.store c.write_found.new.store c.write_found.ensures.leaves c.find_page-found.result (IsPagesCacheCoherent c.args.pages.now)
    (λ a reply. model_reply reply ≡ reply_unless_mbox a ask_of (model_route route)) c.find_page-found.ensures.found) (λ a x is. is ∙ other_route route (no_mbox route refl) a ask_of)
    c.write_found.ensures.sent
  where
    no_mbox : (route : Route) → c.args.route.now ≡ route → is_mbox_route (model_route route) ≡ false
    no_mbox Lists is = refl
    no_mbox (Message list key) is = refl
    no_mbox (Month list month) is = refl
    no_mbox (Threads list) is = refl
    no_mbox (Thread list key) is = refl
    no_mbox (Author list author) is = refl
    no_mbox (Mbox list) is = absurd (c.in_default.not-Mbox list is)

pub returns-in_default-clause-ends : goal.returns-in_default-clause-ends
returns-in_default-clause-ends g c = record {
  ends_reply = c.write_found.ensures.ends;
  fault_has_cause = found_served g.S.ArchiveState c.args.store.now c.find_page-found.new.store c.write_found.new.store c.write_found.ensures.leaves.remains_open c.write_found.result
      (IsUnreadableOrReaderUnknown (IsRouteDataUnreadable (ask_of_reader c.args.pages.now.policy.now c.args.pages.now.day (reader_name c.args.reader)) (model_route c.args.route.now))
      (reader_name c.args.reader))
      c.find_page-found.result model_reply
      c.find_page-found.ensures.why.fault_has_cause c.find_page-found.ensures.why.status_is_not_503 c.write_found.ensures.counted;
  changes_only_cache = record {
    only_cache_differs = c.find_page-found.ensures.keeps.only_cache_differs;
    cache_stays_coherent = coherent_left g.S.ArchiveState c.args.store.now
        c.find_page-found.new.store c.write_found.new.store c.write_found.ensures.leaves.remains_open c.find_page-found.ensures.keeps.cache_stays_coherent;
  };
}
