use Rattle.std.proofs.Common.{◌≡◌, List, Some, ℕ, inl, inr, refl, subst, sym}
use Rattle.archive_results.specs.Access.{Ask, reader_name}
use Rattle.archive_requests.specs.Routing.{model_route}
use Rattle.archive_requests.specs.declared.routes.Route.TheVariants.{Message}
use Rattle.archive_pages.specs.Answers.{ask_of_reader, reply_for_message, reply_unless_mbox}
use Rattle.archive_pages.specs.Calls.{IsCacheCoherentForAsk}
use Rattle.archive_pages.specs.Causes.{IsListDataUnreadable, IsRouteDataUnreadable, IsUnreadableOrReaderUnknown}
use Rattle.archive_pages.specs.Listings.{list_of_route, listing_reply}
use Rattle.archive_pages.proofs.RouteLemmas.{found_as, found_for, keeps_for, listed_message, listed_page, listed_unread, why_as, why_for}
use Rattle.archive_pages.proofs.routing.find_page.Goals as goal

pub returns-in-Message-clause-found : goal.returns-in-Message-clause-found
returns-in-Message-clause-found g c =
    let ask_of : List ℕ → Ask = ask_of_reader c.args.pages.now.policy.now c.args.pages.now.day (reader_name c.args.reader) in
    let list : List ℕ = c.in-Some.list.now in
    let named : Some list ≡ list_of_route (model_route c.args.route.now) = c.in-Some.ensures in
    let same : Some c.in-Message.list.now ≡ Some list = sym (subst (λ r. Some list ≡ list_of_route (model_route r)) c.in-Message.is named) in
    rw c.in-Message.is (
    found_as g.S.ArchiveState c.args.store.now c.find_message.new.store c.find_message.result (IsCacheCoherentForAsk (ask_of list) c.args.pages.now.kept)
    (reply_for_message (ask_of list) c.in-Message.key.now) (λ a. reply_unless_mbox a ask_of (model_route (Message c.in-Message.list c.in-Message.key)))
    (λ a. listed_message ask_of list refl a c.in-Message.list c.in-Message.key same)
    (found_for g.S.ArchiveState c.args.store.now c.find_message.new.store c.find_message.result c.ask_of-ask.ensures c.args.pages.now.kept
    (λ q. reply_for_message q c.in-Message.key.now) c.find_message.ensures.found))

pub returns-in_default-route : goal.returns-in_default-route
returns-in_default-route g c =
    let ask_of : List ℕ → Ask = ask_of_reader c.args.pages.now.policy.now c.args.pages.now.day (reader_name c.args.reader) in
    let list : List ℕ = c.in-Some.list.now in
    let route = model_route c.args.route.now in
    let reader = reader_name c.args.reader in
    record {
      found = found_as g.S.ArchiveState c.args.store.now c.find_listing.new.store c.find_listing.result (IsCacheCoherentForAsk (ask_of list) c.args.pages.now.kept)
          (λ a. listing_reply a (ask_of list) route) (λ a. reply_unless_mbox a ask_of route)
          (λ a. sym (listed_page ask_of list refl a c.args.route.now (sym c.in-Some.ensures) c.in_default-route.not-Message))
          (found_for g.S.ArchiveState c.args.store.now c.find_listing.new.store c.find_listing.result c.ask_of-ask.ensures c.args.pages.now.kept (λ q a. listing_reply a q route)
          c.find_listing.ensures.found);
      why = why_as g.S.ArchiveState c.args.store.now c.find_listing.new.store c.find_listing.result (IsUnreadableOrReaderUnknown (IsListDataUnreadable (ask_of list)) reader)
          (IsUnreadableOrReaderUnknown (IsRouteDataUnreadable ask_of route) reader)
          (λ a bad. elim bad [
            | inl unread ↦ inl (listed_unread ask_of list refl a c.args.route.now (sym c.in-Some.ensures) c.in_default-route.not-Message unread)
            | inr none ↦ inr none
          ])
          (why_for g.S.ArchiveState c.args.store.now c.find_listing.new.store c.find_listing.result c.ask_of-ask.ensures IsListDataUnreadable c.find_listing.ensures.why);
      keeps = record {
        only_cache_differs = refl;
        cache_stays_coherent = keeps_for g.S.ArchiveState c.args.store.now c.find_listing.new.store c.find_listing.result c.ask_of-ask.ensures c.args.pages.now.kept c.find_listing.new.kept
            c.find_listing.ensures.keeps;
      };
      writes_nothing = c.find_listing.ensures.writes_nothing;
    }
